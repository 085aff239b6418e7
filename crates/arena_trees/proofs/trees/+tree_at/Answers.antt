use Rattle.std.proofs.Common.{List, ap, sym, ◌∙◌, arith, get_or, map}
use Rattle.term_arena.specs.Answers.{id_term}
use Rattle.term_tree.specs.declared.term.Term.{Term}
use Rattle.term_tree.specs.Terms.{Tree, three, applied}
use Rattle.term_tree.specs.View.{tree}
use Rattle.term_tree.proofs.ViewLemmas.{tree_app}
use Rattle.term_arena.proofs.TopLemmas.{one_args, two_args, three_args, sel_at}
use Rattle.arena_trees.proofs.trees.+tree_at.Goals as goal

pub tree_at-requires : goal.tree_at-requires
tree_at-requires t c =
    let p = one_args c.args.terms.now c.laws.ensures.arena c.args.id.number c.requires.id c.in-App.op c.in-App.args.now c.in-App.ensures.node c.in-len1.len_at_least c.in-len1.len_below in
    let d = c.decreases in
    (omega (arith, d, p.0), p.1)

pub tree_at-requires-in-len2 : goal.tree_at-requires-in-len2
tree_at-requires-in-len2 t c =
    let p = two_args c.args.terms.now c.laws.ensures.arena c.args.id.number c.requires.id c.in-App.op c.in-App.args.now c.in-App.ensures.node c.in-len2.len_at_least c.in-len2.len_below in
    let d = c.decreases in
    let q = p.0.0 in
    (omega (arith, d, q), p.1.0)

pub tree_at-requires-in-len2-2 : goal.tree_at-requires-in-len2-2
tree_at-requires-in-len2-2 t c =
    let p = two_args c.args.terms.now c.laws.ensures.arena c.args.id.number c.requires.id c.in-App.op c.in-App.args.now c.in-App.ensures.node c.in-len2.len_at_least c.in-len2.len_below in
    let d = c.decreases in
    let q = p.0.1 in
    (omega (arith, d, q), p.1.1)

pub tree_at-requires-in-len3 : goal.tree_at-requires-in-len3
tree_at-requires-in-len3 t c =
    let p = three_args c.args.terms.now c.laws.ensures.arena c.args.id.number c.requires.id c.in-App.op c.in-App.args.now c.in-App.ensures.node c.in-len3.len_at_least c.in-len3.len_below in
    let d = c.decreases in
    let q = p.0.0 in
    (omega (arith, d, q), p.1.0)

pub tree_at-requires-in-len3-2 : goal.tree_at-requires-in-len3-2
tree_at-requires-in-len3-2 t c =
    let p = three_args c.args.terms.now c.laws.ensures.arena c.args.id.number c.requires.id c.in-App.op c.in-App.args.now c.in-App.ensures.node c.in-len3.len_at_least c.in-len3.len_below in
    let d = c.decreases in
    let q = p.0.1 in
    (omega (arith, d, q), p.1.1)

pub tree_at-requires-in-len3-3 : goal.tree_at-requires-in-len3-3
tree_at-requires-in-len3-3 t c =
    let p = three_args c.args.terms.now c.laws.ensures.arena c.args.id.number c.requires.id c.in-App.op c.in-App.args.now c.in-App.ensures.node c.in-len3.len_at_least c.in-len3.len_below in
    let d = c.decreases in
    let q = p.0.2 in
    (omega (arith, d, q), p.1.2)

pub tree_at-requires-in-Sel : goal.tree_at-requires-in-Sel
tree_at-requires-in-Sel t c =
    let p = sel_at c.args.terms.now c.laws.ensures.arena c.args.id.number c.requires.id c.in-Sel.of.now c.in-Sel.at c.in-Sel.ensures.node in
    let d = c.decreases in
    (omega (arith, d, p.0), p.1)

pub returns-in_ok-args-in-len3 : goal.returns-in_ok-args-in-len3
returns-in_ok-args-in-len3 t c =
    let p = three_args c.args.terms.now c.laws.ensures.arena c.args.id.number c.requires.id c.in-App.op c.in-App.args.now c.in-App.ensures.node c.in-len3.len_at_least c.in-len3.len_below in
    record {
      tree =
          tree_app c.in-App.op c.in_ok-args-in-len3.args ∙ ap (λ (xs : List Term). applied c.in-App.op (map tree xs)) c.in_ok-args-in-len3.ensures.list
          ∙ ap (λ (x : Tree). three c.in-App.op x (tree c.in_ok-b-in-len3.b) (tree c.in_ok-c-in-len3.c)) c.in_ok-a-in-len3.ensures.tree
          ∙ ap (λ (x : Tree). three c.in-App.op (id_term c.args.terms.now (get_or c.in-App.args.now 0 (record { number = 0 }))) x (tree c.in_ok-c-in-len3.c)) c.in_ok-b-in-len3.ensures.tree
          ∙ ap (λ (x : Tree). three c.in-App.op (id_term c.args.terms.now (get_or c.in-App.args.now 0 (record { number = 0 }))) (id_term c.args.terms.now (get_or c.in-App.args.now 1 (record { number = 0 }))) x) c.in_ok-c-in-len3.ensures.tree
          ∙ sym p.2;
    }
