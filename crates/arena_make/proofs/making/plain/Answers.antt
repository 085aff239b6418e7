use Rattle.std.proofs.Common.{List, map, ap, sym, arith, subst}
use Rattle.term_tree.specs.Terms.{Tree, IsTyped, applied}
use Rattle.term_arena.specs.declared.node.TermId.{TermId}
use Rattle.term_arena.specs.Answers.{id_term}
use Rattle.term_arena.specs.Said.{Said, single}
use Rattle.term_arena.proofs.ArgsLemmas.{one_of, two_of}
use Rattle.term_arena.proofs.ArgsLemmas.{three_of, few_args}
use Rattle.term_arena.proofs.MakesLemmas.{makes_as}
use Rattle.arena_make.proofs.making.plain.Goals as goal
use Rattle.arena_make.proofs.making.plain.Goals.{in_default-via-then-args-lt1, in_default-via-else-args-lt1+else-args-lt2+else-args-lt3+else-args-lt4}

pub unreachable-requires : goal.unreachable-requires
unreachable-requires c =
    let few = few_args c.args.op (id_term c.args.terms.now) c.args.args.now c.requires.typed in
    elim c.in_default.branch [ in_default-via-then-args-lt1 w ↦ (let a = few.0 in let b = few.1 in grind arith) | in_default-via-else-args-lt1+else-args-lt2+else-args-lt3+else-args-lt4 w ↦ (let a = few.0 in let b = few.1 in grind arith) ]

pub add_term-requires-in-len3-clause-typed : goal.add_term-requires-in-len3-clause-typed
add_term-requires-in-len3-clause-typed c =
    let e = three_of c.args.args.now (record { number = 0 }) c.in-len3.len_at_least c.in-len3.len_below in
    subst (λ (l : List TermId). IsTyped (applied c.args.op (map (id_term c.args.terms.now) l))) e c.requires.typed

pub returns-in-len1-clause-makes : goal.returns-in-len1-clause-makes
returns-in-len1-clause-makes c =
    let e = one_of c.args.args.now (record { number = 0 }) c.in-len1.len_at_least c.in-len1.len_below in
    makes_as c.add_term.ensures.makes (λ last k. ap (λ (l : List TermId). let s : Said ⊥ Tree = single (applied c.args.op (map (id_term last) l)) in s) (sym e))

pub returns-in-len2-clause-makes : goal.returns-in-len2-clause-makes
returns-in-len2-clause-makes c =
    let e = two_of c.args.args.now (record { number = 0 }) c.in-len2.len_at_least c.in-len2.len_below in
    makes_as c.add_term-in-len2.ensures.makes (λ last k. ap (λ (l : List TermId). let s : Said ⊥ Tree = single (applied c.args.op (map (id_term last) l)) in s) (sym e))

pub returns-in-len3-clause-makes : goal.returns-in-len3-clause-makes
returns-in-len3-clause-makes c =
    let e = three_of c.args.args.now (record { number = 0 }) c.in-len3.len_at_least c.in-len3.len_below in
    makes_as c.add_term-in-len3.ensures.makes (λ last k. ap (λ (l : List TermId). let s : Said ⊥ Tree = single (applied c.args.op (map (id_term last) l)) in s) (sym e))
