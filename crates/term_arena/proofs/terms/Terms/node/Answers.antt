use Rattle.std.proofs.Common.{◌≡◌, take, Some, ap, sym, ◌∙◌, subst, rules}
use Rattle.std.specs.Prelude.{slice_get}
use Rattle.term_tree.specs.Terms.{IsTyped}
use Rattle.term_arena.specs.Answers.{app_node}
use Rattle.term_arena.specs.Nodes.{var_node, sel_node}
use Rattle.term_arena.specs.Arena.{plain, arguments}
use Rattle.term_arena.proofs.ViewLemmas.{node_now, tree_now, term_now, term_key_now, args_now}
use Rattle.term_arena.proofs.terms.Terms.node.Goals as goal

pub unreachable-requires : goal.unreachable-requires
unreachable-requires c =
    let e : slice_get c.self.inside.keys.keys c.args.id.number ≡ Some c.unwrap.result.now = search rules in
    let t = subst IsTyped (tree_now c.self.inside.names c.self.inside.keys.keys c.self.inside.facts.items c.self.invariant c.args.self.now c.self.view_is c.args.id.number c.unwrap.result.now e) c.requires.id in
    term_key_now c.self.inside.names c.self.inside.keys.keys c.self.inside.facts.items c.self.invariant c.args.self.now c.self.view_is c.unwrap.result.now t c.in_default.not-Lit c.in_default.not-Var c.in_default.not-One c.in_default.not-Two c.in_default.not-Three c.in_default.not-Sel

pub returns-in-Lit-clause-node : goal.returns-in-Lit-clause-node
returns-in-Lit-clause-node c =
    let e : slice_get c.self.inside.keys.keys c.args.id.number ≡ Some c.unwrap.result.now = search rules in
    let n = node_now c.self.inside.names c.self.inside.keys.keys c.self.inside.facts.items c.self.invariant c.args.self.now c.self.view_is c.args.id.number c.unwrap.result.now e ∙ ap (λ k. Some (plain c.self.inside.names k)) c.in-Lit.is in
    n

pub returns-in-Lit-clause-term : goal.returns-in-Lit-clause-term
returns-in-Lit-clause-term c = term_now c.self.inside.names c.self.inside.keys.keys c.self.inside.facts.items c.self.invariant c.args.self.now c.self.view_is c.args.id.number _ (returns-in-Lit-clause-node c)

pub returns-in-Var-clause-node : goal.returns-in-Var-clause-node
returns-in-Var-clause-node c =
    let e : slice_get c.self.inside.keys.keys c.args.id.number ≡ Some c.unwrap.result.now = search rules in
    let n = node_now c.self.inside.names c.self.inside.keys.keys c.self.inside.facts.items c.self.invariant c.args.self.now c.self.view_is c.args.id.number c.unwrap.result.now e ∙ ap (λ k. Some (plain c.self.inside.names k)) c.in-Var.is in
    n ∙ ap (λ x. Some (var_node x c.in-Var.width)) (sym c.get.ensures)

pub returns-in-Var-clause-term : goal.returns-in-Var-clause-term
returns-in-Var-clause-term c = term_now c.self.inside.names c.self.inside.keys.keys c.self.inside.facts.items c.self.invariant c.args.self.now c.self.view_is c.args.id.number _ (returns-in-Var-clause-node c)

pub returns-in-One-clause-node : goal.returns-in-One-clause-node
returns-in-One-clause-node c =
    let e : slice_get c.self.inside.keys.keys c.args.id.number ≡ Some c.unwrap.result.now = search rules in
    let n = node_now c.self.inside.names c.self.inside.keys.keys c.self.inside.facts.items c.self.invariant c.args.self.now c.self.view_is c.args.id.number c.unwrap.result.now e ∙ ap (λ k. Some (plain c.self.inside.names k)) c.in-One.is in
    let a = ap (λ r. r.args) c.index.ensures ∙ args_now c.self.inside.names c.self.inside.keys.keys c.self.inside.facts.items c.self.invariant c.args.self.now c.self.view_is c.args.id.number c.index.result.now c.unwrap.result.now e ∙ ap arguments c.in-One.is in
    n ∙ ap (λ l. Some (app_node c.in-One.op (take 1 l))) (sym a)

pub returns-in-One-clause-term : goal.returns-in-One-clause-term
returns-in-One-clause-term c = term_now c.self.inside.names c.self.inside.keys.keys c.self.inside.facts.items c.self.invariant c.args.self.now c.self.view_is c.args.id.number _ (returns-in-One-clause-node c)

pub returns-in-Two-clause-node : goal.returns-in-Two-clause-node
returns-in-Two-clause-node c =
    let e : slice_get c.self.inside.keys.keys c.args.id.number ≡ Some c.unwrap.result.now = search rules in
    let n = node_now c.self.inside.names c.self.inside.keys.keys c.self.inside.facts.items c.self.invariant c.args.self.now c.self.view_is c.args.id.number c.unwrap.result.now e ∙ ap (λ k. Some (plain c.self.inside.names k)) c.in-Two.is in
    let a = ap (λ r. r.args) c.index-in-Two.ensures ∙ args_now c.self.inside.names c.self.inside.keys.keys c.self.inside.facts.items c.self.invariant c.args.self.now c.self.view_is c.args.id.number c.index-in-Two.result.now c.unwrap.result.now e ∙ ap arguments c.in-Two.is in
    n ∙ ap (λ l. Some (app_node c.in-Two.op (take 2 l))) (sym a)

pub returns-in-Two-clause-term : goal.returns-in-Two-clause-term
returns-in-Two-clause-term c = term_now c.self.inside.names c.self.inside.keys.keys c.self.inside.facts.items c.self.invariant c.args.self.now c.self.view_is c.args.id.number _ (returns-in-Two-clause-node c)

pub returns-in-Three-clause-node : goal.returns-in-Three-clause-node
returns-in-Three-clause-node c =
    let e : slice_get c.self.inside.keys.keys c.args.id.number ≡ Some c.unwrap.result.now = search rules in
    let n = node_now c.self.inside.names c.self.inside.keys.keys c.self.inside.facts.items c.self.invariant c.args.self.now c.self.view_is c.args.id.number c.unwrap.result.now e ∙ ap (λ k. Some (plain c.self.inside.names k)) c.in-Three.is in
    let a = ap (λ r. r.args) c.index-in-Three.ensures ∙ args_now c.self.inside.names c.self.inside.keys.keys c.self.inside.facts.items c.self.invariant c.args.self.now c.self.view_is c.args.id.number c.index-in-Three.result.now c.unwrap.result.now e ∙ ap arguments c.in-Three.is in
    n ∙ ap (λ l. Some (app_node c.in-Three.op (l))) (sym a)

pub returns-in-Three-clause-term : goal.returns-in-Three-clause-term
returns-in-Three-clause-term c = term_now c.self.inside.names c.self.inside.keys.keys c.self.inside.facts.items c.self.invariant c.args.self.now c.self.view_is c.args.id.number _ (returns-in-Three-clause-node c)

pub returns-in-Sel-clause-node : goal.returns-in-Sel-clause-node
returns-in-Sel-clause-node c =
    let e : slice_get c.self.inside.keys.keys c.args.id.number ≡ Some c.unwrap.result.now = search rules in
    let n = node_now c.self.inside.names c.self.inside.keys.keys c.self.inside.facts.items c.self.invariant c.args.self.now c.self.view_is c.args.id.number c.unwrap.result.now e ∙ ap (λ k. Some (plain c.self.inside.names k)) c.in-Sel.is in
    n ∙ ap (λ x. Some (sel_node x c.in-Sel.at.number)) (sym c.get-in-Sel.ensures)

pub returns-in-Sel-clause-term : goal.returns-in-Sel-clause-term
returns-in-Sel-clause-term c = term_now c.self.inside.names c.self.inside.keys.keys c.self.inside.facts.items c.self.invariant c.args.self.now c.self.view_is c.args.id.number _ (returns-in-Sel-clause-node c)
