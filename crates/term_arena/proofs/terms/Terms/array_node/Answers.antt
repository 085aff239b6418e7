use Rattle.std.proofs.Common.{◌≡◌, Some, ap, ◌∙◌, subst, rules}
use Rattle.std.specs.Prelude.{slice_get}
use Rattle.term_tree.specs.Terms.{IsTypedArray}
use Rattle.term_arena.specs.Nodes.{as_array, meaning_by, meanings_of}
use Rattle.term_arena.specs.Arena.{plain}
use Rattle.term_arena.proofs.ViewLemmas.{node_now, array_tree_now, array_key_now, arena_now}
use Rattle.term_arena.proofs.EqualLemmas.{parts_below}
use Rattle.term_arena.proofs.StayLemmas.{array_stays, upd_top, splice_top}
use Rattle.term_arena.proofs.terms.Terms.array_node.Goals as goal

pub unreachable-requires : goal.unreachable-requires
unreachable-requires c =
    let e : slice_get c.self.inside.keys.keys c.args.id.number ≡ Some c.unwrap.result.now = search rules in
    let t = subst IsTypedArray (array_tree_now c.self.inside.names c.self.inside.keys.keys c.self.inside.facts.items c.self.invariant c.args.self.now c.self.view_is c.args.id.number c.unwrap.result.now e) c.requires.id in
    array_key_now c.self.inside.names c.self.inside.keys.keys c.self.inside.facts.items c.self.invariant c.args.self.now c.self.view_is c.unwrap.result.now t c.in_default.not-Array c.in_default.not-Upd c.in_default.not-Splice

pub returns-in-Array : goal.returns-in-Array
returns-in-Array c =
    let e : slice_get c.self.inside.keys.keys c.args.id.number ≡ Some c.unwrap.result.now = search rules in
    let n = node_now c.self.inside.names c.self.inside.keys.keys c.self.inside.facts.items c.self.invariant c.args.self.now c.self.view_is c.args.id.number c.unwrap.result.now e ∙ ap (λ k. Some (plain c.self.inside.names k)) c.in-Array.is in
    let m = array_tree_now c.self.inside.names c.self.inside.keys.keys c.self.inside.facts.items c.self.invariant c.args.self.now c.self.view_is c.args.id.number c.unwrap.result.now e ∙ ap (λ k. as_array (meaning_by (meanings_of c.args.self.now) (plain c.self.inside.names k))) c.in-Array.is in
    (_, n, λ last k. array_stays c.args.self.now last k c.args.id c.requires.id ∙ m)

pub returns-in-Upd : goal.returns-in-Upd
returns-in-Upd c =
    let e : slice_get c.self.inside.keys.keys c.args.id.number ≡ Some c.unwrap.result.now = search rules in
    let n = node_now c.self.inside.names c.self.inside.keys.keys c.self.inside.facts.items c.self.invariant c.args.self.now c.self.view_is c.args.id.number c.unwrap.result.now e ∙ ap (λ k. Some (plain c.self.inside.names k)) c.in-Upd.is in
    let m = array_tree_now c.self.inside.names c.self.inside.keys.keys c.self.inside.facts.items c.self.invariant c.args.self.now c.self.view_is c.args.id.number c.unwrap.result.now e ∙ ap (λ k. as_array (meaning_by (meanings_of c.args.self.now) (plain c.self.inside.names k))) c.in-Upd.is in
    let p = parts_below c.args.self.now (arena_now c.self.inside.names c.self.inside.keys.keys c.self.inside.facts.items c.self.invariant c.args.self.now c.self.view_is) c.args.id.number _ n in
    (upd_top c.args.self.now c.args.id c.requires.id c.in-Upd.of c.in-Upd.at c.in-Upd.by m, p.0, p.1, p.2)

pub returns-in-Splice : goal.returns-in-Splice
returns-in-Splice c =
    let e : slice_get c.self.inside.keys.keys c.args.id.number ≡ Some c.unwrap.result.now = search rules in
    let n = node_now c.self.inside.names c.self.inside.keys.keys c.self.inside.facts.items c.self.invariant c.args.self.now c.self.view_is c.args.id.number c.unwrap.result.now e ∙ ap (λ k. Some (plain c.self.inside.names k)) c.in-Splice.is in
    let m = array_tree_now c.self.inside.names c.self.inside.keys.keys c.self.inside.facts.items c.self.invariant c.args.self.now c.self.view_is c.args.id.number c.unwrap.result.now e ∙ ap (λ k. as_array (meaning_by (meanings_of c.args.self.now) (plain c.self.inside.names k))) c.in-Splice.is in
    let p = parts_below c.args.self.now (arena_now c.self.inside.names c.self.inside.keys.keys c.self.inside.facts.items c.self.invariant c.args.self.now c.self.view_is) c.args.id.number _ n in
    (splice_top c.args.self.now c.args.id c.requires.id c.in-Splice.of c.in-Splice.below c.in-Splice.at m, p.0, p.1, p.2)
