use Rattle.std.proofs.Common.{◌≡◌, Some, ap, sym, ◌∙◌, rules}
use Rattle.std.specs.Prelude.{slice_get}
use Rattle.term_arena.specs.declared.node.Key.TheVariants as key
use Rattle.term_arena.specs.Nodes.{meanings_of}
use Rattle.term_arena.proofs.ViewLemmas.{tree_now}
use Rattle.term_arena.proofs.ByteLemmas.{key_found, array_found, no_array, byte_key}
use Rattle.term_arena.proofs.terms.Terms.array_of_byte.Goals as goal

pub returns-in_default : goal.returns-in_default
returns-in_default c f i e =
    let h : slice_get c.self.inside.keys.keys c.args.byte.number ≡ Some c.unwrap.result.now = search rules in
    let t = tree_now c.self.inside.names c.self.inside.keys.keys c.self.inside.facts.items c.self.invariant c.args.self.now c.self.view_is c.args.byte.number c.unwrap.result.now h in
    absurd (byte_key (meanings_of c.args.self.now) c.self.inside.names c.unwrap.result.now f i (sym t ∙ e) c.in_default.not-Sel)

pub returns-in-Some : goal.returns-in-Some
returns-in-Some c f i e =
    let g : slice_get c.self.inside.keys.keys c.args.byte.number ≡ Some c.unwrap.result.now = search rules in
    let h = g ∙ ap Some c.in-Sel.is in
    array_found c.self.inside.names c.self.inside.keys.keys c.self.inside.facts.items c.self.invariant c.args.self.now c.self.view_is c.args.byte.number c.in-Sel.of c.in-Sel.at h f i e
    c.in-Some.place (key_found (key.Array c.in-Sel.of) c.self.inside.keys.keys c.in-Some.place (sym c.in-Some.ensures.index))

pub returns-in-None : goal.returns-in-None
returns-in-None c f i e =
    let g : slice_get c.self.inside.keys.keys c.args.byte.number ≡ Some c.unwrap.result.now = search rules in
    let h = g ∙ ap Some c.in-Sel.is in
    no_array c.self.inside.names c.self.inside.keys.keys c.self.inside.facts.items c.self.invariant c.args.self.now c.self.view_is c.args.byte.number c.in-Sel.of c.in-Sel.at h f i e (sym c.in-None.ensures.found)
