use Rattle.std.proofs.Common.{◌≡◌, Some, ap, ◌∙◌, rules}
use Rattle.std.specs.Prelude.{slice_get}
use Rattle.term_arena.specs.Nodes.{as_term, meaning_by, meanings_of}
use Rattle.term_arena.specs.Arena.{plain}
use Rattle.term_arena.proofs.ViewLemmas.{tree_now, other_now}
use Rattle.term_arena.proofs.terms.TermsNodesTermId.shape.Goals as goal

pub returns-in-Lit : goal.returns-in-Lit
returns-in-Lit c =
    let e : slice_get c.self.inside.keys.keys c.args.of.number ≡ Some c.unwrap.result.now = search rules in
    record { shape = tree_now c.self.inside.names c.self.inside.keys.keys c.self.inside.facts.items c.self.invariant c.args.self.now c.self.view_is c.args.of.number c.unwrap.result.now e ∙ ap (λ k. as_term (meaning_by (meanings_of c.args.self.now) (plain c.self.inside.names k))) c.in-Lit.is }

pub returns-in-One : goal.returns-in-One
returns-in-One c =
    let e : slice_get c.self.inside.keys.keys c.args.of.number ≡ Some c.unwrap.result.now = search rules in
    record { shape = tree_now c.self.inside.names c.self.inside.keys.keys c.self.inside.facts.items c.self.invariant c.args.self.now c.self.view_is c.args.of.number c.unwrap.result.now e ∙ ap (λ k. as_term (meaning_by (meanings_of c.args.self.now) (plain c.self.inside.names k))) c.in-One.is }

pub returns-in-Two : goal.returns-in-Two
returns-in-Two c =
    let e : slice_get c.self.inside.keys.keys c.args.of.number ≡ Some c.unwrap.result.now = search rules in
    record { shape = tree_now c.self.inside.names c.self.inside.keys.keys c.self.inside.facts.items c.self.invariant c.args.self.now c.self.view_is c.args.of.number c.unwrap.result.now e ∙ ap (λ k. as_term (meaning_by (meanings_of c.args.self.now) (plain c.self.inside.names k))) c.in-Two.is }

pub returns-in_default : goal.returns-in_default
returns-in_default c =
    let e : slice_get c.self.inside.keys.keys c.args.of.number ≡ Some c.unwrap.result.now = search rules in
    record { shape = other_now c.self.inside.names c.self.inside.keys.keys c.self.inside.facts.items c.self.invariant c.args.self.now c.self.view_is c.args.of.number c.unwrap.result.now e c.in_default.not-Lit c.in_default.not-One c.in_default.not-Two }
