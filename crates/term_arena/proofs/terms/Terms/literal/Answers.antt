use Rattle.std.proofs.Common.{◌≡◌, Some, rules}
use Rattle.std.specs.Prelude.{slice_get}
use Rattle.term_arena.proofs.ViewLemmas.{literal_now, no_literal_now}
use Rattle.term_arena.proofs.terms.Terms.literal.Goals as goal

pub returns-in-Lit : goal.returns-in-Lit
returns-in-Lit c =
    let e : slice_get c.self.inside.keys.keys c.args.id.number ≡ Some c.unwrap.result.now = search rules in
    literal_now c.self.inside.names c.self.inside.keys.keys c.self.inside.facts.items c.self.invariant c.args.self.now c.self.view_is c.args.id.number c.unwrap.result.now c.in-Lit.b e c.in-Lit.is

pub returns-in_default : goal.returns-in_default
returns-in_default c =
    let e : slice_get c.self.inside.keys.keys c.args.id.number ≡ Some c.unwrap.result.now = search rules in
    no_literal_now c.self.inside.names c.self.inside.keys.keys c.self.inside.facts.items c.self.invariant c.args.self.now c.self.view_is c.args.id.number c.unwrap.result.now e c.in_default.not-Lit
