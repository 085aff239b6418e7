use Rattle.std.proofs.Common.{ap, ◌∙◌, arith}
use Rattle.term_arena.proofs.ViewLemmas.{array_key, height_now, low_now}
use Rattle.term_arena.proofs.terms.Terms.array_height.Goals as goal

pub returns-clause-height : goal.returns-clause-height
returns-clause-height c =
    ap (λ r. r.height) c.index.ensures
    ∙ height_now c.self.inside.names c.self.inside.keys.keys c.self.inside.facts.items c.self.invariant c.args.self.now c.self.view_is c.args.id.number c.index.result.now (array_key c.self.inside.names c.self.inside.keys.keys c.self.inside.facts.items c.self.invariant c.args.self.now c.self.view_is c.args.id.number c.requires.id)

pub returns-clause-low : goal.returns-clause-low
returns-clause-low c =
    let b = low_now c.self.inside.names c.self.inside.keys.keys c.self.inside.facts.items c.self.invariant c.args.self.now c.self.view_is c.args.id.number c.index.result.now (array_key c.self.inside.names c.self.inside.keys.keys c.self.inside.facts.items c.self.invariant c.args.self.now c.self.view_is c.args.id.number c.requires.id) in
    let e = ap (λ r. r.height) c.index.ensures in
    omega (arith, b, e)
