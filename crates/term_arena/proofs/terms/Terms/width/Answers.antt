use Rattle.std.proofs.Common.{ap, ◌∙◌}
use Rattle.term_arena.proofs.ViewLemmas.{width_now}
use Rattle.term_arena.proofs.terms.Terms.width.Goals as goal

pub returns : goal.returns
returns c =
    ap (λ r. r.width) c.index.ensures
    ∙ width_now c.self.inside.names c.self.inside.keys.keys c.self.inside.facts.items c.self.invariant c.args.self.now c.self.view_is c.args.id.number c.index.result.now c.requires.id
