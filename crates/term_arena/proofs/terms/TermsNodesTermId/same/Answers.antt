use Rattle.term_arena.proofs.ViewLemmas.{same_now}
use Rattle.term_arena.proofs.terms.TermsNodesTermId.same.Goals as goal

pub returns : goal.returns
returns c = record { same = same_now c.self.inside.names c.self.inside.keys.keys c.self.inside.facts.items c.self.invariant c.args.self.now c.self.view_is c.args.a.number c.args.b.number c.eq.result c.requires.a_typed c.eq.ensures }
