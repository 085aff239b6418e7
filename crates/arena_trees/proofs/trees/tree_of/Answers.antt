use Rattle.std.proofs.Common.{sym, subst}
use Rattle.term_tree.specs.Terms.{IsTerm}
use Rattle.term_arena.proofs.StayLemmas.{term_fine}
use Rattle.arena_trees.proofs.trees.tree_of.Goals as goal

pub returns-clause-term : goal.returns-clause-term
returns-clause-term c = subst IsTerm (sym c.in_ok-term.ensures.tree) (term_fine c.args.terms.now c.args.id.number c.laws.ensures.arena c.requires.id)
