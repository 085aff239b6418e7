use Rattle.term_tree.specs.Terms.{IsTerm}
use Rattle.term_arena.specs.Answers.{id_term}
use Rattle.arena_cases.proofs.terms.turned.Given as goal

abbrev pub invariant-turning : goal.invariant-turning
invariant-turning l = IsTerm (id_term l.terms l.opposite)
