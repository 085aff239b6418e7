use Rattle.term_tree.specs.Terms.{IsTyped}
use Rattle.term_arena.specs.Answers.{id_term}
use Rattle.goal_cases.proofs.goals.sum_of.Given as goal

-- the sum so far is typed
abbrev pub invariant-doubling : goal.invariant-doubling
invariant-doubling l = IsTyped (id_term l.terms l.sum)
