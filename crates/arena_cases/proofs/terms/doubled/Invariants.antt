use Rattle.term_arena.specs.Answers.{id_term}
use Rattle.arena_cases.specs.Widths.{IsWide}
use Rattle.arena_cases.proofs.terms.doubled.Given as goal

abbrev pub invariant-doubling : goal.invariant-doubling
invariant-doubling l = IsWide (id_term l.terms l.sum)
