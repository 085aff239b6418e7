use Rattle.std.proofs.Common.{◌≡◌, ap}
use Rattle.bv_bits.specs.declared.Bits.{Bits}
use Rattle.term_tree.specs.Terms.{lit}
use Rattle.term_arena.specs.Said.{said_just, said_then, single}
use Rattle.term_arena.proofs.MakesLemmas.{makes_as, makes_stop, reaches_start, reaches_step, reaches_done}
use Rattle.sym_rules.specs.Values.{SymValue, sym_truth}
use Rattle.sym_rules.specs.Trees.{Telling}
use Rattle.sym_parts.proofs.operators.known_truth.Goals as goal

-- a bool that a literal says
truth_of : Bits → Telling SymValue
truth_of b = said_then (single (lit b)) (λ t. said_just (sym_truth t))

pub returns-in-Ok-clause-makes : goal.returns-in-Ok-clause-makes
unfolding truth_of
returns-in-Ok-clause-makes c = makes_as (reaches_done (reaches_step (λ last t. said_just (sym_truth t)) reaches_start c.in-Ok.ensures.makes)) (λ last k. ap truth_of c.bit_literal.ensures.value)

pub returns-in-Err-clause-makes : goal.returns-in-Err-clause-makes
unfolding truth_of
returns-in-Err-clause-makes c = makes_as (makes_stop (λ last t. said_just (sym_truth t)) c.in-Err.ensures.makes) (λ last k. ap truth_of c.bit_literal.ensures.value)
