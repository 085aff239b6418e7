use Rattle.term_arena.specs.Said.{said_just}
use Rattle.term_arena.proofs.MakesLemmas.{makes_stop, reaches_start, reaches_step, reaches_done}
use Rattle.sym_rules.specs.Values.{sym_truth}
use Rattle.sym_parts.proofs.comparing.different_terms.Goals as goal

pub returns-in-Ok-clause-makes : goal.returns-in-Ok-clause-makes
returns-in-Ok-clause-makes c = reaches_done (reaches_step (λ last t. said_just (sym_truth t)) reaches_start c.in-Ok.ensures.makes)

pub returns-in-Err-clause-makes : goal.returns-in-Err-clause-makes
returns-in-Err-clause-makes c = makes_stop (λ last t. said_just (sym_truth t)) c.in-Err.ensures.makes
