use Rattle.std.proofs.Common.{◌≡◌}
use Rattle.term_arena.proofs.MakesLemmas.{makes_stop, reaches_start, reaches_step, reaches_end}
use Rattle.sym_rules.specs.Parts.{sym_below}
use Rattle.sym_parts.specs.Views.{value_in}
use Rattle.sym_parts.proofs.StayLemmas.{fits_stays}
use Rattle.sym_parts.proofs.parts.updated.Goals as goal

pub below-requires-clause-first : goal.below-requires-clause-first
below-requires-clause-first c = fits_stays c.args.terms.now c.above.new.terms c.in-Ok.ensures.makes.kept c.args.value c.requires.first

pub returns-in-Ok-clause-makes : goal.returns-in-Ok-clause-makes
returns-in-Ok-clause-makes c =
    reaches_end (reaches_step (λ last so_far. sym_below (value_in last c.args.value) c.args.lo so_far) reaches_start c.in-Ok.ensures.makes) c.below.ensures.makes

pub returns-in-Err-clause-makes : goal.returns-in-Err-clause-makes
returns-in-Err-clause-makes c = makes_stop (λ last so_far. sym_below (value_in last c.args.value) c.args.lo so_far) c.in-Err.ensures.makes
