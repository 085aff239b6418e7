use Rattle.std.proofs.Common.{◌≡◌}
use Rattle.sail_syntax.specs.declared.tree.Infix.TheVariants as between
use Rattle.term_arena.proofs.MakesLemmas.{makes_as, makes_stop, reaches_start, reaches_step, reaches_end}
use Rattle.sym_rules.specs.Operators.{sym_applied}
use Rattle.sym_parts.specs.Views.{value_in}
use Rattle.sym_parts.proofs.StayLemmas.{fits_stays}
use Rattle.sym_parts.proofs.PartLemmas.{below_then}
use Rattle.sym_parts.proofs.parts.below.Goals as goal

pub joined-requires-clause-first : goal.joined-requires-clause-first
joined-requires-clause-first c = fits_stays c.args.terms.now c.sliced.new.terms c.in-Ok.ensures.makes.kept c.args.so_far c.requires.second

pub returns-in-Ok-clause-makes : goal.returns-in-Ok-clause-makes
returns-in-Ok-clause-makes c =
    makes_as (reaches_end (reaches_step (λ last low. sym_applied between.Join (value_in last c.args.so_far) low) reaches_start c.in-Ok.ensures.makes) c.joined.ensures.makes)
    (λ last k. below_then (value_in last c.args.value) c.args.lo (value_in last c.args.so_far) c.if-lo-eq0.false)

pub returns-in-Err-clause-makes : goal.returns-in-Err-clause-makes
returns-in-Err-clause-makes c =
    makes_as (makes_stop (λ last low. sym_applied between.Join (value_in last c.args.so_far) low) c.in-Err.ensures.makes)
    (λ last k. below_then (value_in last c.args.value) c.args.lo (value_in last c.args.so_far) c.if-lo-eq0.false)
