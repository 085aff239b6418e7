use Rattle.std.proofs.Common.{◌≡◌}
use Rattle.term_arena.proofs.MakesLemmas.{makes_as}
use Rattle.sym_parts.specs.Views.{value_in}
use Rattle.sym_parts.proofs.PartLemmas.{slice_small}
use Rattle.sym_parts.proofs.parts.sliced.Goals as goal

pub returns-then-lo-lt128-clause-makes : goal.returns-then-lo-lt128-clause-makes
returns-then-lo-lt128-clause-makes c =
    makes_as c.operate_one.ensures.makes (λ last k. slice_small (value_in last c.args.value) c.args.hi c.args.lo c.if-hi-lt128.true c.if-lo-lt128.true)
