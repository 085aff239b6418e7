use Rattle.std.proofs.Common.{◌<◌, ◌∙◌, sym, subst, ap, All, length}
use Rattle.state_core.specs.State.{widths_of}
use Rattle.constants_walk.proofs.RunEnds.{are_there}
use Rattle.constants_walk.proofs.run_form.left_end.Goals as goal

pub has_values-requires : goal.has_values-requires
has_values-requires c = record {
  there = subst (All (λ v. v.register < length c.state.result.now.registers)) (sym c.as_slice.ensures)
      (are_there c.state.result.now _ _ c.args.given.now.exit (ap widths_of c.state.ensures ∙ c.requires.widths) c.requires.exit.each);
}
