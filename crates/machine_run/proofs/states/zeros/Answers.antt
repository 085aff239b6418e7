use Rattle.std.proofs.Common.{◌≡◌, sym, ap, ◌∙◌, subst, map, All}
use Rattle.bv_bits.specs.Bits.{IsWidth}
use Rattle.sail_syntax.specs.View.{program_of}
use Rattle.machine_run.specs.Program.{width_in, widths_in}
use Rattle.machine_run.proofs.Widths.{typed_widths}
use Rattle.machine_run.proofs.states.zeros.Goals as goal

pub new-requires : goal.new-requires
new-requires c =
    let same : c.as_slice.result.now ≡ widths_in (program_of c.args.typed.now) = c.as_slice.ensures ∙ c.in_ok-widths.ensures ∙ ap (map width_in) c.registers.ensures in
    record { widths = subst (All IsWidth) (sym same) (typed_widths (program_of c.args.typed.now) c.program-program.ensures.typed) }
