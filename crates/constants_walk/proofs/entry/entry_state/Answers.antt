use Rattle.std.proofs.Common.{◌≡◌, sym, subst, ◌∙◌, All, map}
use Rattle.sail_syntax.specs.View.{program_of}
use Rattle.machine_run.specs.Program.{widths_in}
use Rattle.state_core.specs.State.{widths_of}
use Rattle.constants_walk.specs.RegisterPlaces.{pair_of}
use Rattle.constants_walk.specs.Entry.{Fits}
use Rattle.constants_walk.proofs.EntryPc.{all_fit, pc_wide, pc_there, pc_width, entry_widths}
use Rattle.constants_walk.proofs.entry.entry_state.Goals as goal

pub set_values-requires : goal.set_values-requires
set_values-requires c = record {
  fit = subst (λ vs. All (Fits (widths_of c.in_ok-state.state)) (map pair_of vs)) (sym c.as_slice.ensures)
      (all_fit c.in_ok-state.state _ _ _ c.in_ok-state.ensures.widths c.requires.entry.each);
}

pub set_reg-requires-clause-there : goal.set_reg-requires-clause-there
set_reg-requires-clause-there c =
    pc_there c.set_values.new.state _ c.pc.result (c.set_values.ensures.widths ∙ c.in_ok-state.ensures.widths) (pc_wide (program_of c.args.typed.now) c.pc.result c.pc.ensures)

pub set_reg-requires-clause-width : goal.set_reg-requires-clause-width
set_reg-requires-clause-width c =
    pc_width c.set_values.new.state _ c.pc.result (c.set_values.ensures.widths ∙ c.in_ok-state.ensures.widths) (pc_wide (program_of c.args.typed.now) c.pc.result c.pc.ensures)

pub returns-clause-widths : goal.returns-clause-widths
returns-clause-widths c =
    let ws : widths_of c.set_values.new.state ≡ widths_in (program_of c.args.typed.now) = c.set_values.ensures.widths ∙ c.in_ok-state.ensures.widths in
    let wide = pc_wide (program_of c.args.typed.now) c.pc.result c.pc.ensures in
    entry_widths c.set_values.new.state c.set_reg.new.self c.add_bytes.new.state _ c.pc.result _ _ ws (pc_there c.set_values.new.state _ c.pc.result ws wide)
    (pc_width c.set_values.new.state _ c.pc.result ws wide) c.set_reg.ensures c.in_ok-add_bytes.ensures.value
