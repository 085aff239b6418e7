use Rattle.std.proofs.Common.{◌+◌, length, map, sym, ap, ◌∙◌, subst, arith, Some, None}
use Rattle.std.specs.Option.{option_map}
use Rattle.sail_syntax.specs.View.{program_of}
use Rattle.machine_run.specs.Program.{widths_in}
use Rattle.constants_walk.specs.RegisterPlaces.{places, ArePlaced, pair_of}
use Rattle.constants_walk.specs.Conditions.{constants_of}
use Rattle.constants_check.specs.Verdict.{on_constants, on_end}
use Rattle.report_text.specs.Names.{row_named}
use Rattle.constants_walk.proofs.CodeLemmas.{is_code}
use Rattle.constants_check.proofs.JudgeLemmas.{pc_same, said_as, no_entry, no_wanted, no_constants, placed_is, values_placed}
use Rattle.constants_check.proofs.judging.judge_proof.Goals as goal

pub returns-in_default : goal.returns-in_default
returns-in_default c =
    let pc = pc_same (program_of c.args.typed.now) c.pc-pc.result c.pc-pc.ensures in
    said_as c.not_yet.result _ _ (ap (on_constants (row_named c.args.row.now) (program_of c.args.typed.now) c.args.proof.now)
    (no_entry (program_of c.args.typed.now) c.args.proof.now c.args.image.now.memory c.registers-registers.result.now c.pc-pc.result c.registers-registers.ensures pc
    (ap (places c.registers-registers.result.now c.pc-pc.result) (sym c.as_slice.ensures) ∙ sym c.in_ok-entry.ensures.exact ∙ c.in_default.is))) c.not_yet.ensures

pub returns-in_default-2 : goal.returns-in_default-2
returns-in_default-2 c =
    let pc = pc_same (program_of c.args.typed.now) c.pc-pc.result c.pc-pc.ensures in
    said_as c.not_yet-in_default-2.result _ _ (ap (on_constants (row_named c.args.row.now) (program_of c.args.typed.now) c.args.proof.now)
    (no_wanted (program_of c.args.typed.now) c.args.proof.now c.args.image.now.memory c.registers-registers.result.now c.pc-pc.result c.registers-registers.ensures pc c.in-Some.entry
    (ap (places c.registers-registers.result.now c.pc-pc.result) (sym c.as_slice.ensures) ∙ sym c.in_ok-entry.ensures.exact ∙ c.in-Some.is)
    (ap (places c.registers-registers.result.now c.pc-pc.result) (sym c.as_slice-2.ensures) ∙ sym c.in_ok-wanted.ensures.exact ∙ c.in_default-2.is)))
    c.not_yet-in_default-2.ensures

pub returns-in_default-constants : goal.returns-in_default-constants
returns-in_default-constants c =
    let pc = pc_same (program_of c.args.typed.now) c.pc-pc.result c.pc-pc.ensures in
    said_as c.not_yet-in_default-constants.result _ _ (ap (on_constants (row_named c.args.row.now) (program_of c.args.typed.now) c.args.proof.now)
    (no_constants (program_of c.args.typed.now) c.args.proof.now c.args.image.now.memory c.registers-registers.result.now c.pc-pc.result c.registers-registers.ensures pc
    c.in-Some.entry c.in-Some-2.wanted
    (ap (places c.registers-registers.result.now c.pc-pc.result) (sym c.as_slice.ensures) ∙ sym c.in_ok-entry.ensures.exact ∙ c.in-Some.is)
    (ap (places c.registers-registers.result.now c.pc-pc.result) (sym c.as_slice-2.ensures) ∙ sym c.in_ok-wanted.ensures.exact ∙ c.in-Some-2.is)
    (sym c.in_default-constants.is ∙ c.constants.ensures.exact))) c.not_yet-in_default-constants.ensures

pub returns-in_default-3 : goal.returns-in_default-3
returns-in_default-3 c =
    let pc = pc_same (program_of c.args.typed.now) c.pc-pc.result c.pc-pc.ensures in
    said_as c.not_yet-in_default-3.result _ _ (ap (on_constants (row_named c.args.row.now) (program_of c.args.typed.now) c.args.proof.now)
    (placed_is (program_of c.args.typed.now) c.args.proof.now c.args.image.now.memory c.registers-registers.result.now c.pc-pc.result c.registers-registers.ensures pc
    c.in-Some.entry c.in-Some-2.wanted c.in-Some-constants.given None
    (ap (places c.registers-registers.result.now c.pc-pc.result) (sym c.as_slice.ensures) ∙ sym c.in_ok-entry.ensures.exact ∙ c.in-Some.is)
    (ap (places c.registers-registers.result.now c.pc-pc.result) (sym c.as_slice-2.ensures) ∙ sym c.in_ok-wanted.ensures.exact ∙ c.in-Some-2.is)
    (sym c.in-Some-constants.is ∙ c.constants.ensures.exact) (sym c.in_default-3.is ∙ c.in_ok-code.ensures.exact))) c.not_yet-in_default-3.ensures

pub run_constants-requires-clause-size : goal.run_constants-requires-clause-size
run_constants-requires-clause-size c =
    let is = is_code c.args.image.now.memory c.in-Some-constants.given.lo c.in-Some-constants.given.hi c.in-Some-3.code (sym c.in_ok-code.ensures.exact ∙ c.in-Some-3.is) in
    let low = c.in-Some-constants.ensures.entered.entered in
    let high = c.in-Some-constants.ensures.entered.entry in
    ap (λ code. c.in-Some-constants.given.lo + length code) c.as_slice-3.ensures ∙ is.size (omega (arith, low, high))

pub run_constants-requires-clause-entry : goal.run_constants-requires-clause-entry
run_constants-requires-clause-entry c =
    let pc = pc_same (program_of c.args.typed.now) c.pc-pc.result c.pc-pc.ensures in
    let entry = values_placed (program_of c.args.typed.now) c.args.proof.now c.args.image.now.memory c.registers-registers.result.now c.pc-pc.result c.registers-registers.ensures pc
    c.as_slice.result.now c.args.proof.now.entry c.in_ok-entry.field-0 c.in-Some.entry c.as_slice.ensures c.requires.entry c.in_ok-entry.ensures.placed c.in-Some.is in
    let wanted = values_placed (program_of c.args.typed.now) c.args.proof.now c.args.image.now.memory c.registers-registers.result.now c.pc-pc.result c.registers-registers.ensures pc
    c.as_slice-2.result.now c.args.proof.now.wanted c.in_ok-wanted.field-0 c.in-Some-2.wanted c.as_slice-2.ensures c.requires.wanted c.in_ok-wanted.ensures.placed c.in-Some-2.is in
    subst (λ r. ArePlaced (widths_in (program_of c.args.typed.now)) r (map pair_of c.in-Some-constants.given.entry)) pc (c.in-Some-constants.ensures.placed (widths_in (program_of c.args.typed.now)) entry wanted).0

pub run_constants-requires-clause-exit : goal.run_constants-requires-clause-exit
run_constants-requires-clause-exit c =
    let pc = pc_same (program_of c.args.typed.now) c.pc-pc.result c.pc-pc.ensures in
    let entry = values_placed (program_of c.args.typed.now) c.args.proof.now c.args.image.now.memory c.registers-registers.result.now c.pc-pc.result c.registers-registers.ensures pc
    c.as_slice.result.now c.args.proof.now.entry c.in_ok-entry.field-0 c.in-Some.entry c.as_slice.ensures c.requires.entry c.in_ok-entry.ensures.placed c.in-Some.is in
    let wanted = values_placed (program_of c.args.typed.now) c.args.proof.now c.args.image.now.memory c.registers-registers.result.now c.pc-pc.result c.registers-registers.ensures pc
    c.as_slice-2.result.now c.args.proof.now.wanted c.in_ok-wanted.field-0 c.in-Some-2.wanted c.as_slice-2.ensures c.requires.wanted c.in_ok-wanted.ensures.placed c.in-Some-2.is in
    subst (λ r. ArePlaced (widths_in (program_of c.args.typed.now)) r (map pair_of c.in-Some-constants.given.exit)) pc (c.in-Some-constants.ensures.placed (widths_in (program_of c.args.typed.now)) entry wanted).1

pub returns : goal.returns
returns c =
    let pc = pc_same (program_of c.args.typed.now) c.pc-pc.result c.pc-pc.ensures in
    said_as c.on_end.result _ _ (ap (on_constants (row_named c.args.row.now) (program_of c.args.typed.now) c.args.proof.now)
    (placed_is (program_of c.args.typed.now) c.args.proof.now c.args.image.now.memory c.registers-registers.result.now c.pc-pc.result c.registers-registers.ensures pc
    c.in-Some.entry c.in-Some-2.wanted c.in-Some-constants.given (Some c.in-Some-3.code)
    (ap (places c.registers-registers.result.now c.pc-pc.result) (sym c.as_slice.ensures) ∙ sym c.in_ok-entry.ensures.exact ∙ c.in-Some.is)
    (ap (places c.registers-registers.result.now c.pc-pc.result) (sym c.as_slice-2.ensures) ∙ sym c.in_ok-wanted.ensures.exact ∙ c.in-Some-2.is)
    (sym c.in-Some-constants.is ∙ c.constants.ensures.exact) (sym c.in-Some-3.is ∙ c.in_ok-code.ensures.exact)
    ∙ ap (λ code. Some (constants_of c.in-Some-constants.given code)) (sym c.as_slice-3.ensures))
    ∙ ap (option_map (on_end c.args.proof.now)) c.in_ok-end.ensures) c.on_end.ensures
