-- A typed program has a PC.
use Rattle.std.proofs.Common.{◌≡◌, ℕ, Bool, true, false, List, Some, None, refl, sym, ap, ◌∙◌}
use Rattle.std.specs.Prelude.{if◌then◌else◌, is_some}
use Rattle.std.specs.declared.option.Option.{Option}
use Rattle.sail_syntax.specs.Program.{Definition}
use Rattle.type_rules.specs.Program.{type_fault, fault_or, entry_fault, program_faults, has_word, may_have_word, instr_of, instr16_of, pc_number, begins_at}
use Rattle.type_rules.specs.Faults.{first}
use Rattle.type_rules.specs.declared.fault.Fault.{Fault}
use Rattle.type_rules.specs.declared.fault.TypeFault.{TypeFault}
use Rattle.type_rules.specs.declared.fault.TypeFault.TheVariants as typing

nothing_missing : (o : Option Fault) (missing : Option TypeFault) → fault_or o missing ≡ None → missing ≡ None
nothing_missing None missing h = h
nothing_missing (Some f) missing h = absurd (cc)

pc_there : (a b c : Bool) (at : ℕ) → (if a then (if b then (if c then None else Some (typing.BadInstr16 at)) else Some typing.NoPc) else Some typing.NoInstr) ≡ None → b ≡ true
pc_there true true c at h = refl
pc_there true false c at h = absurd (cc)
pc_there false b c at h = absurd (cc)

is_there : (o : Option ℕ) → is_some o ≡ true → o ≡ None → ⊥
is_there None h e = absurd (cc)
is_there (Some n) h e = absurd (cc)

-- a program without a fault has a PC
pub typed_has_pc : (defs : List Definition) → type_fault defs ≡ None → pc_number defs ≡ None → ⊥
typed_has_pc defs typed none =
    is_there (pc_number defs)
    (pc_there (has_word 32 (instr_of defs)) (is_some (pc_number defs)) (may_have_word 16 (instr16_of defs)) (begins_at (instr16_of defs))
    (nothing_missing (first (program_faults defs)) (entry_fault defs) typed)) none
