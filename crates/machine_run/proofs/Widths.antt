-- The registers of a typed program have widths from 1 to 128.
use Rattle.std.proofs.Common.{◌≡◌, ℕ, ◌+◌, List, [], ◌∷◌, None, refl, ap, All, map}
use Rattle.std.proofs.lemmas.List.Elements.{All-cons, All-nil}
use Rattle.bv_bits.specs.Bits.{IsWidth, width_of}
use Rattle.sail_syntax.specs.Program.{Definition, order, register, enumeration, signature, function, registers_of}
use Rattle.state_core.specs.State.{zero_of}
use Rattle.type_rules.specs.declared.scope.Entry.{Entry}
use Rattle.type_rules.specs.Heights.{Height}
use Rattle.type_rules.specs.Names.{globals_of}
use Rattle.type_rules.specs.Program.{type_fault, heights_after}
use Rattle.type_rules.specs.IsTyped.{AreTypedDefinitions}
use Rattle.type_rules.proofs.ProgramLemmas.{programs_exact}
use Rattle.machine_run.specs.Program.{width_in, widths_in}

each_width : (globals : List Entry) (defs : List Definition) (above : List Height) (i : ℕ) → AreTypedDefinitions globals defs above i → All IsWidth (map width_in (registers_of defs))
each_width globals [] above i h = All-nil IsWidth
each_width globals (order ∷ ds) above i h = each_width globals ds above (i + 1) h.1
each_width globals (register x w at ∷ ds) above i h = All-cons IsWidth w (map width_in (registers_of ds)) h.0 (each_width globals ds above (i + 1) h.1)
each_width globals (enumeration x ms at ∷ ds) above i h = each_width globals ds above (i + 1) h.1
each_width globals (signature x ts t at ∷ ds) above i h = each_width globals ds (heights_after (signature x ts t at) above) (i + 1) h.1
each_width globals (function f ∷ ds) above i h = each_width globals ds (heights_after (function f) above) (i + 1) h.1

pub typed_widths : (defs : List Definition) → type_fault defs ≡ None → All IsWidth (widths_in defs)
typed_widths defs typed = each_width (globals_of defs) defs [] 0 ((programs_exact defs).0 typed).definitions

-- zeros have their widths
pub zero_widths : (ws : List ℕ) → map width_of (map zero_of ws) ≡ ws
zero_widths [] = refl
zero_widths (w ∷ ws) = ap (λ rest. w ∷ rest) (zero_widths ws)
