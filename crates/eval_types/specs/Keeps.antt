-- The law: what a typed program evaluates to is of its type, and what it leaves fits the program.
use Rattle.std.specs.Prelude.{◌≡◌, ℕ, List, [], ◌∷◌, take, reverse, Option, Some, codes, slice_get}
use Rattle.bv_bits.specs.Bits.{IsBits}
use Rattle.bv_bits.specs.declared.Bits.{Bits}
use Rattle.sail_syntax.specs.Tree.{Tree}
use Rattle.sail_syntax.specs.Program.{Definition, Function, function, function_of}
use Rattle.sail_syntax.specs.declared.types.Ty.{Ty}
use Rattle.state_core.specs.World.{World}
use Rattle.state_core.specs.declared.kinds.Range.{Range}
use Rattle.sail_values.specs.declared.value.Value.{Value}
use Rattle.sail_values.specs.declared.value.Value.TheVariants as value
use Rattle.sail_values.specs.declared.value.Slot.{Slot}
use Rattle.type_rules.specs.declared.scope.Local.{Local as Typed}
use Rattle.type_rules.specs.Names.{globals_of}
use Rattle.type_rules.specs.HasType.{HasType}
use Rattle.type_rules.specs.IsTyped.{IsTypedProgram}
use Rattle.eval_rules.specs.Flow.{Out, gives, stops}
use Rattle.eval_rules.specs.Eval.{eval, calls_of, setting_of, call_of}
use Rattle.eval_types.specs.Types.{IsOfType, AreOfTypes, LocalsFit, StateFits}

-- it gives something of which this holds, with such locals, or stops; in both cases the state fits
abbrev pub Ends : {X : Type 0} → List Definition → (List Slot → Type 0) → (X → Type 0) → Out X → Type 0
Ends defs Locals P (gives x locals world) = P x × Locals locals × StateFits defs world.state
Ends defs Locals P (stops why world) = StateFits defs world.state

-- a typed expression of a definition in front of which so many stand, whose functions may be called:
-- it gives a value of its type, with locals that fit the same scope, or stops
abbrev pub KeepsTypes : Type 0
KeepsTypes = (defs : List Definition) (ranges : List Range) (here : ℕ) (e : Tree) (want : Option Ty) (scope : List Typed) (t : Ty) (locals : List Slot) (world : World)
    → IsTypedProgram defs → HasType (globals_of defs) here e want scope t → LocalsFit defs locals scope → StateFits defs world.state
    → Ends defs (λ after. LocalsFit defs after scope) (λ v. IsOfType defs v t) (eval (setting_of defs ranges) (calls_of (setting_of defs ranges) (reverse (take here defs))) e locals world)

-- a function of a typed program that is called with values of its parameters' types gives one of its result, or stops
abbrev pub CallsKeepTypes : Type 0
CallsKeepTypes = (defs : List Definition) (ranges : List Range) (i : ℕ) (f : Function) (at : ℕ) (vs : List Value) (world : World)
    → IsTypedProgram defs → slice_get defs i ≡ Some (function f) → AreOfTypes defs vs f.params → StateFits defs world.state
    → Ends defs (λ after. after ≡ []) (λ v. IsOfType defs v f.result) (call_of defs ranges f.name at vs world)

-- `instr` at a word of 32 bits gives unit, or stops
abbrev pub InstrKeepsTypes : Type 0
InstrKeepsTypes = (defs : List Definition) (ranges : List Range) (at : ℕ) (b : Bits) (world : World)
    → IsTypedProgram defs → IsBits b → b.width ≡ 32 → StateFits defs world.state
    → Ends defs (λ after. after ≡ []) (λ v. v ≡ value.Unit) (call_of defs ranges (codes "instr") at (value.Bits b ∷ []) world)

-- `instr16`, where the program has it, at a word of 16 bits
abbrev pub Instr16KeepsTypes : Type 0
Instr16KeepsTypes = (defs : List Definition) (ranges : List Range) (f : Function) (at : ℕ) (b : Bits) (world : World)
    → IsTypedProgram defs → function_of defs (codes "instr16") ≡ Some f → IsBits b → b.width ≡ 16 → StateFits defs world.state
    → Ends defs (λ after. after ≡ []) (λ v. v ≡ value.Unit) (call_of defs ranges (codes "instr16") at (value.Bits b ∷ []) world)
