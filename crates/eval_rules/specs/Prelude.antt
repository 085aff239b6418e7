-- The functions of the prelude. Outside their types the value is unit and nothing is done; no typed text comes to that.
use Rattle.std.specs.Prelude.{ℕ, ◌*◌, Bool, false, not, ◌&&◌, if◌then◌else◌, nat_eq, nat_le, List}
use Rattle.bv_bits.specs.declared.Bits.{Bits}
use Rattle.bv_bits.specs.declared.Op.{Op}
use Rattle.bv_bits.specs.declared.Op.TheVariants as op
use Rattle.state_core.specs.declared.kinds.Range.{Range}
use Rattle.state_core.specs.World.{Got, gets, faults, lacks, fault, lacks_answer}
use Rattle.state_core.specs.Memory.{Nothing, load, store}
use Rattle.sail_values.specs.declared.value.Slot.{Slot}
use Rattle.sail_values.specs.declared.value.Value.{Value}
use Rattle.sail_values.specs.declared.value.Value.TheVariants as value
use Rattle.sail_values.specs.Values.{is_vector, is_true, operate, nth}
use Rattle.sail_names.specs.declared.things.Given.{Given}
use Rattle.sail_names.specs.declared.things.Given.TheVariants as given
use Rattle.eval_rules.specs.Flow.{Out, gives, stops, Meaning, pure}

-- ---- operators

-- the truth of a value: a vector with the number 1
abbrev pub is_one : Value → Bool
is_one (value.Bits b) = nat_eq b.value 1
is_one value.Unit = false
is_one (value.Truth b) = false
is_one (value.Member e i) = false

-- whether two values compare
abbrev pub compared : Op → Value → Value → Value
compared o a b = value.Truth (is_one (operate o a b))

-- ---- memory

-- whether a vector is an address
abbrev pub is_address : Bits → Bool
is_address a = is_vector a && nat_eq a.width 64

-- whether a vector is what so many bytes hold
abbrev pub is_of_bytes : ℕ → Bits → Bool
is_of_bytes n b = is_vector b && nat_eq b.width (8 * n)

-- so many bytes as a vector
abbrev pub bytes_value : ℕ → ℕ → Value
bytes_value n x = value.Bits (record { width = 8 * n; value = x })

-- what an access comes to, at a place of the text: its value, or why the evaluation ends early
abbrev pub read_out : ℕ → ℕ → List Slot → Got ℕ → Out Value
read_out n at locals (gets x world) = gives (bytes_value n x) locals world
read_out n at locals (faults k world) = stops (fault k at) world
read_out n at locals (lacks world) = stops lacks_answer world

-- the same of a write, which gives unit
abbrev pub write_out : ℕ → List Slot → Got Nothing → Out Value
write_out at locals (gets x world) = gives value.Unit locals world
write_out at locals (faults k world) = stops (fault k at) world
write_out at locals (lacks world) = stops lacks_answer world

-- a read of so many bytes at an address, at a place of the text
abbrev pub read_bytes : List Range → ℕ → ℕ → Value → Meaning Value
read_bytes ranges n at (value.Bits a) = λ locals world.
    if nat_le n 16 && is_address a then read_out n at locals (load ranges a.value n world) else gives value.Unit locals world
read_bytes ranges n at value.Unit = pure value.Unit
read_bytes ranges n at (value.Truth b) = pure value.Unit
read_bytes ranges n at (value.Member e i) = pure value.Unit

-- a write of what so many bytes hold
abbrev pub write_vector : List Range → ℕ → ℕ → Bits → Value → Meaning Value
write_vector ranges n at a (value.Bits v) = λ locals world.
    if nat_le n 16 && is_address a && is_of_bytes n v then write_out at locals (store ranges a.value n v.value world) else gives value.Unit locals world
write_vector ranges n at a value.Unit = pure value.Unit
write_vector ranges n at a (value.Truth b) = pure value.Unit
write_vector ranges n at a (value.Member e i) = pure value.Unit

-- a write of so many bytes at an address, at a place of the text
abbrev pub write_bytes : List Range → ℕ → ℕ → Value → Value → Meaning Value
write_bytes ranges n at (value.Bits a) v = write_vector ranges n at a v
write_bytes ranges n at value.Unit v = pure value.Unit
write_bytes ranges n at (value.Truth b) v = pure value.Unit
write_bytes ranges n at (value.Member e i) v = pure value.Unit

-- ---- calls

-- a call of a function of the prelude on two values, at a place of the text; a function of one value looks at the first
abbrev pub given_on : List Range → Given → ℕ → Value → Value → Meaning Value
given_on ranges given.Not at a b = pure (value.Truth (not (is_true a)))
given_on ranges given.LtU at a b = pure (compared op.ULt a b)
given_on ranges given.LtS at a b = pure (compared op.SLt a b)
given_on ranges given.ShiftLeft at a b = pure (operate op.Shl a b)
given_on ranges given.ShiftRight at a b = pure (operate op.LShr a b)
given_on ranges given.ShiftRightArith at a b = pure (operate op.AShr a b)
given_on ranges given.DivU at a b = pure (operate op.UDiv a b)
given_on ranges given.RemU at a b = pure (operate op.URem a b)
given_on ranges given.DivS at a b = pure (operate op.SDiv a b)
given_on ranges given.RemS at a b = pure (operate op.SRem a b)
given_on ranges (given.Read n) at a b = read_bytes ranges n at a
given_on ranges (given.Write n) at a b = write_bytes ranges n at a b

-- a call of a function of the prelude
abbrev pub given_call : List Range → Given → ℕ → List Value → Meaning Value
given_call ranges g at vs = given_on ranges g at (nth 0 vs) (nth 1 vs)
