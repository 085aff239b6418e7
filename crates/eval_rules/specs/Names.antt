-- Names while an expression is evaluated: locals first, then the names of the program.
use Rattle.std.specs.Prelude.{ℕ, List, ◌∷◌, Option, Some, None, nat_eq, slice_set, ◌&&◌, if◌then◌else◌}
use Rattle.bv_bits.specs.declared.Bits.{Bits}
use Rattle.sail_syntax.specs.Tree.{Text}
use Rattle.state_core.specs.State.{State, register_of}
use Rattle.state_core.specs.World.{World}
use Rattle.state_core.specs.declared.kinds.Range.{Range}
use Rattle.sail_values.specs.declared.value.Local.{Local}
use Rattle.sail_values.specs.declared.value.Local.TheVariants as local
use Rattle.sail_values.specs.declared.value.Value.{Value}
use Rattle.sail_values.specs.declared.value.Value.TheVariants as value
use Rattle.sail_values.specs.Slots.{look, put, has}
use Rattle.sail_values.specs.Values.{is_vector}
use Rattle.sail_names.specs.declared.things.Named.{Named}
use Rattle.sail_names.specs.declared.things.Thing.{Thing}
use Rattle.sail_names.specs.declared.things.Thing.TheVariants as thing
use Rattle.sail_names.specs.Things.{find_thing}
use Rattle.eval_rules.specs.Flow.{gives, Meaning}

-- what evaluation needs beside the functions: what the names of the text stand for, and where the devices are
pub record Setting : Type 0 where
  pub things : List Named
  pub ranges : List Range

-- ---- reading

-- the value that a local stands for; a foreach variable stands in indices alone
abbrev pub value_of : Local → Value
value_of (local.Is v) = v
value_of (local.Counts n) = value.Unit

-- the value of a name of the program
abbrev pub value_in : Option Thing → State → Value
value_in (Some (thing.Register r)) s = value.Bits (register_of s r)
value_in (Some (thing.Member e i)) s = value.Member e i
value_in (Some (thing.Given g)) s = value.Unit
value_in (Some (thing.Function i)) s = value.Unit
value_in None s = value.Unit

-- the value of a local, or of a name of the program
abbrev pub read_of : List Named → Option Local → Text → State → Value
read_of things (Some v) x s = value_of v
read_of things None x s = value_in (find_thing x things) s

-- the value of a name
abbrev pub read : List Named → Text → Meaning Value
read things x = λ locals world. gives (read_of things (look x locals) x world.state) locals world

-- ---- writing

-- a state with a register changed to a bit vector of its width
abbrev pub with_bits : ℕ → Bits → State → State
with_bits r b s = if is_vector b && nat_eq b.width (register_of s r).width then record s { registers = slice_set s.registers r b } else s

-- a value that is written to a register
abbrev pub with_value : ℕ → Value → State → State
with_value r (value.Bits b) s = with_bits r b s
with_value r value.Unit s = s
with_value r (value.Truth b) s = s
with_value r (value.Member e i) s = s

-- a value that is written to a name of the program
abbrev pub assigned : Option Thing → Value → State → State
assigned (Some (thing.Register r)) v s = with_value r v s
assigned (Some (thing.Member e i)) v s = s
assigned (Some (thing.Given g)) v s = s
assigned (Some (thing.Function i)) v s = s
assigned None v s = s

-- the world with another state
abbrev pub in_state : State → World → World
in_state s world = record world { state = s }

-- an assignment to a local, or to a register
abbrev pub write : List Named → Text → Value → Meaning Value
write things x v = λ locals world.
    if has x locals then gives value.Unit (put x (local.Is v) locals) world
    else gives value.Unit locals (in_state (assigned (find_thing x things) v world.state) world)

-- a new local
abbrev pub define : Text → Local → Meaning Value
define x v = λ locals world. gives value.Unit (record { name = x; local = v } ∷ locals) world
