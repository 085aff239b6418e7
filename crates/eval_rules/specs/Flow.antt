-- An evaluation that may end early, over locals and a world.
use Rattle.std.specs.Prelude.{ℕ, ◌-◌, List, length, drop}
use Rattle.state_core.specs.World.{World, Halt}
use Rattle.sail_values.specs.declared.value.Slot.{Slot}

-- what an evaluation comes to: something, the locals and the world; or why it ends early, and the world
pub data Out (X : Type 0) : Type 0 where
  gives : (x : X) → (locals : List Slot) → (world : World) → Out X
  stops : (why : Halt) → (world : World) → Out X

-- what an expression means: from locals, the newest first, and a world
abbrev pub Meaning : Type 0 → Type 0
Meaning X = List Slot → World → Out X

-- what was given is handed on
abbrev pub after : {X Y : Type 0} → Out X → (X → Meaning Y) → Out Y
after (gives x locals world) f = f x locals world
after (stops why world) f = stops why world

-- first the one, then the other on what it gave
abbrev pub bind : {X Y : Type 0} → Meaning X → (X → Meaning Y) → Meaning Y
bind m f = λ locals world. after (m locals world) f

-- gives this and changes nothing
abbrev pub pure : {X : Type 0} → X → Meaning X
pure x = gives x

-- only the n oldest locals are left
abbrev pub leaves : {X : Type 0} → ℕ → Out X → Out X
leaves n (gives x locals world) = gives x (drop (length locals - n) locals) world
leaves n (stops why world) = stops why world

-- what is bound within is forgotten
abbrev pub within : {X : Type 0} → Meaning X → Meaning X
within m = λ locals world. leaves (length locals) (m locals world)
