-- What a call that accesses memory answers.
use Rattle.std.specs.Prelude.{◌≡◌, ◌⊎◌, ℕ, Result, Ok, Err}
use Rattle.state_core.specs.declared.kinds.AccessKind.{AccessKind}
use Rattle.state_core.specs.declared.kinds.MemStop.{MemStop}
use Rattle.state_core.specs.declared.kinds.MemStop.TheVariants as stop
use Rattle.state_core.specs.World.{World, Got, gets, faults, lacks}
use Rattle.state_core.specs.Memory.{logged}

-- the answer and the world that is left are those of the access; want of memory is free
abbrev pub Agrees : {X Y : Type 0} → (X → Y) → Result X MemStop → World → Got Y → Type 0
Agrees f (Ok x) world got = got ≡ gets (f x) world
Agrees f (Err (stop.Fault kind)) world got = got ≡ faults kind world
Agrees f (Err stop.NoAnswer) world got = got ≡ lacks world
Agrees f (Err stop.NoMemory) world got = Unit {0}

-- after want of memory the world is one of a moment of the access: the one before it, or the one in which it is noted
abbrev pub IsMoment : {Y : Type 0} → Result Y MemStop → AccessKind → ℕ → ℕ → World → World → Type 0
IsMoment (Ok y) k at n before world = Unit {0}
IsMoment (Err (stop.Fault kind)) k at n before world = Unit {0}
IsMoment (Err stop.NoAnswer) k at n before world = Unit {0}
IsMoment (Err stop.NoMemory) k at n before world = (world ≡ before) ⊎ (world ≡ logged k at n before)
