-- Local names and what they stand for, the newest first.
use Rattle.std.specs.Prelude.{ℕ, Bool, true, false, List, [], ◌∷◌, Option, Some, None, bytes_eq, if◌then◌else◌}
use Rattle.sail_values.specs.declared.value.Slot.{Slot}
use Rattle.sail_values.specs.declared.value.Local.{Local}

-- what the newest of the name stands for
abbrev pub look : List ℕ → List Slot → Option Local
look x [] = None
look x (s ∷ rest) = if bytes_eq s.name x then Some s.local else look x rest

-- whether there is one of the name
abbrev pub has : List ℕ → List Slot → Bool
has x [] = false
has x (s ∷ rest) = if bytes_eq s.name x then true else has x rest

-- the newest of the name stands for something else
abbrev pub put : List ℕ → Local → List Slot → List Slot
put x v [] = []
put x v (s ∷ rest) = if bytes_eq s.name x then record s { local = v } ∷ rest else s ∷ put x v rest
