-- The places of the newest locals of their names.
use Rattle.std.specs.Prelude.{◌≡◌, ℕ, List, [], ◌∷◌, length, Option, Some, None, bytes_eq, if◌then◌else◌, ⊤}
use Rattle.sail_syntax.specs.Tree.{Text}
use Rattle.sail_values.specs.declared.value.Slot.{Slot}
use Rattle.eval_parts.specs.declared.locals.Kept.{Kept}

-- what contracts see of a local
abbrev pub slot_of : Kept → Slot
slot_of k = record { name = k.name.now; local = k.local }

-- the place of the newest of a name among locals with the newest first, counted from the oldest
abbrev pub newest_place : Text → List Kept → Option ℕ
newest_place x [] = None
newest_place x (k ∷ older) = if bytes_eq k.name.now x then Some (length older) else newest_place x older

-- each has the place of the one that it hides
abbrev pub AreChained : List Kept → Type 0
AreChained [] = ⊤
AreChained (k ∷ older) = (k.hides ≡ newest_place k.name.now older) × AreChained older
