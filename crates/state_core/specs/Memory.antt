-- Accesses to memory and to devices.
use Rattle.std.specs.Prelude.{ℕ, zero, suc, ◌+◌, ◌*◌, ◌^◌, ◌%◌, ◌/◌, Bool, true, false, ◌&&◌, if◌then◌else◌, nat_le, nat_lt, min, max, List, [], ◌∷◌, ◌++◌, Option, Some, None, is_some, option_and_then}
use Rattle.std.specs.List.{list_any}
use Rattle.std.specs.FinMap.{get, insert}
use Rattle.state_core.specs.declared.kinds.FaultKind.TheVariants as kind
use Rattle.state_core.specs.declared.kinds.AccessKind.{AccessKind}
use Rattle.state_core.specs.declared.kinds.AccessKind.TheVariants as access
use Rattle.state_core.specs.declared.kinds.Range.{Range}
use Rattle.state_core.specs.State.{Memory}
use Rattle.state_core.specs.World.{World, Got, gets, faults, lacks}

-- the one value of an access that gives nothing
pub data Nothing : Type 0 where
  nothing : Nothing

-- ---- bytes as numbers

-- the n bytes from that address on, as a little-endian number; none where a byte isn't there
abbrev pub number_at : Memory → ℕ → ℕ → Option ℕ
number_at m at zero = Some 0
number_at m at (suc n) = option_and_then (λ b. option_and_then (λ rest. Some (b + 256 * rest)) (number_at m (at + 1) n)) (get m at)

-- the same, and none for a range that passes the last address
abbrev pub read_number : Memory → ℕ → ℕ → Option ℕ
read_number m at n = if nat_le (at + n) (2 ^ 64) then number_at m at n else None

-- the memory with the n low bytes of the value from that address on, the lowest first
abbrev pub with_number : Memory → ℕ → ℕ → ℕ → Memory
with_number m at zero value = m
with_number m at (suc n) value = with_number (insert m at (value % 256)) (at + 1) n (value / 256)

-- the memory after a write: it never adds a byte; none where the range passes the last address or a byte isn't there
abbrev pub written : Memory → ℕ → ℕ → ℕ → Option Memory
written m at n value = if is_some (read_number m at n) then Some (with_number m at n value) else None

-- ---- device ranges

-- some of the n bytes from that address on lies in the range: none does where there are no bytes or the range is empty
abbrev pub touches_range : ℕ → ℕ → Range → Bool
touches_range at n r = nat_lt (max at r.lo) (min (at + n) r.hi)

-- the n bytes from that address on lie in the range
abbrev pub lies_in : ℕ → ℕ → Range → Bool
lies_in at n r = nat_le r.lo at && nat_le (at + n) r.hi

-- some of the n bytes from that address on lies in a device range
abbrev pub touches : List Range → ℕ → ℕ → Bool
touches ranges at n = list_any (touches_range at n) ranges

-- the n bytes from that address on lie in one device range
abbrev pub in_device : List Range → ℕ → ℕ → Bool
in_device ranges at n = list_any (lies_in at n) ranges

-- ---- accesses

-- the world with the access noted
abbrev pub logged : AccessKind → ℕ → ℕ → World → World
logged k at n w = record w { accesses = w.accesses ++ record { kind = k; addr = at; bytes = n } ∷ [] }

-- the number that was found, or the fault of a byte that isn't there
abbrev pub or_no_byte : Option ℕ → World → Got ℕ
or_no_byte (Some value) w = gets value w
or_no_byte None w = faults kind.NoByte w

-- the fetch of an instruction, whose access is noted already
abbrev pub fetched : List Range → ℕ → ℕ → World → Got ℕ
fetched ranges at n w =
    if nat_lt (2 ^ 64) (at + n) then faults kind.NoByte w
    else (if touches ranges at n then faults kind.BadDevice w
    else or_no_byte (number_at w.state.memory at n) w)

-- the fetch of the n bytes of an instruction
unfoldable pub fetch : List Range → ℕ → ℕ → World → Got ℕ
fetch ranges at n w = fetched ranges at n (logged access.Fetch at n w)

-- a read of a device takes the low bytes of the next answer
abbrev pub answered : List ℕ → ℕ → ℕ → World → Got ℕ
answered [] at n w = lacks w
answered (a ∷ rest) at n w = gets (a % 2 ^ (8 * n)) (record w {
  answers = rest;
  events = w.events ++ record { write = false; addr = at; bytes = n; value = a % 2 ^ (8 * n) } ∷ [];
})

-- a read, whose access is noted already
abbrev pub loaded : List Range → ℕ → ℕ → World → Got ℕ
loaded ranges at n w =
    if nat_lt (2 ^ 64) (at + n) then faults kind.NoByte w
    else (if touches ranges at n
    then (if in_device ranges at n then answered w.answers at n w else faults kind.BadDevice w)
    else or_no_byte (number_at w.state.memory at n) w)

-- a read of n bytes
unfoldable pub load : List Range → ℕ → ℕ → World → Got ℕ
load ranges at n w = loaded ranges at n (logged access.Read at n w)

-- the memory that was written, or the fault of a byte that isn't there
abbrev pub or_no_place : Option Memory → World → Got Nothing
or_no_place (Some m) w = gets nothing (record w { state = record w.state { memory = m } })
or_no_place None w = faults kind.NoByte w

-- a write to a device
abbrev pub told : ℕ → ℕ → ℕ → World → World
told at n value w = record w { events = w.events ++ record { write = true; addr = at; bytes = n; value = value } ∷ [] }

-- a write, whose access is noted already
abbrev pub stored : List Range → ℕ → ℕ → ℕ → World → Got Nothing
stored ranges at n value w =
    if nat_lt (2 ^ 64) (at + n) then faults kind.NoByte w
    else (if touches ranges at n
    then (if in_device ranges at n then gets nothing (told at n value w) else faults kind.BadDevice w)
    else or_no_place (written w.state.memory at n value) w)

-- a write of the n bytes of a value below 2 ^ (8 * n)
unfoldable pub store : List Range → ℕ → ℕ → ℕ → World → Got Nothing
store ranges at n value w = stored ranges at n value (logged access.Write at n w)
