-- The word at an address: four bytes, or, where there are words of two bytes, two bytes and two more where the lowest two bits are 11.
use Rattle.std.specs.Prelude.{ℕ, ◌+◌, ◌*◌, ◌%◌, ◌^◌, nat_eq, nat_lt, Bool, true, false, if◌then◌else◌, List, Option, Some, option_and_then}
use Rattle.std.specs.Option.{option_map}
use Rattle.state_core.specs.declared.kinds.FaultKind.TheVariants as kind
use Rattle.state_core.specs.declared.kinds.Range.{Range}
use Rattle.state_core.specs.declared.word.Word.{Word}
use Rattle.state_core.specs.World.{World, Got, gets, faults, lacks}
use Rattle.state_core.specs.Memory.{fetch}

-- a word of so many bytes
abbrev pub word_of : ℕ → ℕ → Word
word_of n bits = record { bits = bits; bytes = n }

-- whether two more bytes follow the first two: their lowest two bits are 11
abbrev pub is_long : ℕ → Bool
is_long low = nat_eq (low % 4) 3

-- the word of four bytes, by its two parts
abbrev pub both_parts : ℕ → ℕ → Word
both_parts low high = word_of 4 (low + 65536 * high)

-- the word at an address, by what is read there
abbrev pub word_at : Bool → (ℕ → ℕ → Option ℕ) → ℕ → Option Word
word_at false read at = option_map (word_of 4) (read at 4)
word_at true read at =
    option_and_then (λ low. if is_long low then option_map (both_parts low) (read (at + 2) 2) else Some (word_of 2 low)) (read at 2)

-- ---- fetches

-- a word of four bytes that is fetched at once
abbrev pub at_once : Got ℕ → Got Word
at_once (gets bits w) = gets (word_of 4 bits) w
at_once (faults k w) = faults k w
at_once (lacks w) = lacks w

-- the second two bytes behind the first ones
abbrev pub joined : ℕ → Got ℕ → Got Word
joined low (gets high w) = gets (both_parts low high) w
joined low (faults k w) = faults k w
joined low (lacks w) = lacks w

-- what follows the first two bytes: bytes at 2 ^ 64 are a fault that notes no access
abbrev pub second : List Range → ℕ → ℕ → World → Got Word
second ranges at low w =
    if is_long low then (if nat_lt (at + 2) (2 ^ 64) then joined low (fetch ranges (at + 2) 2 w) else faults kind.NoByte w) else gets (word_of 2 low) w

-- the word whose first two bytes are fetched
abbrev pub in_parts : List Range → ℕ → Got ℕ → Got Word
in_parts ranges at (gets low w) = second ranges at low w
in_parts ranges at (faults k w) = faults k w
in_parts ranges at (lacks w) = lacks w

-- the fetch of the word at an address
abbrev pub fetch_word : Bool → List Range → ℕ → World → Got Word
fetch_word false ranges at w = at_once (fetch ranges at 4 w)
fetch_word true ranges at w = in_parts ranges at (fetch ranges at 2 w)
