-- A word that is fetched in the code is the code's word, whatever else stands in memory.
use Rattle.std.proofs.Common.{◌≡◌, ℕ, zero, suc, ◌+◌, ◌-◌, ◌*◌, ◌%◌, ◌^◌, ◌<◌, ◌≤◌, Bool, true, false, List, [], ◌∷◌, ◌++◌, length, refl, ap, ◌∙◌, arith, append_assoc, Some}
use Rattle.std.specs.Prelude.{slice_index, option_and_then, if◌then◌else◌, nat_eq, nat_lt}
use Rattle.std.proofs.lemmas.Bool.{le-ltb, lt-ltb}
use Rattle.std.specs.FinMap.{get}
use Rattle.state_core.specs.declared.kinds.Access.{Access}
use Rattle.state_core.specs.declared.kinds.AccessKind.TheVariants as access
use Rattle.state_core.specs.declared.kinds.FaultKind.TheVariants as kind
use Rattle.state_core.specs.declared.word.Word.{Word}
use Rattle.state_core.specs.State.{Memory}
use Rattle.state_core.specs.World.{World, gets, faults}
use Rattle.state_core.specs.Memory.{number_at, logged, fetch, or_no_byte}
use Rattle.state_core.specs.Claims.{HasBytes}
use Rattle.machine_run.specs.Words.{word_of, is_long, both_parts, at_once, in_parts, joined, fetch_word}
use Rattle.machine_safe.specs.First.{Constants, end_of, byte_of, size_by}

-- n bytes from that place on, as a little-endian number
abbrev pub number_in : List ℕ → ℕ → ℕ → ℕ
number_in code i zero = 0
number_in code i (suc n) = slice_index code i + 256 * number_in code (i + 1) n

-- a byte of the code, wherever it stands
byte_there : (m : Memory) (at : ℕ) (bytes : List ℕ) (i a : ℕ) → a ≡ at + i → HasBytes m at bytes → i < length bytes → get m a ≡ Some (slice_index bytes i)
byte_there m at [] i a is has inside = absurd (omega (arith, inside))
byte_there m at (b ∷ bytes) zero a is has inside = ap (get m) (let e : a ≡ at = omega (arith, is) in e) ∙ has.0
byte_there m at (b ∷ bytes) (suc i) a is has inside =
    byte_there m (at + 1) bytes i a (omega (arith, is)) has.1 (omega (arith, inside))

-- a number that is there
more_bytes : (m : Memory) (a n b rest : ℕ) → get m a ≡ Some b → number_at m (a + 1) n ≡ Some rest → number_at m a (suc n) ≡ Some (b + 256 * rest)
more_bytes m a n b rest is more =
    ap (λ o. option_and_then (λ b. option_and_then (λ rest. Some (b + 256 * rest)) (number_at m (a + 1) n)) o) is
    ∙ ap (λ o. option_and_then (λ rest. Some (b + 256 * rest)) o) more

number_there : (m : Memory) (at : ℕ) (bytes : List ℕ) (n i a : ℕ) → a ≡ at + i → HasBytes m at bytes → i + n ≤ length bytes → number_at m a n ≡ Some (number_in bytes i n)
number_there m at bytes zero i a is has inside = refl
number_there m at bytes (suc n) i a is has inside =
    more_bytes m a n (slice_index bytes i) (number_in bytes (i + 1) n) (byte_there m at bytes i a is has (omega (arith, inside)))
    (number_there m at bytes n (i + 1) (a + 1) (omega (arith, is)) has (omega (arith, inside)))

-- the fetch of n bytes of the code
fetch_there : (w : World) (lo pc n : ℕ) (code : List ℕ) → HasBytes w.state.memory lo code → lo ≤ pc → pc + n ≤ lo + length code → lo + length code ≤ 2 ^ 64
    → fetch [] pc n w ≡ gets (number_in code (pc - lo) n) (logged access.Fetch pc n w)
unfolding fetch
fetch_there w lo pc n code has low fits place =
    ap (λ b. if b then faults kind.NoByte (logged access.Fetch pc n w) else or_no_byte (number_at w.state.memory pc n) (logged access.Fetch pc n w))
    (le-ltb (2 ^ 64) (pc + n) (omega (arith, fits, place)))
    ∙ ap (λ o. or_no_byte o (logged access.Fetch pc n w))
    (number_there w.state.memory lo code n (pc - lo) pc (omega (arith, low)) has (omega (arith, low, fits)))

-- ---- words

-- a fetch
abbrev pub fetch_of : ℕ → ℕ → Access
fetch_of at n = record { kind = access.Fetch; addr = at; bytes = n }

-- the fetches of a word
abbrev pub fetches_by : Bool → Bool → ℕ → List Access
fetches_by false long pc = fetch_of pc 4 ∷ []
fetches_by true false pc = fetch_of pc 2 ∷ []
fetches_by true true pc = fetch_of pc 2 ∷ fetch_of (pc + 2) 2 ∷ []

-- a world with accesses noted
abbrev pub noting : List Access → World → World
noting l w = record w { accesses = w.accesses ++ l }

-- the word at an address of the code
abbrev pub word_by : Bool → Bool → List ℕ → ℕ → Word
word_by false long code i = word_of 4 (number_in code i 4)
word_by true false code i = word_of 2 (number_in code i 2)
word_by true true code i = both_parts (number_in code i 2) (number_in code (i + 2) 2)

-- the lowest two bits stand in the first byte
low_bits : (b rest : ℕ) → (b + 256 * rest) % 4 ≡ b % 4
low_bits b rest = omega arith

long_by : (code : List ℕ) (i : ℕ) → is_long (number_in code i 2) ≡ is_long (slice_index code i)
long_by code i = ap (λ n. nat_eq n 3) (low_bits (slice_index code i) (number_in code (i + 1) 1))

module _ (c : Constants) (w : World) (pc : ℕ) (has : HasBytes w.state.memory c.lo c.code) (low : c.lo ≤ pc) (place : end_of c ≤ 2 ^ 64) where
  part_there : (n : ℕ) → pc + n ≤ end_of c → fetch [] pc n w ≡ gets (number_in c.code (pc - c.lo) n) (logged access.Fetch pc n w)
  part_there n fits = fetch_there w c.lo pc n c.code has low fits place

  second_there : pc + 4 ≤ end_of c
      → fetch [] (pc + 2) 2 (logged access.Fetch pc 2 w) ≡ gets (number_in c.code (pc - c.lo + 2) 2) (noting (fetch_of pc 2 ∷ fetch_of (pc + 2) 2 ∷ []) w)
  second_there fits =
      fetch_there (logged access.Fetch pc 2 w) c.lo (pc + 2) 2 c.code has (omega (arith, low)) (omega (arith, fits)) place
      ∙ ap (λ i. gets (number_in c.code i 2) (logged access.Fetch (pc + 2) 2 (logged access.Fetch pc 2 w))) (let e : (pc + 2) - c.lo ≡ pc - c.lo + 2 = omega (arith, low) in e)
      ∙ ap (λ l. gets (number_in c.code (pc - c.lo + 2) 2) (record w { accesses = l })) (append_assoc w.accesses (fetch_of pc 2 ∷ []) (fetch_of (pc + 2) 2 ∷ []))

  -- the fetch of a word of the code
  pub word_there : (short long : Bool) → is_long (byte_of c pc) ≡ long → pc + size_by short long ≤ end_of c
      → fetch_word short [] pc w ≡ gets (word_by short long c.code (pc - c.lo)) (noting (fetches_by short long pc) w)
  word_there false long is fits = ap at_once (part_there 4 fits)
  word_there true false is fits =
      ap (in_parts [] pc) (part_there 2 fits)
      ∙ ap (λ b. if b then (if nat_lt (pc + 2) (2 ^ 64) then joined (number_in c.code (pc - c.lo) 2) (fetch [] (pc + 2) 2 (logged access.Fetch pc 2 w))
      else faults kind.NoByte (logged access.Fetch pc 2 w)) else gets (word_of 2 (number_in c.code (pc - c.lo) 2)) (logged access.Fetch pc 2 w))
      (long_by c.code (pc - c.lo) ∙ is)
  word_there true true is fits =
      ap (in_parts [] pc) (part_there 2 (omega (arith, fits)))
      ∙ ap (λ b. if b then (if nat_lt (pc + 2) (2 ^ 64) then joined (number_in c.code (pc - c.lo) 2) (fetch [] (pc + 2) 2 (logged access.Fetch pc 2 w))
      else faults kind.NoByte (logged access.Fetch pc 2 w)) else gets (word_of 2 (number_in c.code (pc - c.lo) 2)) (logged access.Fetch pc 2 w))
      (long_by c.code (pc - c.lo) ∙ is)
      ∙ ap (λ b. if b then joined (number_in c.code (pc - c.lo) 2) (fetch [] (pc + 2) 2 (logged access.Fetch pc 2 w)) else faults kind.NoByte (logged access.Fetch pc 2 w))
      (lt-ltb (pc + 2) (2 ^ 64) (omega (arith, fits, place)))
      ∙ ap (joined (number_in c.code (pc - c.lo) 2)) (second_there fits)
