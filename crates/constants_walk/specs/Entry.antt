-- The one state that the entry and the code of a specification over constants give.
use Rattle.std.specs.Prelude.{◌≡◌, ◌<◌, ℕ, ◌+◌, List, [], ◌∷◌, length, map, slice_set, slice_index_or}
use Rattle.std.specs.FinMap.{empty, insert}
use Rattle.bv_bits.specs.declared.Bits.{Bits}
use Rattle.bv_bits.specs.Bits.{IsBits}
use Rattle.state_core.specs.State.{State, Memory, zero_of}
use Rattle.machine_run.specs.Machine.{Machine}
use Rattle.machine_safe.specs.First.{Constants}

-- registers with values set, one after the other
abbrev pub with_values : List (ℕ × Bits) → List Bits → List Bits
with_values [] rs = rs
with_values (v ∷ vs) rs = with_values vs (slice_set rs v.0 v.1)

-- memory with bytes set from an address on
abbrev pub with_bytes : ℕ → List ℕ → Memory → Memory
with_bytes at [] m = m
with_bytes at (b ∷ bytes) m = with_bytes (at + 1) bytes (insert m at b)

-- an address as the value of the PC
abbrev pub address_bits : ℕ → Bits
address_bits at = record { width = 64; value = at }

-- the registers of the entry, all others zero, the PC at the entry, and the bytes of the code alone
abbrev pub entry_state : Machine → Constants → State
entry_state m c = record {
  registers = slice_set (with_values c.entry (map zero_of m.widths)) m.pc (address_bits c.entry_at);
  memory = with_bytes c.lo c.code empty;
}

-- a value that a register of these widths can take
pub record Fits (widths : List ℕ) (v : ℕ × Bits) : Type 0 where
  pub there : v.0 < length widths
  pub wide : slice_index_or widths v.0 0 ≡ v.1.width
  pub bits : IsBits v.1
