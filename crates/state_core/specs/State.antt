-- The state of the machine: the values of its registers, and a finite map from addresses to bytes.
use Rattle.std.specs.Prelude.{◌≡◌, ◌<◌, ◌^◌, ℕ, List, map, All, Some, slice_index_or, refl}
use Rattle.std.specs.Ordering.{nat_cmp}
use Rattle.std.specs.FinMap.{FinMap, get, code}
use Rattle.std.specs.Coded.{Coded, code_by, coded×, coded_list, coded_ℕ}
use Rattle.bv_bits.specs.declared.Bits.{Bits}
use Rattle.bv_bits.specs.contracts.Bits.{the_row}
use Rattle.bv_bits.specs.Bits.{IsBits, width_of}

-- bytes by address
abbrev pub Memory : Type 0
Memory = FinMap nat_cmp ℕ

-- the values of the registers, in the order of their numbers, and the bytes that are there
pub record State : Type 0 where
  pub registers : List Bits
  pub memory : Memory

-- a state is stored as the pair of its parts
abbrev pub state_code : Coded State
state_code =
    code_by (List Bits × Memory) (coded× (coded_list the_row.coded) (code coded_ℕ coded_ℕ)) (λ s. (s.registers, s.memory)) (λ p. record { registers = p.0; memory = p.1 }) (λ _. refl)

-- bytes, at addresses: each address is below 2 ^ 64, and each byte below 2 ^ 8
pub record IsMemory (m : Memory) : Type 0 where
  pub addresses : (a b : ℕ) → get m a ≡ Some b → a < 2 ^ 64
  pub bytes : (a b : ℕ) → get m a ≡ Some b → b < 2 ^ 8

-- a state holds values alone
pub record IsState (s : State) : Type 0 where
  pub registers : All IsBits s.registers
  pub memory : IsMemory s.memory

-- the value of a register; nothing of no width where there is no such register
abbrev pub register_of : State → ℕ → Bits
register_of s r = slice_index_or s.registers r (record { width = 0; value = 0 })

-- the widths of the registers
abbrev pub widths_of : State → List ℕ
widths_of s = map width_of s.registers

-- the zero of a width
abbrev pub zero_of : ℕ → Bits
zero_of w = record { width = w; value = 0 }
