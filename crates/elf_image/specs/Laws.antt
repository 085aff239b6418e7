-- What the definitions of an image come to, in the words of its subject.
use Rattle.std.specs.Prelude.{◌≡◌, ◌≢◌, ◌≤◌, ◌<◌, ℕ, ◌+◌, ◌⊎◌, All, AllPairs, Contains, List, length, Option, Some, None, slice_index, slice_index_or}
use Rattle.std.specs.FinMap.{get}
use Rattle.state_core.specs.State.{Memory}
use Rattle.elf_image.specs.declared.TheConstants.{RAW_ADDRESS}
use Rattle.elf_image.specs.declared.segment.Segment.{Segment}
use Rattle.elf_image.specs.Segments.{Covers}
use Rattle.elf_image.specs.Symbols.{Symbol}

-- two segments have an address in common
abbrev pub HaveCommon : Segment → Segment → Type 0
HaveCommon s t = (a : ℕ) × Covers s a × Covers t a

-- no two segments have an address in common
abbrev pub AreApart : List Segment → Type 0
AreApart ss = AllPairs (λ s t. ¬ HaveCommon s t) ss

-- two segments, by their places, that have an address in common, and no lesser pair that does
pub record IsLeastPair (ss : List Segment) (s t : Segment) : Type 0 where
  pub first : ℕ
  pub second : ℕ
  pub rise : first < second
  pub within : second < length ss
  pub first_is : (d : Segment) → slice_index_or ss first d ≡ s
  pub second_is : (d : Segment) → slice_index_or ss second d ≡ t
  pub common : HaveCommon s t
  pub least : (i j : ℕ) (d : Segment) → i < j → j < length ss → HaveCommon (slice_index_or ss i d) (slice_index_or ss j d) → (first < i) ⊎ ((first ≡ i) × (second ≤ j))

-- a memory has the bytes of segments and no others: below file_size those of the file, from there on zeros
pub record HoldsSegments (file : List ℕ) (ss : List Segment) (m : Memory) : Type 0 where
  pub stored : (s : Segment) (k : ℕ) → Contains ss s → k < s.file_size → get m (s.addr + k) ≡ Some (slice_index file (s.offset + k))
  pub zero_behind : (s : Segment) (k : ℕ) → Contains ss s → s.file_size ≤ k → k < s.size → get m (s.addr + k) ≡ Some 0
  pub elsewhere : (a : ℕ) → All (λ s. ¬ Covers s a) ss → get m a ≡ None

-- a memory has the bytes of a file from the raw address on and no others
pub record HoldsFile (file : List ℕ) (m : Memory) : Type 0 where
  pub stored : (k : ℕ) → k < length file → get m (RAW_ADDRESS + k) ≡ Some (slice_index file k)
  pub before : (a : ℕ) → a < RAW_ADDRESS → get m a ≡ None
  pub behind : (a : ℕ) → RAW_ADDRESS + length file ≤ a → get m a ≡ None

-- the value is that of a symbol with the name, and no symbol before that one has the name
pub record IsFirstValue (ss : List Symbol) (name : List ℕ) (v : ℕ) : Type 0 where
  pub place : ℕ
  pub within : place < length ss
  pub is : (d : Symbol) → slice_index_or ss place d ≡ (name, v)
  pub none_before : (k : ℕ) (d : Symbol) → k < place → (slice_index_or ss k d).0 ≢ name
