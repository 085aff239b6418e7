-- Which of some segments, in the order of their addresses, share an address with another.
use Rattle.std.specs.Prelude.{◌≡◌, ◌≢◌, ◌≤◌, ◌<◌, ◌==◌, ◌&&◌, ℕ, ◌⊎◌, if◌then◌else◌, nat_lt, not, List, [], ◌∷◌, length, Option, Some, None, IsTrue, slice_index_or}
use Rattle.elf_image.specs.declared.segment.Segment.{Segment}
use Rattle.elf_image.specs.Segments.{end}
use Rattle.elf_image.specs.Overlaps.{shares}

-- the segment at place k shares an address with the one at another place
pub record TakesPart (ss : List Segment) (k : ℕ) : Type 0 where
  pub other : ℕ
  pub below : other < length ss
  pub differs : other ≢ k
  pub share : (d : Segment) → IsTrue (shares (slice_index_or ss k d) (slice_index_or ss other d))

-- the greatest end of the first n segments; 0 where there are none
pub record IsGreatestEnd (ss : List Segment) (n g : ℕ) : Type 0 where
  pub above : (m : ℕ) (d : Segment) → m < n → end (slice_index_or ss m d) ≤ g
  pub reached : (g ≡ 0) ⊎ ((m : ℕ) × (m < n) × ((d : Segment) → g ≡ end (slice_index_or ss m d)))

-- of the first n segments, the one with the least number that takes part
pub record IsLeast (ss : List Segment) (n : ℕ) (s : Segment) : Type 0 where
  pub place : ℕ
  pub below : place < n
  pub is : (d : Segment) → slice_index_or ss place d ≡ s
  pub part : TakesPart ss place
  pub least : (m : ℕ) (d : Segment) → m < n → TakesPart ss m → s.number ≤ (slice_index_or ss m d).number

-- of the first n segments, the one with the least number that takes part, or none where none does
abbrev pub IsLeastSharing : List Segment → ℕ → Option Segment → Type 0
IsLeastSharing ss n None = (m : ℕ) → m < n → ¬ TakesPart ss m
IsLeastSharing ss n (Some s) = IsLeast ss n s

-- the one of the lesser number
abbrev pub lesser : Option Segment → Segment → Segment
lesser None s = s
lesser (Some t) s = if nat_lt t.number s.number then t else s

-- the first of the segments that has another number than this one and shares an address with it
abbrev pub first_other : Segment → List Segment → Option Segment
first_other s [] = None
first_other s (t ∷ ts) = if not (t.number == s.number) && shares s t then Some t else first_other s ts
