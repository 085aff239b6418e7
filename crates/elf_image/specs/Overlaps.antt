-- Segments that share an address.
use Rattle.std.specs.Prelude.{ℕ, Bool, if◌then◌else◌, nat_lt, min, max, List, [], ◌∷◌, Option, Some, None}
use Rattle.elf_image.specs.declared.segment.Segment.{Segment}
use Rattle.elf_image.specs.Segments.{end}

-- two segments share an address: both begin before either ends
abbrev pub shares : Segment → Segment → Bool
shares s t = nat_lt (max s.addr t.addr) (min (end s) (end t))

-- the first of the segments that shares an address with this one
abbrev pub first_sharing : Segment → List Segment → Option Segment
first_sharing s [] = None
first_sharing s (t ∷ ts) = if shares s t then Some t else first_sharing s ts

-- this pair, or else that one
abbrev pub pair_or : Segment → Option Segment → Option (Segment × Segment) → Option (Segment × Segment)
pair_or s (Some t) other = Some (s, t)
pair_or s None other = other

-- the first segment that shares an address with a later one, and the first such later one
abbrev pub least_overlap : List Segment → Option (Segment × Segment)
least_overlap [] = None
least_overlap (s ∷ ss) = pair_or s (first_sharing s ss) (least_overlap ss)
