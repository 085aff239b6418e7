-- What a file is as a program's image: its bytes by address and its symbols, or the first refusal.
use Rattle.std.specs.Prelude.{◌≡◌, ◌≤◌, ◌<◌, ◌+◌, ◌*◌, ◌^◌, ℕ, ◌⊎◌, All, AllPairs, if◌then◌else◌, nat_lt, List, [], length, Option, Some, None, Result, Ok, Err, refl}
use Rattle.std.specs.List.{sum_by}
use Rattle.std.specs.FinMap.{empty, code}
use Rattle.std.specs.Coded.{Coded, code_by, coded×, coded_list, coded_ℕ}
use Rattle.state_core.specs.State.{Memory}
use Rattle.elf_image.specs.declared.TheConstants.{IMAGE_LIMIT, RAW_ADDRESS}
use Rattle.elf_image.specs.declared.fault.ImageFault.{ImageFault}
use Rattle.elf_image.specs.declared.fault.ImageFault.TheVariants as fault
use Rattle.elf_image.specs.declared.segment.Segment.{Segment}
use Rattle.elf_image.specs.declared.symbols.Table.{Table}
use Rattle.elf_image.specs.Fields.{has_magic}
use Rattle.elf_image.specs.Segments.{header_fault, segments_of, end, with_bytes, memory_of}
use Rattle.elf_image.specs.Overlaps.{least_overlap}
use Rattle.elf_image.specs.Symbols.{Symbol, symbols_of}

-- bytes by address, and pairs of a name and a value
pub record Image : Type 0 where
  pub memory : Memory
  pub symbols : List Symbol

-- an image is stored as the pair of its parts
abbrev pub image_code : Coded Image
image_code =
    code_by (Memory × List Symbol) (coded× (code coded_ℕ coded_ℕ) (coded_list (coded× (coded_list coded_ℕ) coded_ℕ))) (λ i. (i.memory, i.symbols)) (λ p. record { memory = p.0; symbols = p.1 }) (λ _. refl)

-- the image of a file that is no ELF file: its bytes from the raw address on, and no symbols
abbrev pub raw_image : List ℕ → Image
raw_image file = record { memory = with_bytes empty RAW_ADDRESS file; symbols = [] }

-- all bytes of segments in memory
abbrev pub memory_size : List Segment → ℕ
memory_size ss = sum_by (λ s. s.size) ss

-- the refusal of a pair of segments that share an address, or else the image of these segments
abbrev pub unless_overlap : List ℕ → List Segment → Option (Segment × Segment) → Result Image ImageFault
unless_overlap file ss (Some p) = Err (fault.Overlap p.0.number p.1.number)
unless_overlap file ss None = Ok (record { memory = memory_of file ss; symbols = symbols_of file })

-- the image of these segments, or the refusal of their sizes or of the least pair that shares an address
abbrev pub placed : List ℕ → List Segment → Result Image ImageFault
placed file ss = if nat_lt IMAGE_LIMIT (memory_size ss) then Err fault.TooLarge else unless_overlap file ss (least_overlap ss)

-- what segments give, or their refusal
abbrev pub all_placed : List ℕ → Result (List Segment) ImageFault → Result Image ImageFault
all_placed file (Err f) = Err f
all_placed file (Ok ss) = placed file ss

-- the refusal of the ELF header, or else what the segments give
abbrev pub unless_fault : List ℕ → Option ImageFault → Result Image ImageFault
unless_fault file (Some f) = Err f
unless_fault file None = all_placed file (segments_of file)

-- the image of a file, or the first refusal
abbrev pub image_of : List ℕ → Result Image ImageFault
image_of file =
    if nat_lt IMAGE_LIMIT (length file) then Err fault.TooLarge
    else (if has_magic file then unless_fault file (header_fault file)
    else Ok (raw_image file))

-- a segment's part of the file is wholly there and no longer than the segment, which has an address and passes none
pub record IsSound (file : List ℕ) (s : Segment) : Type 0 where
  pub some : 0 < s.size
  pub enough : s.file_size ≤ s.size
  pub there : s.offset + s.file_size ≤ length file
  pub ends : end s ≤ 2 ^ 64

-- a table's symbols and their names are wholly in the file
pub record HoldsTable (file : List ℕ) (t : Table) : Type 0 where
  pub symbols : t.at + 24 * t.count ≤ length file
  pub names : t.names_at + t.names_size ≤ length file

-- segments that lie in the file, by rising addresses and apart, and symbol tables that lie in the file
pub record IsLaidOut (file : List ℕ) (segments : List Segment) (tables : List Table) : Type 0 where
  pub sound : All (IsSound file) segments
  pub apart : AllPairs (λ s t. end s ≤ t.addr) segments
  pub held : All (HoldsTable file) tables

-- the refusal is want of memory or that of the definition
abbrev pub IsRefusal : {X : Type 0} → Result X ImageFault → ImageFault → Type 0
IsRefusal answer f = (f ≡ fault.NoMemory) ⊎ (answer ≡ Err f)

-- the refusal is want of memory, or names the two segments of this pair
abbrev pub IsOverlapOf : Option (Segment × Segment) → ImageFault → Type 0
IsOverlapOf None f = f ≡ fault.NoMemory
IsOverlapOf (Some p) f = (f ≡ fault.NoMemory) ⊎ (f ≡ fault.Overlap p.0.number p.1.number)
