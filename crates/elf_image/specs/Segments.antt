-- The segments of an ELF file, in the order of their program headers, or the first refusal.
use Rattle.std.specs.Prelude.{◌≡◌, ◌≤◌, ◌<◌, ◌^◌, ℕ, zero, suc, ◌+◌, ◌-◌, ◌*◌, Bool, ◌&&◌, ◌||◌, ◌==◌, not, if◌then◌else◌, nat_le, nat_lt, List, [], ◌∷◌, ◌++◌, length, take, drop, replicate, slice_index, Option, Some, None, Result, Ok, Err}
use Rattle.std.specs.FinMap.{empty, insert}
use Rattle.state_core.specs.State.{Memory}
use Rattle.elf_image.specs.declared.fault.ImageFault.{ImageFault}
use Rattle.elf_image.specs.declared.fault.ImageFault.TheVariants as fault
use Rattle.elf_image.specs.declared.segment.Segment.{Segment}
use Rattle.elf_image.specs.Fields.{is_within, e_type, e_machine, e_phoff, e_phentsize, e_phnum, p_type, p_offset, p_vaddr, p_filesz, p_memsz}

-- ---- the ELF header

-- an executable or a shared object for RISC-V, whose program headers, if there are any, have 56 bytes
abbrev pub is_riscv_program : List ℕ → Bool
is_riscv_program file = (e_machine file == 243) && (e_type file == 2 || e_type file == 3) && (e_phentsize file == 56 || e_phnum file == 0)

-- the first refusal of the ELF header: byte 4 is 2 for ELF-64, byte 5 is 1 for little-endian
abbrev pub header_fault : List ℕ → Option ImageFault
header_fault file =
    if nat_lt (length file) 64 then Some (fault.Truncated (length file))
    else (if not (slice_index file 4 == 2) then Some fault.Class
    else (if not (slice_index file 5 == 1) then Some fault.Order
    else (if not (is_riscv_program file) then Some fault.Kind
    else None)))

-- ---- program headers

-- the program header at a place loads bytes: it is a PT_LOAD with a p_memsz above 0
abbrev pub loads : List ℕ → ℕ → Bool
loads file at = (p_type file at == 1) && nat_lt 0 (p_memsz file at)

-- more bytes in the file than in memory, or an address past the last one
abbrev pub is_out_of_range : List ℕ → ℕ → Bool
is_out_of_range file at = nat_lt (p_memsz file at) (p_filesz file at) || nat_lt (2 ^ 64) (p_vaddr file at + p_memsz file at)

-- the segment of program header number i, at that place
abbrev pub segment_at : List ℕ → ℕ → ℕ → Segment
segment_at file i at = record {
  number = i;
  offset = p_offset file at;
  addr = p_vaddr file at;
  file_size = p_filesz file at;
  size = p_memsz file at;
}

-- what program header number i, at that place, gives: a segment or none, or its first refusal
abbrev pub header_at : List ℕ → ℕ → ℕ → Result (Option Segment) ImageFault
header_at file i at =
    if not (is_within file at 56) then Err (fault.Truncated at)
    else (if not (loads file at) then Ok None
    else (if is_out_of_range file at then Err (fault.Range i)
    else (if not (is_within file (p_offset file at) (p_filesz file at)) then Err (fault.Truncated (p_offset file at))
    else Ok (Some (segment_at file i at)))))

-- a segment, if there is one, and those behind it
abbrev pub with_first : Option Segment → Result (List Segment) ImageFault → Result (List Segment) ImageFault
with_first None rest = rest
with_first (Some s) (Ok ss) = Ok (s ∷ ss)
with_first (Some s) (Err f) = Err f

-- what a header gives and then what those behind it give, or the first refusal
abbrev pub joined : Result (Option Segment) ImageFault → Result (List Segment) ImageFault → Result (List Segment) ImageFault
joined (Err f) rest = Err f
joined (Ok s) rest = with_first s rest

-- the segments of n program headers from number i on, or the first refusal
abbrev pub headers_from : List ℕ → ℕ → ℕ → Result (List Segment) ImageFault
headers_from file i zero = Ok []
headers_from file i (suc n) = joined (header_at file i (e_phoff file + 56 * i)) (headers_from file (i + 1) n)

-- the segments of a file
abbrev pub segments_of : List ℕ → Result (List Segment) ImageFault
segments_of file = headers_from file 0 (e_phnum file)

-- ---- what segments hold

-- behind the last address of a segment
abbrev pub end : Segment → ℕ
end s = s.addr + s.size

-- a segment has that address
abbrev pub Covers : Segment → ℕ → Type 0
Covers s a = (s.addr ≤ a) × (a < end s)

-- the bytes of a segment: those that stand in the file, and then zeros
abbrev pub bytes_of : List ℕ → Segment → List ℕ
bytes_of file s = take s.file_size (drop s.offset file) ++ replicate (s.size - s.file_size) 0

-- the map with these bytes from an address on
abbrev pub with_bytes : Memory → ℕ → List ℕ → Memory
with_bytes m a [] = m
with_bytes m a (b ∷ bytes) = insert (with_bytes m (a + 1) bytes) a b

-- the bytes of segments, and nothing elsewhere
abbrev pub memory_of : List ℕ → List Segment → Memory
memory_of file [] = empty
memory_of file (s ∷ ss) = with_bytes (memory_of file ss) s.addr (bytes_of file s)
