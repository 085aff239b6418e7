-- The fields of an ELF-64 file that are read, each with its place and its bytes, as the ELF-64 object file format gives them.
use Rattle.std.specs.Prelude.{ℕ, ◌+◌, List, drop, length, Bool, nat_le, bytes_eq, take, [], ◌∷◌}
use Rattle.byteorder.specs.Endian.{little_number}

-- the little-endian number in the n bytes from a place on
unfoldable pub number_in : List ℕ → ℕ → ℕ → ℕ
number_in file at n = little_number n (drop at file)

-- the n bytes from a place on lie in the file
abbrev pub is_within : List ℕ → ℕ → ℕ → Bool
is_within file at n = nat_le (at + n) (length file)

-- the file begins with the ELF magic, 7f 45 4c 46
abbrev pub has_magic : List ℕ → Bool
has_magic file = bytes_eq (take 4 file) (127 ∷ 69 ∷ 76 ∷ 70 ∷ [])

-- ---- the ELF header

-- e_type: what the file is for; 2 is an executable, 3 a shared object
abbrev pub e_type : List ℕ → ℕ
e_type file = number_in file 16 2

-- e_machine: the processor; 243 is RISC-V
abbrev pub e_machine : List ℕ → ℕ
e_machine file = number_in file 18 2

-- e_phoff: where the program headers begin
abbrev pub e_phoff : List ℕ → ℕ
e_phoff file = number_in file 32 8

-- e_shoff: where the section headers begin
abbrev pub e_shoff : List ℕ → ℕ
e_shoff file = number_in file 40 8

-- e_phentsize: the bytes of a program header
abbrev pub e_phentsize : List ℕ → ℕ
e_phentsize file = number_in file 54 2

-- e_phnum: how many program headers there are
abbrev pub e_phnum : List ℕ → ℕ
e_phnum file = number_in file 56 2

-- e_shentsize: the bytes of a section header
abbrev pub e_shentsize : List ℕ → ℕ
e_shentsize file = number_in file 58 2

-- e_shnum: how many section headers there are
abbrev pub e_shnum : List ℕ → ℕ
e_shnum file = number_in file 60 2

-- ---- the program header at a place

-- p_type: what it describes; 1 is PT_LOAD, a segment that is loaded
abbrev pub p_type : List ℕ → ℕ → ℕ
p_type file at = number_in file at 4

-- p_offset: where the segment's bytes begin in the file
abbrev pub p_offset : List ℕ → ℕ → ℕ
p_offset file at = number_in file (at + 8) 8

-- p_vaddr: the segment's first address
abbrev pub p_vaddr : List ℕ → ℕ → ℕ
p_vaddr file at = number_in file (at + 16) 8

-- p_filesz: how many bytes of the segment stand in the file
abbrev pub p_filesz : List ℕ → ℕ → ℕ
p_filesz file at = number_in file (at + 32) 8

-- p_memsz: how many bytes the segment has
abbrev pub p_memsz : List ℕ → ℕ → ℕ
p_memsz file at = number_in file (at + 40) 8

-- ---- the section header at a place

-- sh_type: what it describes; 2 is SHT_SYMTAB, a symbol table
abbrev pub sh_type : List ℕ → ℕ → ℕ
sh_type file at = number_in file (at + 4) 4

-- sh_offset: where the section's bytes begin in the file
abbrev pub sh_offset : List ℕ → ℕ → ℕ
sh_offset file at = number_in file (at + 24) 8

-- sh_size: how many bytes the section has
abbrev pub sh_size : List ℕ → ℕ → ℕ
sh_size file at = number_in file (at + 32) 8

-- sh_link: of a symbol table, the number of the section header of its names
abbrev pub sh_link : List ℕ → ℕ → ℕ
sh_link file at = number_in file (at + 40) 4

-- sh_entsize: of a symbol table, the bytes of a symbol
abbrev pub sh_entsize : List ℕ → ℕ → ℕ
sh_entsize file at = number_in file (at + 56) 8

-- ---- the symbol at a place

-- st_name: where its name begins in the section of the names
abbrev pub st_name : List ℕ → ℕ → ℕ
st_name file at = number_in file at 4

-- st_value: its value
abbrev pub st_value : List ℕ → ℕ → ℕ
st_value file at = number_in file (at + 8) 8
