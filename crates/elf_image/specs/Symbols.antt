-- The symbols of an ELF file: pairs of a name and a value.
use Rattle.std.specs.Prelude.{ℕ, ◌+◌, ◌*◌, ◌/◌, Bool, false, ◌&&◌, ◌==◌, if◌then◌else◌, nat_le, nat_lt, List, [], ◌∷◌, length, take, drop, Option, Some, None, option_map, option_and_then, bytes_eq}
use Rattle.std.specs.List.{range_with_len, filter_map, flat_map}
use Rattle.elf_image.specs.declared.symbols.Table.{Table}
use Rattle.elf_image.specs.Fields.{is_within, e_shoff, e_shentsize, e_shnum, sh_type, sh_offset, sh_size, sh_link, sh_entsize, st_name, st_value}

-- a name and a value
abbrev pub Symbol : Type 0
Symbol = List ℕ × ℕ

-- the bytes up to the first zero; none where there is no zero
abbrev pub name_in : List ℕ → Option (List ℕ)
name_in [] = None
name_in (b ∷ bytes) = if b == 0 then Some [] else option_map (λ name. b ∷ name) (name_in bytes)

-- the bytes of the section that has a table's names
abbrev pub names_of : List ℕ → Table → List ℕ
names_of file t = take t.names_size (drop t.names_at file)

-- symbol number i of a table; none where its name starts past the section or doesn't end
abbrev pub symbol_at : List ℕ → Table → ℕ → Option Symbol
symbol_at file t i = option_map (λ name. (name, st_value file (t.at + 24 * i))) (name_in (drop (st_name file (t.at + 24 * i)) (names_of file t)))

-- the symbols of a table
abbrev pub symbols_in : List ℕ → Table → List Symbol
symbols_in file t = filter_map (symbol_at file t) (range_with_len 0 t.count)

-- ---- the symbol tables

-- where section header number k stands; none where it isn't wholly in the file
abbrev pub section_at : List ℕ → ℕ → Option ℕ
section_at file k = if is_within file (e_shoff file) (64 * k + 64) then Some (e_shoff file + 64 * k) else None

-- the bytes of the section whose header stands there lie in the file
abbrev pub has_bytes : List ℕ → ℕ → Bool
has_bytes file at = is_within file (sh_offset file at) (sh_size file at)

-- the section header at a place is that of a symbol table with symbols of 24 bytes and with a section for the names
abbrev pub is_symbol_table : List ℕ → ℕ → Bool
is_symbol_table file at = (sh_type file at == 2) && (sh_entsize file at == 24) && nat_lt (sh_link file at) (e_shnum file)

-- the symbol table by the places of its header and of that of the section of its names; none where bytes of either pass the file's end
abbrev pub table_by : List ℕ → ℕ → ℕ → Option Table
table_by file at names =
    if has_bytes file at && has_bytes file names
    then Some (record {
      at = sh_offset file at;
      count = sh_size file at / 24;
      names_at = sh_offset file names;
      names_size = sh_size file names;
    }) else None

-- the symbol table whose header stands there
abbrev pub table_at : List ℕ → ℕ → Option Table
table_at file at = if is_symbol_table file at then option_and_then (table_by file at) (section_at file (sh_link file at)) else None

-- the symbol table of section header number k
abbrev pub table_of : List ℕ → ℕ → Option Table
table_of file k = option_and_then (table_at file) (section_at file k)

-- how many section headers there are; none count where they haven't 64 bytes
abbrev pub section_count : List ℕ → ℕ
section_count file = if e_shentsize file == 64 then e_shnum file else 0

-- the symbol tables, in the order of their headers
abbrev pub tables_of : List ℕ → List Table
tables_of file = filter_map (table_of file) (range_with_len 0 (section_count file))

-- all symbols, table by table
abbrev pub symbols_of : List ℕ → List Symbol
symbols_of file = flat_map (symbols_in file) (tables_of file)

-- the value of the first pair with that name
abbrev pub value_of : List ℕ → List Symbol → Option ℕ
value_of name [] = None
value_of name (s ∷ ss) = if bytes_eq name s.0 then Some s.1 else value_of name ss

-- what was found is this name
abbrev pub is_name : List ℕ → Option (List ℕ) → Bool
is_name name None = false
is_name name (Some found) = bytes_eq name found
