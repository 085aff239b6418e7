use Rattle.std.proofs.Common.{◌≡◌, ◌++◌, ◌-◌, ◌+◌}
use Rattle.std.specs.List.{filter_map, range_with_len}
use Rattle.elf_image.specs.Symbols.{section_count, table_of, tables_of}
use Rattle.elf_image.proofs.symbols.read_tables.Given as goal

-- the tables so far, and those of the headers that are left
abbrev pub invariant-loop-number : goal.invariant-loop-number
invariant-loop-number l = l.tables.items ++ filter_map (table_of l.file) (range_with_len l.number (section_count l.file - l.number)) ≡ tables_of l.file
