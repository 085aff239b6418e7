use Rattle.std.proofs.Common.{◌≡◌, ◌≢◌, drop}
use Rattle.std.specs.Prelude.{All}
use Rattle.std.specs.List.{flat_map}
use Rattle.elf_image.specs.Symbols.{symbols_in, value_of}
use Rattle.elf_image.proofs.symbols.value_of.Given as goal

-- the tables that are left give the answer
abbrev pub invariant-loop-table : goal.invariant-loop-table
invariant-loop-table l = value_of l.name (flat_map (symbols_in l.file) (drop l.table-index l.tables)) ≡ value_of l.name (flat_map (symbols_in l.file) l.tables)
