use Rattle.std.proofs.Common.{◌≡◌, ◌-◌}
use Rattle.std.specs.List.{filter_map, range_with_len}
use Rattle.elf_image.specs.Symbols.{symbol_at, symbols_in, value_of}
use Rattle.elf_image.proofs.symbols.value_in.Given as goal

-- the symbols that are left give the answer
abbrev pub invariant-loop-i : goal.invariant-loop-i
invariant-loop-i l = value_of l.name (filter_map (symbol_at l.file l.table) (range_with_len l.i (l.table.count - l.i))) ≡ value_of l.name (symbols_in l.file l.table)
