use Rattle.std.proofs.Common.{◌≡◌, ◌∙◌, ◌+◌, ◌-◌, ◌++◌, ◌<◌, List, Option, Some, None, sym, ap, arith}
use Rattle.std.specs.List.{filter_map, range_with_len}
use Rattle.elf_image.specs.declared.symbols.Table.{Table}
use Rattle.elf_image.specs.Symbols.{table_of, section_count}
use Rattle.elf_image.proofs.SymbolLemmas.{table_none, table_some}
use Rattle.elf_image.proofs.symbols.read_tables.Goals as goal
use Rattle.elf_image.proofs.symbols.read_tables.Goals.{in-Some+in_ok-push, in_default}

pub loop-number-preserved : goal.loop-number-preserved
loop-number-preserved c =
    let file = c.args.file.now in let i = c.loop-number.number in let xs = c.loop-number.tables.items in
    let left : i < section_count file = omega (arith, c.section_count-number-end.ensures, c.loop-number-test.true) in
    let rest = filter_map (table_of file) (range_with_len (i + 1) (section_count file - (i + 1))) in
    elim c.match-table_of.branch [
      | in-Some+in_ok-push w ↦ ap (λ (ts : List Table). ts ++ rest) (ap (λ v. v.items) w.tables-is ∙ w.in_ok-push.ensures.items) ∙ table_some file xs w.in-Some.table i (section_count file) left (sym w.in-Some.ensures) ∙ c.loop-number.invariant
      | in_default w ↦ ap (λ (ts : List Table). ts ++ rest) (ap (λ v. v.items) w.tables-is) ∙ table_none file xs i (section_count file) left (sym c.table_of.ensures ∙ w.in_default.is) ∙ c.loop-number.invariant
    ]
