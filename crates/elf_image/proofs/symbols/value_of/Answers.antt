use Rattle.std.proofs.Common.{◌≡◌, ◌∙◌, ◌+◌, List, drop, get_or, sym, ap, arith}
use Rattle.std.specs.List.{flat_map}
use Rattle.std.proofs.lemmas.Bool.{eqb-true}
use Rattle.std.proofs.lemmas.List.{at_drop_more}
use Rattle.elf_image.specs.declared.symbols.Table.{Table}
use Rattle.elf_image.specs.Symbols.{symbols_in, value_of}
use Rattle.elf_image.proofs.SymbolLemmas.{never_valued, value_earlier, value_later}
use Rattle.elf_image.proofs.symbols.value_of.Goals as goal

abbrev some_table : Table
some_table = record { at = 0; count = 0; names_at = 0; names_size = 0 }

pub returns-then-contains : goal.returns-then-contains
returns-then-contains c =
    let zero = c.if-contains.ensures.cases in
    sym (never_valued c.args.file.now c.args.tables.now c.args.name.now zero.0 (eqb-true _ 0 (zero.2 1)))

pub returns-in-Some : goal.returns-in-Some
returns-in-Some c =
    let file = c.args.file.now in let name = c.args.name.now in let tables = c.args.tables.now in let i = c.loop-table.table-index in
    sym (value_earlier name c.in-Some.value (symbols_in file (get_or tables i some_table)) (flat_map (symbols_in file) (drop (i + 1) tables)) (sym c.in-Some.ensures))
    ∙ sym (at_drop_more (λ (ts : List Table). value_of name (flat_map (symbols_in file) ts)) tables i some_table c.loop-table-test.true)
    ∙ c.loop-table.invariant

pub loop-table-preserved : goal.loop-table-preserved
loop-table-preserved c =
    let file = c.args.file.now in let name = c.args.name.now in let tables = c.args.tables.now in let i = c.loop-table.table-index in
    sym (value_later name (symbols_in file (get_or tables i some_table)) (flat_map (symbols_in file) (drop (i + 1) tables)) (sym c.in_default.ensures))
    ∙ sym (at_drop_more (λ (ts : List Table). value_of name (flat_map (symbols_in file) ts)) tables i some_table c.loop-table-test.true)
    ∙ c.loop-table.invariant
