use Rattle.std.proofs.Common.{◌≡◌, ◌∙◌, ◌+◌, ◌-◌, ◌*◌, ◌<◌, ℕ, false, sym, ap, arith, take, drop}
use Rattle.std.proofs.lemmas.Bool.{cond-true, cond-false}
use Rattle.elf_image.specs.Symbols.{names_of, is_name, name_in}
use Rattle.elf_image.proofs.SymbolLemmas.{value_more, name_bytes}
use Rattle.elf_image.proofs.symbols.value_in.Goals as goal

pub loop-i-preserved : goal.loop-i-preserved
loop-i-preserved c =
    let file = c.args.file.now in let t = c.args.table.now in let name = c.args.name.now in let i = c.loop-i.i in
    let same : t.names_at + t.names_size - t.names_at ≡ t.names_size = omega arith in
    let off : is_name name (name_in (name_bytes file t i)) ≡ false =
    ap (λ (k : ℕ). is_name name (name_in (drop k (names_of file t)))) (sym c.st_name.ensures)
    ∙ ap (λ (k : ℕ). is_name name (name_in (drop c.st_name.result (take k (drop t.names_at file))))) (sym same)
    ∙ sym c.has_name.ensures ∙ c.if-has_name.false in
    sym (value_more file t name i t.count (omega (arith, c.loop-i-test.true)) ∙ cond-false _ _ _ off) ∙ c.loop-i.invariant
