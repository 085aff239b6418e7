use Rattle.std.proofs.Common.{◌≡◌, ◌≢◌, ◌∙◌, ◌+◌, ◌-◌, ℕ, List, length, drop, take, get_or, sym, subst, ap, arith}
use Rattle.std.proofs.lemmas.List.{length-drop, get_or-drop}
use Rattle.std.proofs.lemmas.Bool.{ne_eqb}
use Rattle.std.specs.Prelude.{bytes_eq}
use Rattle.elf_image.proofs.SymbolLemmas.{too_few, goes_on, ends}
use Rattle.elf_image.proofs.symbols.has_name.Goals as goal
use Rattle.elf_image.proofs.symbols.has_name.Goals.{then-start-names-via-then-start-names, then-start-names-via-else-start-names+then-name-names}

pub returns-then-start-names : goal.returns-then-start-names
returns-then-start-names c =
    let names = c.args.names.now in let rest = drop c.args.start names in let len = length-drop c.args.start names in
    sym (too_few c.args.name.now rest (elim c.then-start-names.branch [
      | then-start-names-via-then-start-names w ↦ let h = w.if-start-names.true in omega (arith, len, h)
      | then-start-names-via-else-start-names+then-name-names w ↦ let h = w.if-name-names.true in omega (arith, len, h)
    ]))

pub returns-then-names-end-eq0 : goal.returns-then-names-end-eq0
returns-then-names-end-eq0 c =
    let names = c.args.names.now in let name = c.args.name.now in let start = c.args.start in let rest = drop start names in let len = length-drop start names in
    let same : start + length name - start ≡ length name = omega arith in
    c.eq.ensures ∙ ap (λ (n : ℕ). bytes_eq name (take n rest)) same
    ∙ sym (ends name rest c.requires (omega (arith, len, c.if-name-names.false, c.if-start-names.false)) (get_or-drop start names (length name) 0 ∙ c.if-names-end-eq0.true))

pub returns-else-names-end-eq0 : goal.returns-else-names-end-eq0
returns-else-names-end-eq0 c =
    let names = c.args.names.now in let name = c.args.name.now in let start = c.args.start in let rest = drop start names in let len = length-drop start names in
    ne_eqb _ 0 c.if-names-end-eq0.false
    ∙ sym (goes_on name rest c.requires (omega (arith, len, c.if-name-names.false, c.if-start-names.false)) (λ e. c.if-names-end-eq0.false (sym (get_or-drop start names (length name) 0) ∙ e)))
