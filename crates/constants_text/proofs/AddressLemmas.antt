-- What the padded hex form writes.
use Rattle.std.proofs.Common.{◌≡◌, ℕ, ◌-◌, ◌^◌, false, List, [], ◌++◌, length, Some, ap, ◌∙◌, subst, arith}
use Rattle.std.specs.Prelude.{codes, replicate, IfSome, Option}
use Rattle.std.specs.Fmt.{digits, padded_integral, format_spec, option_append, char_count}
use Rattle.constants_text.specs.Texts.{address_text}

padded : (numeral : List ℕ) → padded_integral (format_spec 32 0 4 16 (2 ^ 64 - 1)) false [] numeral ≡ replicate (16 - length numeral) 48 ++ (numeral ++ [])
unfolding padded_integral char_count
padded numeral = ap (λ k. replicate k 48 ++ (numeral ++ [])) (omega arith)

-- `0x` and the padded digits are the address
pub address_is : (a : ℕ) (shown : Option (List ℕ)) (text : List ℕ)
    → shown ≡ Some (padded_integral (format_spec 32 0 4 16 (2 ^ 64 - 1)) false [] (digits 16 false a))
    → IfSome (option_append (Some (codes "0x")) shown) (λ bs. text ≡ bs) → text ≡ address_text a
unfolding address_text
address_is a shown text is told =
    subst (λ (o : Option (List ℕ)). IfSome (option_append (Some (codes "0x")) o) (λ bs. text ≡ bs)) is told
    ∙ ap (λ t. codes "0x" ++ t) (padded (digits 16 false a))
