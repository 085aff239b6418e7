-- Lines that are appended one by one.
use Rattle.std.proofs.Common.{◌≡◌, ℕ, suc, ◌+◌, ◌<◌, List, [], ◌∷◌, ◌++◌, length, drop, get_or, sym, ap, ◌∙◌, append_assoc, drop-cons, add-one}
use Rattle.std.specs.Prelude.{codes}
use Rattle.std.specs.Fmt.{decimal}
use Rattle.std.specs.List.{flat_map, concat}
use Rattle.constants_text.specs.Texts.{newline, address_text, block_line, exit_line, spec_line, spec_lines}
use Rattle.lex_core.specs.Classes.{Text}
use Rattle.constants_text.specs.declared.texts.Block.{Block}
use Rattle.constants_text.specs.declared.texts.SpecReport.{SpecReport}

-- one more element's text, before those of the rest
pub one_more : {X : Type 0} (f : X → List ℕ) (xs : List X) (i : ℕ) (x : X) (old new whole : List ℕ) → i < length xs
    → x ≡ get_or xs i x → old ++ flat_map f (drop i xs) ≡ whole → new ≡ old ++ f x → new ++ flat_map f (drop (i + 1) xs) ≡ whole
one_more f xs i x old new whole inside is before grown =
    ap (λ t. t ++ flat_map f (drop (i + 1) xs)) grown ∙ append_assoc old (f x) (flat_map f (drop (i + 1) xs))
    ∙ ap (λ k. old ++ (f x ++ flat_map f (drop k xs))) (add-one i)
    ∙ ap (λ r. old ++ flat_map f r) (sym (drop-cons xs i x inside ∙ ap (λ h. h ∷ drop (suc i) xs) (sym is)))
    ∙ before

-- a block's line from the texts of its parts
pub block_is : (b : Block) (name at instructions certificates : Text) → name ≡ b.name → at ≡ address_text b.address
    → instructions ≡ decimal b.instructions → certificates ≡ decimal b.certificates
    → concat (codes "block " ∷ name ∷ codes " " ∷ at ∷ codes " instructions " ∷ instructions ∷ codes " certificates " ∷ certificates ∷ newline ∷ []) ≡ block_line b
unfolding block_line
block_is b name at instructions certificates n a i c =
    ap (λ t. concat (codes "block " ∷ t ∷ codes " " ∷ at ∷ codes " instructions " ∷ instructions ∷ codes " certificates " ∷ certificates ∷ newline ∷ [])) n
    ∙ ap (λ t. concat (codes "block " ∷ b.name ∷ codes " " ∷ t ∷ codes " instructions " ∷ instructions ∷ codes " certificates " ∷ certificates ∷ newline ∷ [])) a
    ∙ ap (λ t. concat (codes "block " ∷ b.name ∷ codes " " ∷ address_text b.address ∷ codes " instructions " ∷ t ∷ codes " certificates " ∷ certificates ∷ newline ∷ [])) i
    ∙ ap (λ t. concat (codes "block " ∷ b.name ∷ codes " " ∷ address_text b.address ∷ codes " instructions " ∷ decimal b.instructions ∷ codes " certificates " ∷ t ∷ newline ∷ [])) c

-- three texts that are appended in turn
pub three_more : (old a b c p q r : Text) → a ≡ old ++ p → b ≡ a ++ q → c ≡ b ++ r → c ≡ old ++ (p ++ (q ++ r))
three_more old a b c p q r first second third =
    third ∙ ap (λ t. t ++ r) (second ∙ ap (λ t. t ++ q) first ∙ append_assoc old p q)
    ∙ append_assoc old (p ++ q) r ∙ ap (λ t. old ++ t) (append_assoc p q r)

-- a specification's lines from its name, its exits and its blocks
pub spec_is : (s : SpecReport) (old a b c name : Text) → name ≡ s.name → a ≡ old ++ concat (codes "spec " ∷ name ∷ codes " no sample\n" ∷ [])
    → b ≡ a ++ flat_map exit_line s.exits → c ≡ b ++ flat_map block_line s.blocks → c ≡ old ++ spec_lines s
unfolding spec_lines spec_line
spec_is s old a b c name is first second third =
    three_more old a b c _ _ _ (first ∙ ap (λ n. old ++ concat (codes "spec " ∷ n ∷ codes " no sample\n" ∷ [])) is) second third
