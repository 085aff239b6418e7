-- The words, one by one, and the names among them.
use Rattle.std.proofs.Common.{◌≡◌, ℕ, suc, ◌+◌, ◌<◌, List, [], ◌∷◌, length, drop, get_or, refl, sym, ap, ◌∙◌, subst, arith, drop-cons, add-one, Bool, true, false, Some, None, Contains, unwrap_or}
use Rattle.std.specs.Prelude.{codes, if◌then◌else◌, ◌||◌, String}
use Rattle.std.specs.Str.{bytes_eq}
use Rattle.std.specs.List.{list_any}
use Rattle.std.specs.String.{string_bytes}
use Rattle.std.specs.declared.alloc.Global.{Global}
use Rattle.std.specs.declared.option.Option.{Option}
use Rattle.lex_core.specs.Classes.{Text}
use Rattle.report_text.specs.Names.{Row}
use Rattle.command_words.specs.Words.{is_dashed, words_of, names_behind, row_of}

-- a word without `-` is passed over
pub one_passed : (words : List (String Global)) (i : ℕ) (w : String Global) → i < length words → w ≡ get_or words i w
    → is_dashed (string_bytes w) ≡ false
    → list_any is_dashed (words_of (drop (i + 1) words)) ≡ list_any is_dashed (words_of (drop i words))
one_passed words i w inside is test =
    ap (λ k. list_any is_dashed (words_of (drop k words))) (add-one i)
    ∙ ap (λ b. b || list_any is_dashed (words_of (drop (suc i) words))) (sym test)
    ∙ sym (ap (λ ws. list_any is_dashed (words_of ws)) (drop-cons words i w inside ∙ ap (λ h. h ∷ drop (suc i) words) (sym is)))

-- the names of a row are among its words
pub record HasNames (words : List Text) (row : Row) : Type 0 where
  pub sail : Contains words row.sail
  pub image : Contains words row.image
  pub proof : Contains words row.proof

names_there : (command sail image proof : Text) (row : Row) (b : Bool)
    → (if b then Some (record { sail = sail; image = image; proof = proof }) else None) ≡ Some row → HasNames (command ∷ sail ∷ image ∷ proof ∷ []) row
names_there command sail image proof row true is =
    subst (λ (r : Row). HasNames (command ∷ sail ∷ image ∷ proof ∷ []) r) (ap (λ o. unwrap_or o row) is)
    (record { sail = (1, omega arith, refl); image = (2, omega arith, refl); proof = (3, omega arith, refl) })
names_there command sail image proof row false is = absurd (cc)

behind : (words : List Text) (row : Row) → names_behind words ≡ Some row → HasNames words row
behind [] row is = absurd (cc)
behind (a ∷ []) row is = absurd (cc)
behind (a ∷ b ∷ []) row is = absurd (cc)
behind (a ∷ b ∷ c ∷ []) row is = absurd (cc)
behind (a ∷ b ∷ c ∷ d ∷ []) row is = names_there a b c d row (bytes_eq a (codes "check")) is
behind (a ∷ b ∷ c ∷ d ∷ e ∷ words) row is = absurd (cc)

unless : (b : Bool) (o : Option Row) (row : Row) → (if b then None else o) ≡ Some row → o ≡ Some row
unless true o row is = absurd (cc)
unless false o row is = is

pub names_of : (words : List Text) (row : Row) → row_of words ≡ Some row → HasNames words row
names_of words row is = behind words row (unless (list_any is_dashed words) (names_behind words) row is)
