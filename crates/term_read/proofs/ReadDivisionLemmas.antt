-- What is read holds no division.
use Rattle.std.proofs.Common.{◌≡◌, ℕ, Bool, true, false, cond, List, [], ◌∷◌, drop, Option, Some, Ok, refl, subst}
use Rattle.std.specs.Prelude.{⊤, bytes_eq}
use Rattle.bv_bits.specs.declared.Op.{Op}
use Rattle.lex_core.specs.declared.token.Token.{Token}
use Rattle.term_tree.specs.Terms.{Text, Tree, ArrayTree, array, applied}
use Rattle.term_make.specs.Making.{plain, make}
use Rattle.term_select.specs.Selecting.{select}
use Rattle.term_tree.specs.Divisions.{is_division, HasNoDivision, ArrayHasNoDivision}
use Rattle.term_print.specs.Words.{lexemes}
use Rattle.term_words.specs.Scopes.{Scope}
use Rattle.term_words.specs.Operators.{operators, operator_in, operator_of}
use Rattle.term_read.specs.Reading.{term_from, array_from}
use Rattle.term_read.specs.Spelling as spelling
use Rattle.term_read.specs.Spelling.{Words, Heads, Spells, extracting, zero_extending, sign_extending}
use Rattle.term_make.proofs.StepLemmas.{is_made}
use Rattle.term_make.proofs.AnswerLemmas.{within_is}
use Rattle.term_read.proofs.SpelledPartLemmas.{OfTerms, any_words, IsSpelledSo, ArrayIsSpelledSo, spelled_so, array_spelled_so}
use Rattle.term_read.proofs.SoundLemmas.{read_is_spelled}
use Rattle.term_read.proofs.ArraySoundLemmas.{read_array_is_spelled}
use Rattle.term_make.proofs.DivisionLemmas.{made_whole, no_op, same_op_whole}

-- ---- operators that have a word

abbrev AreWhole : List (Text × Op) → Type 0
AreWhole [] = Unit {0}
AreWhole (p ∷ ps) = (is_division p.1 ≡ false) × AreWhole ps

found_here : (b : Bool) (p op : Op) (o : Option Op) → is_division p ≡ false → (o ≡ Some op → is_division op ≡ false) → cond b (Some p) o ≡ Some op → is_division op ≡ false
found_here true p op o h later e = same_op_whole p op e h
found_here false p op o h later e = later e

found_whole : (ps : List (Text × Op)) (x : Text) (op : Op) → AreWhole ps → operator_in ps x ≡ Some op → is_division op ≡ false
found_whole [] x op h e = absurd (no_op op e)
found_whole (p ∷ ps) x op h e = found_here (bytes_eq x p.0) p.1 op (operator_in ps x) h.0 (found_whole ps x op h.1) e

operator_whole : (x : Text) (op : Op) → operator_of x ≡ Some op → is_division op ≡ false
unfolding operator_of
operator_whole x op e = found_whole operators x op (refl, (refl, (refl, (refl, (refl, (refl, (refl, (refl, (refl, (refl, (refl, (refl, (refl, (refl, (refl, (refl, (refl, (refl, (refl, (refl, (refl, (refl, (refl, (refl, tt)))))))))))))))))))))))) e

head_whole : (op : Op) (ws r : Words) → Heads op ws r → is_division op ≡ false
head_whole op ws r (spelling.plain {x = x} e) = operator_whole x op e
head_whole op ws r extracting = refl
head_whole op ws r zero_extending = refl
head_whole op ws r sign_extending = refl

-- ---- what is spelled

applied_whole : (op : Op) (ts : List Tree) → is_division op ≡ false → OfTerms HasNoDivision ts → HasNoDivision (applied op ts)
applied_whole op [] e h = tt
applied_whole op (a ∷ []) e h = (e, h.0)
applied_whole op (a ∷ b ∷ []) e h = (e, h.0, h.1.0)
applied_whole op (a ∷ b ∷ c ∷ []) e h = (e, h.0, h.1.0, h.1.1.0)
applied_whole op (a ∷ b ∷ c ∷ d ∷ ts) e h = tt

module _ (scope : Scope) where
  whole_spelled : IsSpelledSo scope (λ w. ⊤) HasNoDivision
  whole_spelled = record {
    of_literal = λ b h. tt;
    of_variable = λ x w h e. tt;
    of_application = λ op ws r ts t heads h fits made. subst HasNoDivision (within_is (make (applied op ts)) t made).1 (made_whole (is_made (applied op ts)) (applied_whole op ts (head_whole op ws r heads) h));
    of_selection = λ f i t h e inner wide made. subst HasNoDivision (within_is (select (array f) i) t made).1 inner;
  }

  whole_array_spelled : ArrayIsSpelledSo scope (λ w. ⊤) HasNoDivision ArrayHasNoDivision
  whole_array_spelled = record {
    of_array = λ f h e. tt;
    of_update = λ f i e h k l wide byte low. (h, k, l);
    of_splice = λ f g i h k l wide low. (h, k, l);
  }

-- what is spelled has no division
pub spelled_whole : (scope : Scope) (n : ℕ) (ws r : Words) (t : Tree) → Spells scope n ws t r → HasNoDivision t
spelled_whole scope n ws r t s = (spelled_so scope (λ w. ⊤) HasNoDivision (whole_spelled scope) n ws r t s (any_words ws)).0

-- ---- what is read

pub read_whole : (text : Text) (ts : List Token) (from next : ℕ) (scope : Scope) (t : Tree) → term_from text ts from scope ≡ Ok (t, next) → HasNoDivision t
read_whole text ts from next scope t e = spelled_whole scope 1024 (drop from (lexemes text ts)) (drop next (lexemes text ts)) t (read_is_spelled text ts from next scope t e)

pub array_read_whole : (text : Text) (ts : List Token) (from next : ℕ) (scope : Scope) (f : ArrayTree) → array_from text ts from scope ≡ Ok (f, next) → ArrayHasNoDivision f
array_read_whole text ts from next scope f e =
    (array_spelled_so scope (λ w. ⊤) HasNoDivision (whole_spelled scope) ArrayHasNoDivision (whole_array_spelled scope) 1024 (drop from (lexemes text ts)) (drop next (lexemes text ts)) f (read_array_is_spelled text ts from next scope f e) (any_words (drop from (lexemes text ts)))).0
