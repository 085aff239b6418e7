-- What holds of spelled literals and variables, and of an application where it holds of its arguments, holds of each
-- term that is spelled; and the same of array terms.
use Rattle.std.proofs.Common.{◌≡◌, ℕ, suc, ◌≤◌, List, [], ◌∷◌, map, Some, IsSome}
use Rattle.std.specs.Prelude.{⊤}
use Rattle.bv_bits.specs.declared.Bits.{Bits}
use Rattle.bv_bits.specs.declared.Op.{Op}
use Rattle.bv_bits.specs.Bits.{result_width_of}
use Rattle.term_tree.specs.declared.term.Sort.TheVariants as sort
use Rattle.term_tree.specs.Terms.{Text, Tree, lit, var, ArrayTree, array, upd, splice, applied, width_of, array_height, HIGHEST}
use Rattle.term_make.specs.Making.{make, within_height}
use Rattle.term_select.specs.Selecting.{select}
use Rattle.term_print.specs.Words.{Word, name, literal}
use Rattle.term_words.specs.Scopes.{Scope, sort_of}
use Rattle.term_read.specs.Spelling as spelling
use Rattle.term_read.specs.Spelling.{Words, Heads, extracting, zero_extending, sign_extending, Spells, a_literal, a_variable, an_application, a_selection, Arguments, no_more, one_more, ArraySpells, an_array, an_update, a_splice}

-- it holds of each of these words
abbrev pub OfWords : (Word → Type 0) → Words → Type 0
OfWords W [] = ⊤
OfWords W (l ∷ ls) = W l.word × OfWords W ls

-- it holds of each of these terms
abbrev pub OfTerms : (Tree → Type 0) → List Tree → Type 0
OfTerms P [] = ⊤
OfTerms P (t ∷ ts) = P t × OfTerms P ts

pub any_words : (ws : Words) → OfWords (λ w. ⊤) ws
any_words [] = tt
any_words (l ∷ ls) = (tt, any_words ls)

-- a property of terms that comes from one of words
pub record IsSpelledSo (scope : Scope) (W : Word → Type 0) (P : Tree → Type 0) : Type 0 where
  pub of_literal : (b : Bits) → W (literal b) → P (lit b)
  pub of_variable : (x : Text) (w : ℕ) → W (name x) → sort_of scope x ≡ Some (sort.Bits w) → P (var x w)
  pub of_application : (op : Op) (ws r : Words) (ts : List Tree) (t : Tree) → Heads op ws r → OfTerms P ts → IsSome (result_width_of op (map width_of ts)) → within_height (make (applied op ts)) ≡ Some t → P t
  pub of_selection : (f : Text) (i t : Tree) → W (name f) → sort_of scope f ≡ Some sort.Array → P i → width_of i ≡ 64 → within_height (select (array f) i) ≡ Some t → P t

-- a property of array terms that comes from one of words and one of terms
pub record ArrayIsSpelledSo (scope : Scope) (W : Word → Type 0) (P : Tree → Type 0) (Q : ArrayTree → Type 0) : Type 0 where
  pub of_array : (f : Text) → W (name f) → sort_of scope f ≡ Some sort.Array → Q (array f)
  pub of_update : (f : ArrayTree) (i e : Tree) → Q f → P i → P e → width_of i ≡ 64 → width_of e ≡ 8 → array_height (upd f i e) ≤ HIGHEST → Q (upd f i e)
  pub of_splice : (f g : ArrayTree) (i : Tree) → Q f → Q g → P i → width_of i ≡ 64 → array_height (splice f g i) ≤ HIGHEST → Q (splice f g i)

module _ (scope : Scope) (W : Word → Type 0) (P : Tree → Type 0) (so : IsSpelledSo scope W P) where
  behind_head : (op : Op) (ws r : Words) → Heads op ws r → OfWords W ws → OfWords W r
  behind_head op ws r (spelling.plain e) h = h.1
  behind_head op ws r extracting h = h.1.1.1
  behind_head op ws r zero_extending h = h.1.1
  behind_head op ws r sign_extending h = h.1.1

  mutual
    -- it holds of the term, and of the words behind it
    pub spelled_so : (n : ℕ) (ws r : Words) (t : Tree) → Spells scope n ws t r → OfWords W ws → P t × OfWords W r
    spelled_so n ws r t (a_literal {b = b}) h = (so.of_literal b h.0, h.1)
    spelled_so n ws r t (a_variable {w = w} {x = x} e) h = (so.of_variable x w h.0 e, h.1)
    spelled_so (suc n) ws r t (an_application {op = op} {ws = hs} {ws' = bs} {ts = ts} heads args fits made) h =
        let inside = arguments_so n _ bs ts _ args (behind_head op hs bs heads h.1) in
        (so.of_application op hs bs ts t heads inside.0 fits made, inside.1.1)
    spelled_so (suc n) ws r t (a_selection {f = f} {ws = bs} {i = i} e inner fits made) h =
        let inside = spelled_so n bs _ i inner h.1.1.1 in
        (so.of_selection f i t h.1.1.0 e inside.0 fits made, inside.1.1)

    arguments_so : (n c : ℕ) (ws : Words) (ts : List Tree) (r : Words) → Arguments scope n c ws ts r → OfWords W ws → OfTerms P ts × OfWords W r
    arguments_so n c ws ts r no_more h = (tt, h)
    arguments_so n (suc c) ws ts r (one_more {r = q} {t = t} {ts = us} first more) h =
        let one = spelled_so n ws q t first h in
        let others = arguments_so n c q us r more one.1 in
        ((one.0, others.0), others.1)

  module _ (Q : ArrayTree → Type 0) (array_so : ArrayIsSpelledSo scope W P Q) where
    -- it holds of the array term, and of the words behind it
    pub array_spelled_so : (n : ℕ) (ws r : Words) (f : ArrayTree) → ArraySpells scope n ws f r → OfWords W ws → Q f × OfWords W r
    array_spelled_so n ws r f (an_array {f = x} e) h = (array_so.of_array x h.0 e, h.1)
    array_spelled_so (suc n) ws r f (an_update {f = of} {i = i} {b = b} inner at by wide byte low) h =
        let first = array_spelled_so n _ _ of inner h.1.1 in
        let second = spelled_so n _ _ i at first.1 in
        let third = spelled_so n _ _ b by second.1 in
        (array_so.of_update of i b first.0 second.0 third.0 wide byte low, third.1.1)
    array_spelled_so (suc n) ws r f (a_splice {f = of} {g = g} {i = i} inner below at wide low) h =
        let first = array_spelled_so n _ _ of inner h.1.1 in
        let second = array_spelled_so n _ _ g below first.1 in
        let third = spelled_so n _ _ i at second.1 in
        (array_so.of_splice of g i first.0 second.0 third.0 wide low, third.1.1)
