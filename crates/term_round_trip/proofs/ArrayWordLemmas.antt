-- The words of an array term whose terms are normal spell it.
use Rattle.std.proofs.Common.{ℕ, zero, suc, ◌≤◌, [], ◌∷◌, ◌++◌, sym, subst, arith}
use Rattle.term_tree.specs.Terms.{ArrayTree, array, upd, splice, IsTypedArray, IsArrayTerm, array_height, HIGHEST}
use Rattle.term_tree.specs.Divisions.{ArrayHasNoDivision}
use Rattle.term_print.specs.Words.{Word, opens, closes, name}
use Rattle.term_words.specs.Scopes.{Scope}
use Rattle.term_read.specs.Spelling.{Words, placed, Spells, ArraySpells, an_array, an_update, a_splice}
use Rattle.term_make.specs.Normal.{IsNormalArray}
use Rattle.term_print.specs.TermWords.{term_words, array_words}
use Rattle.term_round_trip.specs.WordLaws.{Follows}
use Rattle.term_round_trip.specs.DeclaredTerms.{IsDeclaredArray}
use Rattle.term_round_trip.proofs.WordLemmas.{splits, closed_by, spells}

some_array_height : (f : ArrayTree) → 1 ≤ array_height f
some_array_height (array f) = omega arith
some_array_height (upd f i b) = omega arith
some_array_height (splice f g i) = omega arith

module _ (scope : Scope) where
  array_spells : (f : ArrayTree) (n : ℕ) (ls r : Words) → IsTypedArray f → array_height f ≤ HIGHEST → IsNormalArray f → ArrayHasNoDivision f → IsDeclaredArray scope f → array_height f ≤ suc n → Follows (array_words f) ls r
      → ArraySpells scope n ls f r
  array_spells (array f) n [] r typed low normal whole declared room h = absurd h
  array_spells (array f) n (l ∷ ls) r typed low normal whole declared room h =
      subst (λ (w : Word). ArraySpells scope n (placed w l.at ∷ ls) (array f) r) (sym h.0) (subst (λ (k : Words). ArraySpells scope n (placed (name f) l.at ∷ ls) (array f) k) h.1 (an_array declared))
  array_spells (upd f i b) n [] r typed low normal whole declared room h = absurd h
  array_spells (upd f i b) n (l ∷ []) r typed low normal whole declared room h = absurd h.1
  array_spells (upd f i b) zero (l ∷ m ∷ ls) r typed low normal whole declared room h = absurd (omega (arith, some_array_height f))
  array_spells (upd f i b) (suc n) (l ∷ m ∷ ls) r typed low normal whole declared room h =
      let s = splits (array_words f) (term_words i ++ (term_words b ++ closes ∷ [])) ls r h.1.1 in
      let t = splits (term_words i) (term_words b ++ closes ∷ []) s.0 r s.2 in
      let u = splits (term_words b) (closes ∷ []) t.0 r t.2 in
      let last = closed_by u.0 r u.2 in
      let of = array_spells f n ls s.0 typed.0 (omega arith) normal.0 whole.0 declared.0 (omega arith) s.1 in
      let at = spells scope i n s.0 t.0 typed.1.1 (omega arith) normal.1 whole.1 declared.1 (omega arith) t.1 in
      let by = subst (λ (k : Words). Spells scope n t.0 b k) last.1 (spells scope b n t.0 u.0 typed.2.1 (omega arith) normal.2 whole.2 declared.2 (omega arith) u.1) in
      subst (λ (w : Word). ArraySpells scope (suc n) (placed w l.at ∷ m ∷ ls) (upd f i b) r) (sym h.0)
      (subst (λ (w : Word). ArraySpells scope (suc n) (placed opens l.at ∷ placed w m.at ∷ ls) (upd f i b) r) (sym h.1.0) (an_update of at by typed.1.0 typed.2.0 low))
  array_spells (splice f g i) n [] r typed low normal whole declared room h = absurd h
  array_spells (splice f g i) n (l ∷ []) r typed low normal whole declared room h = absurd h.1
  array_spells (splice f g i) zero (l ∷ m ∷ ls) r typed low normal whole declared room h = absurd (omega (arith, some_array_height f))
  array_spells (splice f g i) (suc n) (l ∷ m ∷ ls) r typed low normal whole declared room h =
      let s = splits (array_words f) (array_words g ++ (term_words i ++ closes ∷ [])) ls r h.1.1 in
      let t = splits (array_words g) (term_words i ++ closes ∷ []) s.0 r s.2 in
      let u = splits (term_words i) (closes ∷ []) t.0 r t.2 in
      let last = closed_by u.0 r u.2 in
      let of = array_spells f n ls s.0 typed.0 (omega arith) normal.0 whole.0 declared.0 (omega arith) s.1 in
      let below = array_spells g n s.0 t.0 typed.1 (omega arith) normal.1 whole.1 declared.1 (omega arith) t.1 in
      let at = subst (λ (k : Words). Spells scope n t.0 i k) last.1 (spells scope i n t.0 u.0 typed.2.1 (omega arith) normal.2 whole.2 declared.2 (omega arith) u.1) in
      subst (λ (w : Word). ArraySpells scope (suc n) (placed w l.at ∷ m ∷ ls) (splice f g i) r) (sym h.0)
      (subst (λ (w : Word). ArraySpells scope (suc n) (placed opens l.at ∷ placed w m.at ∷ ls) (splice f g i) r) (sym h.1.0) (a_splice of below at typed.2.0 low))

pub array_words_spell : (scope : Scope) (f : ArrayTree) (ls r : Words) → IsArrayTerm f → IsNormalArray f → ArrayHasNoDivision f → IsDeclaredArray scope f → Follows (array_words f) ls r → ArraySpells scope 1024 ls f r
array_words_spell scope f ls r it normal whole declared h = array_spells scope f 1024 ls r it.typed it.low normal whole declared (omega (arith, it.low)) h
