-- The words of a normal term spell it.
use Rattle.std.proofs.Common.{◌≡◌, ℕ, zero, suc, ◌≤◌, false, List, [], ◌∷◌, ◌++◌, map, Some, refl, sym, ap, subst, ◌∙◌, arith}
use Rattle.std.specs.Prelude.{codes, IsSome}
use Rattle.std.proofs.lemmas.Bool.{false≢true}
use Rattle.bv_bits.specs.declared.Op.{Op}
use Rattle.bv_bits.specs.declared.Op.TheVariants.{Not, Neg, UDiv, URem, SDiv, SRem, Extract, ZExt, SExt, Ite}
use Rattle.bv_bits.specs.Bits.{result_width_of}
use Rattle.term_tree.specs.Terms.{Tree, lit, var, one, two, three, sel, applied, IsTyped, IsTerm, width_of, height, HIGHEST}
use Rattle.term_make.specs.Making.{make, within_height}
use Rattle.term_print.specs.Printing.{op_word, op_numbers}
use Rattle.term_tree.specs.Divisions.{is_division, HasNoDivision}
use Rattle.term_print.specs.Words.{Word, opens, closes, name, number, literal, Lexeme}
use Rattle.term_words.specs.Operators.{arity, operator_of}
use Rattle.term_words.specs.Scopes.{Scope}
use Rattle.term_read.specs.Spelling.{Words, placed, Heads, plain, extracting, zero_extending, sign_extending, Spells, a_literal, a_variable, an_application, a_selection, Arguments, no_more, one_more}
use Rattle.term_make.specs.Normal.{IsNormal, normal_one, normal_two, normal_three, normal_selection}
use Rattle.term_print.specs.TermWords.{head_words, term_words}
use Rattle.term_round_trip.specs.WordLaws.{Follows}
use Rattle.term_round_trip.specs.DeclaredTerms.{IsDeclared}
use Rattle.term_make.proofs.NormalLemmas.{normal_made}
use Rattle.term_read.proofs.ReadingLemmas.{selection_low}

-- words in a row are followed part by part
pub splits : (ws vs : List Word) (ls r : Words) → Follows (ws ++ vs) ls r → (q : Words) × Follows ws ls q × Follows vs q r
splits [] vs ls r f = (ls, refl, f)
splits (w ∷ ws) vs [] r f = absurd f
splits (w ∷ ws) vs (l ∷ ls) r f = let s = splits ws vs ls r f.1 in (s.0, (f.0, s.1), s.2)

-- one word
pub closed_by : (q r : Words) → Follows (closes ∷ []) q r → (p : ℕ) × (q ≡ placed closes p ∷ r)
closed_by [] r f = absurd f
closed_by (l ∷ ls) r f = (l.at, ap (λ (w : Word). placed w l.at ∷ ls) f.0 ∙ ap (λ (k : Words). placed closes l.at ∷ k) f.1)

plain_word : (op : Op) → op_numbers op ≡ [] → is_division op ≡ false → operator_of (op_word op) ≡ Some op
unfolding operator_of
plain_word UDiv n h = absurd (false≢true (sym h))
plain_word URem n h = absurd (false≢true (sym h))
plain_word SDiv n h = absurd (false≢true (sym h))
plain_word SRem n h = absurd (false≢true (sym h))
plain_word (Extract hi lo) n h = absurd (let e : hi ∷ lo ∷ [] ≡ [] = n in cc)
plain_word (ZExt to) n h = absurd (let e : to ∷ [] ≡ [] = n in cc)
plain_word (SExt to) n h = absurd (let e : to ∷ [] ≡ [] = n in cc)
plain_word op n h = refl

plain_heads : (op : Op) (ls q : Words) → op_numbers op ≡ [] → is_division op ≡ false → Follows (name (op_word op) ∷ []) ls q → Heads op ls q
plain_heads op [] q n h f = absurd f
plain_heads op (l ∷ ls) q n h f =
    subst (λ (w : Word). Heads op (placed w l.at ∷ ls) q) (sym f.0) (subst (λ (k : Words). Heads op (placed (name (op_word op)) l.at ∷ ls) k) f.1 (plain (plain_word op n h)))

heads : (op : Op) (ls q : Words) → is_division op ≡ false → Follows (head_words op) ls q → Heads op ls q
heads (Extract hi lo) [] q h f = absurd f
heads (Extract hi lo) (l ∷ []) q h f = absurd f.1
heads (Extract hi lo) (l ∷ m ∷ []) q h f = absurd f.1.1
heads (Extract hi lo) (l ∷ m ∷ n ∷ ls) q h f =
    subst (λ (w : Word). Heads (Extract hi lo) (placed w l.at ∷ m ∷ n ∷ ls) q) (sym f.0)
    (subst (λ (w : Word). Heads (Extract hi lo) (placed (name (codes "extract")) l.at ∷ placed w m.at ∷ n ∷ ls) q) (sym f.1.0)
    (subst (λ (w : Word). Heads (Extract hi lo) (placed (name (codes "extract")) l.at ∷ placed (number hi) m.at ∷ placed w n.at ∷ ls) q) (sym f.1.1.0)
    (subst (λ (k : Words). Heads (Extract hi lo) (placed (name (codes "extract")) l.at ∷ placed (number hi) m.at ∷ placed (number lo) n.at ∷ ls) k) f.1.1.1 extracting)))
heads (ZExt to) [] q h f = absurd f
heads (ZExt to) (l ∷ []) q h f = absurd f.1
heads (ZExt to) (l ∷ m ∷ ls) q h f =
    subst (λ (w : Word). Heads (ZExt to) (placed w l.at ∷ m ∷ ls) q) (sym f.0)
    (subst (λ (w : Word). Heads (ZExt to) (placed (name (codes "zext")) l.at ∷ placed w m.at ∷ ls) q) (sym f.1.0)
    (subst (λ (k : Words). Heads (ZExt to) (placed (name (codes "zext")) l.at ∷ placed (number to) m.at ∷ ls) k) f.1.1 zero_extending))
heads (SExt to) [] q h f = absurd f
heads (SExt to) (l ∷ []) q h f = absurd f.1
heads (SExt to) (l ∷ m ∷ ls) q h f =
    subst (λ (w : Word). Heads (SExt to) (placed w l.at ∷ m ∷ ls) q) (sym f.0)
    (subst (λ (w : Word). Heads (SExt to) (placed (name (codes "sext")) l.at ∷ placed w m.at ∷ ls) q) (sym f.1.0)
    (subst (λ (k : Words). Heads (SExt to) (placed (name (codes "sext")) l.at ∷ placed (number to) m.at ∷ ls) k) f.1.1 sign_extending))
heads Not ls q h f = plain_heads Not ls q refl h f
heads op ls q h f = plain_heads op ls q refl h f

-- how many arguments an operator takes
one_argument : (op : Op) (w : ℕ) → IsSome (result_width_of op (w ∷ [])) → arity op ≡ 1
one_argument Not w h = refl
one_argument Neg w h = refl
one_argument (Extract hi lo) w h = refl
one_argument (ZExt to) w h = refl
one_argument (SExt to) w h = refl
one_argument op w h = absurd (false≢true h)

two_arguments : (op : Op) (v w : ℕ) → IsSome (result_width_of op (v ∷ w ∷ [])) → arity op ≡ 2
two_arguments Not v w h = absurd (false≢true h)
two_arguments Neg v w h = absurd (false≢true h)
two_arguments (Extract hi lo) v w h = absurd (false≢true h)
two_arguments (ZExt to) v w h = absurd (false≢true h)
two_arguments (SExt to) v w h = absurd (false≢true h)
two_arguments Ite v w h = absurd (false≢true h)
two_arguments op v w h = refl

three_arguments : (op : Op) (u v w : ℕ) → IsSome (result_width_of op (u ∷ v ∷ w ∷ [])) → arity op ≡ 3
three_arguments Ite u v w h = refl
three_arguments op u v w h = absurd (false≢true h)

some_height : (t : Tree) → 1 ≤ height t
some_height (lit b) = omega arith
some_height (var x w) = omega arith
some_height (one op a) = omega arith
some_height (two op a b) = omega arith
some_height (three op a b c) = omega arith
some_height (sel f i) = omega arith

module _ (scope : Scope) where
  -- an application between its brackets
  in_brackets : (op : Op) (ts : List Tree) (n : ℕ) (l : Lexeme) (ls bs q r : Words) → l.word ≡ opens → is_division op ≡ false → Follows (head_words op) ls bs → Arguments scope n (arity op) bs ts q
      → Follows (closes ∷ []) q r → IsSome (result_width_of op (map width_of ts)) → within_height (make (applied op ts)) ≡ Some (applied op ts) → Spells scope (suc n) (l ∷ ls) (applied op ts) r
  in_brackets op ts n l ls bs q r e h f args c fits made =
      let last = closed_by q r c in
      subst (λ (w : Word). Spells scope (suc n) (placed w l.at ∷ ls) (applied op ts) r) (sym e)
      (an_application (heads op ls bs h f) (subst (λ (k : Words). Arguments scope n (arity op) bs ts k) last.1 args) fits made)

  pub spells : (t : Tree) (n : ℕ) (ls r : Words) → IsTyped t → height t ≤ HIGHEST → IsNormal t → HasNoDivision t → IsDeclared scope t → height t ≤ suc n → Follows (term_words t) ls r → Spells scope n ls t r
  spells (lit b) n [] r typed low normal whole declared room f = absurd f
  spells (lit b) n (l ∷ ls) r typed low normal whole declared room f =
      subst (λ (w : Word). Spells scope n (placed w l.at ∷ ls) (lit b) r) (sym f.0) (subst (λ (k : Words). Spells scope n (placed (literal b) l.at ∷ ls) (lit b) k) f.1 a_literal)
  spells (var x v) n [] r typed low normal whole declared room f = absurd f
  spells (var x v) n (l ∷ ls) r typed low normal whole declared room f =
      subst (λ (w : Word). Spells scope n (placed w l.at ∷ ls) (var x v) r) (sym f.0) (subst (λ (k : Words). Spells scope n (placed (name x) l.at ∷ ls) (var x v) k) f.1 (a_variable declared))
  spells (one op a) n [] r typed low normal whole declared room f = absurd f
  spells (one op a) zero (l ∷ ls) r typed low normal whole declared room f = absurd (omega (arith, some_height a))
  spells (one op a) (suc n) (l ∷ ls) r typed low (normal_one e na) whole declared room f =
      let s = splits (head_words op) (term_words a ++ closes ∷ []) ls r f.1 in
      let t = splits (term_words a) (closes ∷ []) s.0 r s.2 in
      let args = one_more (spells a n s.0 t.0 typed.1 (omega arith) na whole.1 declared (omega arith) t.1) no_more in
      in_brackets op (a ∷ []) n l ls s.0 t.0 r f.0 whole.0 s.1 (subst (λ (c : ℕ). Arguments scope n c s.0 (a ∷ []) t.0) (sym (one_argument op (width_of a) typed.0)) args) t.2 typed.0
      (normal_made (one op a) (normal_one e na) low)
  spells (two op a b) n [] r typed low normal whole declared room f = absurd f
  spells (two op a b) zero (l ∷ ls) r typed low normal whole declared room f = absurd (omega (arith, some_height a))
  spells (two op a b) (suc n) (l ∷ ls) r typed low (normal_two e na nb) whole declared room f =
      let s = splits (head_words op) (term_words a ++ (term_words b ++ closes ∷ [])) ls r f.1 in
      let t = splits (term_words a) (term_words b ++ closes ∷ []) s.0 r s.2 in
      let u = splits (term_words b) (closes ∷ []) t.0 r t.2 in
      let last = one_more (spells b n t.0 u.0 typed.2 (omega arith) nb whole.2 declared.1 (omega arith) u.1) no_more in
      let args = one_more (spells a n s.0 t.0 typed.1 (omega arith) na whole.1 declared.0 (omega arith) t.1) last in
      in_brackets op (a ∷ b ∷ []) n l ls s.0 u.0 r f.0 whole.0 s.1 (subst (λ (c : ℕ). Arguments scope n c s.0 (a ∷ b ∷ []) u.0) (sym (two_arguments op (width_of a) (width_of b) typed.0)) args) u.2 typed.0
      (normal_made (two op a b) (normal_two e na nb) low)
  spells (three op a b c) n [] r typed low normal whole declared room f = absurd f
  spells (three op a b c) zero (l ∷ ls) r typed low normal whole declared room f = absurd (omega (arith, some_height a))
  spells (three op a b c) (suc n) (l ∷ ls) r typed low (normal_three e na nb nc) whole declared room f =
      let s = splits (head_words op) (term_words a ++ (term_words b ++ (term_words c ++ closes ∷ []))) ls r f.1 in
      let t = splits (term_words a) (term_words b ++ (term_words c ++ closes ∷ [])) s.0 r s.2 in
      let u = splits (term_words b) (term_words c ++ closes ∷ []) t.0 r t.2 in
      let v = splits (term_words c) (closes ∷ []) u.0 r u.2 in
      let last = one_more (spells c n u.0 v.0 typed.3 (omega arith) nc whole.3 declared.2 (omega arith) v.1) no_more in
      let middle = one_more (spells b n t.0 u.0 typed.2 (omega arith) nb whole.2 declared.1 (omega arith) u.1) last in
      let args = one_more (spells a n s.0 t.0 typed.1 (omega arith) na whole.1 declared.0 (omega arith) t.1) middle in
      in_brackets op (a ∷ b ∷ c ∷ []) n l ls s.0 v.0 r f.0 whole.0 s.1 (subst (λ (k : ℕ). Arguments scope n k s.0 (a ∷ b ∷ c ∷ []) v.0) (sym (three_arguments op (width_of a) (width_of b) (width_of c) typed.0)) args) v.2 typed.0
      (normal_made (three op a b c) (normal_three e na nb nc) low)
  spells (sel g i) n [] r typed low normal whole declared room f = absurd f
  spells (sel g i) n (l ∷ []) r typed low normal whole declared room f = absurd f.1
  spells (sel g i) n (l ∷ m ∷ []) r typed low normal whole declared room f = absurd f.1.1
  spells (sel g i) zero (l ∷ m ∷ o ∷ ls) r typed low normal whole declared room f = absurd (omega (arith, some_height i))
  spells (sel g i) (suc n) (l ∷ m ∷ o ∷ ls) r typed low (normal_selection ni) whole declared room f =
      let s = splits (term_words i) (closes ∷ []) ls r f.1.1.1 in
      let last = closed_by s.0 r s.2 in
      let inner = subst (λ (k : Words). Spells scope n ls i k) last.1 (spells i n ls s.0 typed.1 (omega arith) ni whole declared.1 (omega arith) s.1) in
      subst (λ (w : Word). Spells scope (suc n) (placed w l.at ∷ m ∷ o ∷ ls) (sel g i) r) (sym f.0)
      (subst (λ (w : Word). Spells scope (suc n) (placed opens l.at ∷ placed w m.at ∷ o ∷ ls) (sel g i) r) (sym f.1.0)
      (subst (λ (w : Word). Spells scope (suc n) (placed opens l.at ∷ placed (name (codes "sel")) m.at ∷ placed w o.at ∷ ls) (sel g i) r) (sym f.1.1.0)
      (a_selection declared.0 inner typed.0 (selection_low g i (omega arith)))))

pub words_spell : (scope : Scope) (t : Tree) (ls r : Words) → IsTerm t → IsNormal t → HasNoDivision t → IsDeclared scope t → Follows (term_words t) ls r → Spells scope 1024 ls t r
words_spell scope t ls r it normal whole declared f = spells scope t 1024 ls r it.typed it.low normal whole declared (omega (arith, it.low)) f
