-- What is kept tells what the numbers in the list of nodes stand for.
use Rattle.std.proofs.Common.{◌≡◌, ℕ, Bool, true, false, eqb, inl, inr, ◌<◌, ◌≤◌, List, length, map, None, Some, refl, ap, sym, ◌∙◌, subst, arith}
use Rattle.std.specs.Prelude.{slice_get, slice_index_or}
use Rattle.std.specs.Option.{option_map}
use Rattle.std.proofs.lemmas.List.{length-map}
use Rattle.std.proofs.lemmas.Option.{slice_get-map, slice_get_within}
use Rattle.std.proofs.lemmas.Bool.Decides.{eqb_tells}
use Rattle.bv_bits.specs.declared.Bits.{Bits}
use Rattle.bv_bits.specs.declared.Op.{Op}
use Rattle.term_rules.specs.Shapes.{is_other}
use Rattle.term_tree.proofs.SameLemmas.{same_is, tree_itself}
use Rattle.term_arena.specs.declared.node.TermId.{TermId}
use Rattle.term_tree.specs.Terms.{Text, Tree, same_tree, IsTyped, IsTypedArray, width_of, HIGHEST}
use Rattle.term_arena.specs.declared.node.ArrayId.{ArrayId}
use Rattle.term_arena.specs.declared.node.Key.{Key}
use Rattle.term_arena.specs.declared.node.Key.TheVariants as key
use Rattle.term_arena.specs.declared.node.Facts.{Facts}
use Rattle.term_arena.specs.Nodes.{Node, Meaning, as_term, as_array, meaning_by, meanings_of, meaning_at, term_at, array_at}
use Rattle.term_arena.specs.Arena.{plain, IsKept, IsArena, width_in, height_in, arguments}
use Rattle.term_arena.specs.Answers.{literal_of}
use Rattle.term_arena.proofs.MeaningLemmas.{term_within, array_within, term_is, meaning_at-get, blank_untyped, blank_array_untyped}
use Rattle.term_arena.proofs.EqualLemmas.{equal_terms}
use Rattle.term_arena.proofs.KeptLemmas.{facts_length, width_here, height_here, args_here, key_means, low_here}

module _ (names : List Text) (keys : List Key) (facts : List Facts) (h : IsKept names keys facts) (now : List Node) (v : map (plain names) keys ≡ now) where
  pub arena_now : IsArena now
  arena_now = subst IsArena v h.arena

  long : length now ≡ length keys
  long = sym (ap length v) ∙ length-map keys (plain names)

  pub term_key : (i : ℕ) → IsTyped (term_at now i) → i < length keys
  term_key i t = omega (arith, term_within now i t, long)

  pub array_key : (i : ℕ) → IsTypedArray (array_at now i) → i < length keys
  array_key i t = omega (arith, array_within now i t, long)

  pub term_fact : (i : ℕ) → IsTyped (term_at now i) → i < length facts
  term_fact i t = omega (arith, term_within now i t, long, facts_length names keys facts h)

  pub array_fact : (i : ℕ) → IsTypedArray (array_at now i) → i < length facts
  array_fact i t = omega (arith, array_within now i t, long, facts_length names keys facts h)

  -- the kept height is the height
  pub height_now : (i : ℕ) (d : Facts) → i < length keys → (slice_index_or facts i d).height ≡ height_in (meaning_at now i)
  height_now i d lt = height_here names keys facts h i d lt ∙ ap (λ l. height_in (meaning_at l i)) v

  pub low_now : (i : ℕ) (d : Facts) → i < length keys → (slice_index_or facts i d).height ≤ HIGHEST
  low_now i d lt = let e = height_here names keys facts h i d lt in let b = low_here names keys facts h i lt in omega (arith, e, b)

  wide : (m : Meaning) → IsTyped (as_term m) → width_in m ≡ width_of (as_term m)
  wide m t = ap width_in (term_is m t)

  -- the kept width is the width
  pub width_now : (i : ℕ) (d : Facts) → IsTyped (term_at now i) → (slice_index_or facts i d).width ≡ width_of (term_at now i)
  width_now i d t = width_here names keys facts h i d (term_key i t) ∙ ap (λ l. width_in (meaning_at l i)) v ∙ wide (meaning_at now i) t

  -- the node
  pub node_now : (i : ℕ) (k : Key) → slice_get keys i ≡ Some k → slice_get now i ≡ Some (plain names k)
  node_now i k e = ap (λ l. slice_get l i) (sym v) ∙ slice_get-map (plain names) keys i ∙ ap (option_map (plain names)) e

  -- what the node stands for
  pub means_now : (i : ℕ) (k : Key) → slice_get keys i ≡ Some k → meaning_at now i ≡ meaning_by (meanings_of now) (plain names k)
  means_now i k e = subst (λ l. meaning_at l i ≡ meaning_by (meanings_of l) (plain names k)) v (key_means names keys facts h i k e)

  pub tree_now : (i : ℕ) (k : Key) → slice_get keys i ≡ Some k → term_at now i ≡ as_term (meaning_by (meanings_of now) (plain names k))
  tree_now i k e = ap as_term (means_now i k e)

  -- a kept literal is the literal
  no_literal : (ms : List Meaning) (k : Key) → ((b : Bits) → k ≡ key.Lit b → ⊥) → None ≡ literal_of (as_term (meaning_by ms (plain names k)))
  no_literal ms (key.Lit b) n = absurd (n b refl)
  no_literal ms k n = refl

  pub literal_now : (i : ℕ) (k : Key) (b : Bits) → slice_get keys i ≡ Some k → k ≡ key.Lit b → Some b ≡ literal_of (term_at now i)
  literal_now i k b e s = sym (ap literal_of (tree_now i k e) ∙ ap (λ x. literal_of (as_term (meaning_by (meanings_of now) (plain names x)))) s)

  pub no_literal_now : (i : ℕ) (k : Key) → slice_get keys i ≡ Some k → ((b : Bits) → k ≡ key.Lit b → ⊥) → None ≡ literal_of (term_at now i)
  no_literal_now i k e n = no_literal (meanings_of now) k n ∙ sym (ap literal_of (tree_now i k e))

  -- a number's term, by its node
  pub term_now : (i : ℕ) (n : Node) → slice_get now i ≡ Some n → term_at now i ≡ as_term (meaning_by (meanings_of now) n)
  term_now i n e = ap as_term (meaning_at-get now i n arena_now.fine e)

  -- the top of a kept node that is neither a literal nor an operator at one or two arguments
  other : (ms : List Meaning) (k : Key) → ((b : Bits) → k ≡ key.Lit b → ⊥) → ((op : Op) (a : TermId) → k ≡ key.One op a → ⊥) → ((op : Op) (a b : TermId) → k ≡ key.Two op a b → ⊥) → is_other (as_term (meaning_by ms (plain names k))) ≡ true
  other ms (key.Lit b) l m n = absurd (l b refl)
  other ms (key.One op a) l m n = absurd (m op a refl)
  other ms (key.Two op a b) l m n = absurd (n op a b refl)
  other ms k l m n = refl

  pub other_now : (i : ℕ) (k : Key) → slice_get keys i ≡ Some k → ((b : Bits) → k ≡ key.Lit b → ⊥) → ((op : Op) (a : TermId) → k ≡ key.One op a → ⊥) → ((op : Op) (a b : TermId) → k ≡ key.Two op a b → ⊥) → is_other (term_at now i) ≡ true
  other_now i k e l m n = ap is_other (tree_now i k e) ∙ other (meanings_of now) k l m n

  -- numbers are the same exactly where their terms are
  pub same_now : (a b : ℕ) (r : Bool) → IsTyped (term_at now a) → r ≡ eqb a b → r ≡ same_tree (term_at now a) (term_at now b)
  same_now a b r t e =
      elim (eqb_tells a b) [
        | inl p ↦ e ∙ p.0 ∙ sym (ap (λ (x : ℕ). same_tree (term_at now a) (term_at now x)) (sym p.1) ∙ tree_itself (term_at now a))
        | inr p ↦ e ∙ p.0 ∙ sym (not_same (term_at now a) (term_at now b) (λ q. p.1 (equal_terms now arena_now a b t q)) _ refl)
      ]
    where
      not_same : (x y : Tree) → (x ≡ y → ⊥) → (s : Bool) → same_tree x y ≡ s → same_tree x y ≡ false
      not_same x y n true h = absurd (n (same_is x y h))
      not_same x y n false h = h

  -- the node of a typed term is that of a term
  pub term_key_now : (k : Key) → IsTyped (as_term (meaning_by (meanings_of now) (plain names k))) → ((b : Bits) → k ≡ key.Lit b → ⊥) → ((x w : ℕ) → k ≡ key.Var x w → ⊥) → ((op : Op) (a : TermId) → k ≡ key.One op a → ⊥) → ((op : Op) (a b : TermId) → k ≡ key.Two op a b → ⊥) → ((op : Op) (a b c : TermId) → k ≡ key.Three op a b c → ⊥) → ((x : ℕ) (a : TermId) → k ≡ key.Sel x a → ⊥) → ⊥
  term_key_now (key.Lit b) t l v o w m s = l b refl
  term_key_now (key.Var x y) t l v o w m s = v x y refl
  term_key_now (key.One op a) t l v o w m s = o op a refl
  term_key_now (key.Two op a b) t l v o w m s = w op a b refl
  term_key_now (key.Three op a b c) t l v o w m s = m op a b c refl
  term_key_now (key.Sel x a) t l v o w m s = s x a refl
  term_key_now k t l v o w m s = blank_untyped t

  -- the kept arguments
  pub args_now : (i : ℕ) (d : Facts) (k : Key) → slice_get keys i ≡ Some k → (slice_index_or facts i d).args ≡ arguments k
  args_now i d k e = args_here names keys facts h i d (slice_get_within keys i k e) k e

  pub array_tree_now : (i : ℕ) (k : Key) → slice_get keys i ≡ Some k → array_at now i ≡ as_array (meaning_by (meanings_of now) (plain names k))
  array_tree_now i k e = ap as_array (means_now i k e)

  -- the node of a typed array term is that of an array term
  pub array_key_now : (k : Key) → IsTypedArray (as_array (meaning_by (meanings_of now) (plain names k))) → ((x : ℕ) → k ≡ key.Array x → ⊥) → ((f : ArrayId) (i e : TermId) → k ≡ key.Upd f i e → ⊥) → ((f g : ArrayId) (i : TermId) → k ≡ key.Splice f g i → ⊥) → ⊥
  array_key_now (key.Array x) t a u s = a x refl
  array_key_now (key.Upd f i e) t a u s = u f i e refl
  array_key_now (key.Splice f g i) t a u s = s f g i refl
  array_key_now k t a u s = blank_array_untyped t
