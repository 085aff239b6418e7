-- What is known to stand for terms, as nodes are added and as more is known.
use Rattle.std.proofs.Common.{◌≡◌, ℕ, Bool, true, false, cond, List, Option, Some, None, refl, ap, sym, ◌∙◌, subst, eqb-true}
use Rattle.std.specs.Prelude.{nat_eq, bytes_eq, slice_index_or, unwrap_or}
use Rattle.std.proofs.lemmas.Slice.Eq.{bytes_eq-Decides}
use Rattle.term_tree.specs.Terms.{Text, Tree, var, ArrayTree, array, IsTyped, IsTypedArray, width_of}
use Rattle.term_replace.specs.Replacing.{Replacements, substitute, substitute_array, Fits, FitsArray, replaced_var, replaced_array}
use Rattle.term_tree.proofs.FoundLemmas.{found}
use Rattle.term_arena.specs.Nodes.{Node, term_at, array_at, Keeps}
use Rattle.term_arena.specs.Built.{built}
use Rattle.term_arena.specs.Makes.{AreLow}
use Rattle.term_arena.specs.Keeping.{EqualTermsAreOne, EqualArraysAreOne}
use Rattle.arena_replace.specs.declared.substituting.Known.{Known}
use Rattle.arena_replace.specs.Renumbering.{number_for}
use Rattle.arena_replace.specs.Substituting.{StandsFor, StandsForArray, Knows}
use Rattle.term_arena.proofs.MeaningLemmas.{keeps_term, keeps_array}

-- ---- nodes are added

module _ (old new : List Node) (by : Replacements) (k : Keeps old new) where
  stands_keeps : (n r : ℕ) → StandsFor old by n r → StandsFor new by n r
  stands_keeps n r h =
      let e = keeps_term old new n k h.of in
      let f = keeps_term old new r k h.typed in
      record {
        of = subst IsTyped (sym e) h.of;
        typed = subst IsTyped (sym f) h.typed;
        is = λ fits.
            subst (λ (t : Tree). ((substitute by t).it ≡ term_at new r) × AreLow (built (substitute by t))) (sym e)
            (let i = h.is (subst (Fits by) e fits) in (i.0 ∙ sym f, i.1));
      }

  array_stands_keeps : (n r : ℕ) → StandsForArray old by n r → StandsForArray new by n r
  array_stands_keeps n r h =
      let e = keeps_array old new n k h.of in
      let f = keeps_array old new r k h.typed in
      record {
        of = subst IsTypedArray (sym e) h.of;
        typed = subst IsTypedArray (sym f) h.typed;
        is = λ fits.
            subst (λ (t : ArrayTree). ((substitute_array by t).it ≡ array_at new r) × AreLow (built (substitute_array by t))) (sym e)
            (let i = h.is (subst (FitsArray by) e fits) in (i.0 ∙ sym f, i.1));
      }

  pub knows_keeps : (known : Known) → Knows old by known → Knows new by known
  knows_keeps known h = record {
    typed = h.typed;
    terms = λ n r e. stands_keeps n r (h.terms n r e);
    arrays = λ n r e. array_stands_keeps n r (h.arrays n r e);
    variables = λ i d lt.
        let v = h.variables i d lt in
        (v.0, v.1, keeps_term old new v.0 k (h.terms v.0 v.1 v.3).of ∙ v.2, v.3);
    array_variables = λ i d lt.
        let v = h.array_variables i d lt in
        (v.0, v.1, keeps_array old new v.0 k (h.arrays v.0 v.1 v.3).of ∙ v.2, v.3);
  }

-- ---- more is known

-- what stands for a number, after one is put
put_by : (P : ℕ → ℕ → Type 0) (b : Bool) (n k r s : ℕ) (o : Option ℕ) → (b ≡ true → n ≡ k) → cond b (Some r) o ≡ Some s → P n r → (o ≡ Some s → P k s) → P k s
put_by P true n k r s o same e p q =
    let f : r ≡ s = cc in
    subst (P k) f (subst (λ (m : ℕ). P m r) (same refl) p)
put_by P false n k r s o same e p q = q e

-- one that stood before has one that stands still
still : (b : Bool) (r s : ℕ) (o : Option ℕ) → o ≡ Some s → (t : ℕ) × (cond b (Some r) o ≡ Some t)
still true r s o e = (r, refl)
still false r s o e = (s, e)

module _ (nodes : List Node) (by : Replacements) (known later : Known) (n r : ℕ) (h : Knows nodes by known) where
  pub knows_term : later.arrays ≡ known.arrays → ((k : ℕ) → number_for later.terms k ≡ cond (nat_eq n k) (Some r) (number_for known.terms k)) → StandsFor nodes by n r → Knows nodes by later
  knows_term rest put s = record {
    typed = h.typed;
    terms = λ k t e. put_by (StandsFor nodes by) (nat_eq n k) n k r t (number_for known.terms k) (eqb-true n k) (sym (put k) ∙ e) s (h.terms k t);
    arrays = λ k t e. h.arrays k t (ap (λ m. number_for m k) (sym rest) ∙ e);
    variables = λ i d lt.
        let v = h.variables i d lt in
        let t = still (nat_eq n v.0) r v.1 (number_for known.terms v.0) v.3 in
        (v.0, t.0, v.2, put v.0 ∙ t.1);
    array_variables = λ i d lt.
        let v = h.array_variables i d lt in
        (v.0, v.1, v.2, ap (λ m. number_for m v.0) rest ∙ v.3);
  }

  pub knows_array : later.terms ≡ known.terms → ((k : ℕ) → number_for later.arrays k ≡ cond (nat_eq n k) (Some r) (number_for known.arrays k)) → StandsForArray nodes by n r → Knows nodes by later
  knows_array rest put s = record {
    typed = h.typed;
    terms = λ k t e. h.terms k t (ap (λ m. number_for m k) (sym rest) ∙ e);
    arrays = λ k t e. put_by (StandsForArray nodes by) (nat_eq n k) n k r t (number_for known.arrays k) (eqb-true n k) (sym (put k) ∙ e) s (h.arrays k t);
    variables = λ i d lt.
        let v = h.variables i d lt in
        (v.0, v.1, v.2, ap (λ m. number_for m v.0) rest ∙ v.3);
    array_variables = λ i d lt.
        let v = h.array_variables i d lt in
        let t = still (nat_eq n v.0) r v.1 (number_for known.arrays v.0) v.3 in
        (v.0, t.0, v.2, put v.0 ∙ t.1);
  }

-- ---- variables that nothing stands for

module _ (nodes : List Node) (by : Replacements) (known : Known) (h : Knows nodes by known) where
  pub not_replaced : (x : Text) (w i : ℕ) → EqualTermsAreOne nodes → IsTyped (var x w) → term_at nodes i ≡ var x w → number_for known.terms i ≡ None → Fits by (var x w) → replaced_var by x w ≡ var x w
  not_replaced x w i once typed is new fits =
      found (λ t. t ≡ var x w) (λ p. bytes_eq p.0 x) (λ p. p.1) by.terms (var x w)
      (λ j d lt b.
      let v = h.variables j d lt in
      let wide = fits j d lt b in
      let p = slice_index_or by.terms j d in
      let name : p.0 ≡ x = (bytes_eq-Decides p.0 x).0 b in
      let same : var p.0 (width_of p.1) ≡ var x w = ap (λ (y : Text). var y (width_of p.1)) name ∙ ap (var x) wide in
      let number : i ≡ v.0 = once i v.0 (subst IsTyped (sym is) typed) (is ∙ sym same ∙ sym v.2) in
      let clash : None ≡ Some v.1 = sym new ∙ ap (number_for known.terms) number ∙ v.3 in
      absurd (let e : ⊥ = cc in e))
      refl

  pub array_not_replaced : (f : Text) → ((n r : ℕ) → array_at nodes n ≡ array f → number_for known.arrays n ≡ Some r → ⊥) → replaced_array by f ≡ array f
  array_not_replaced f none =
      found (λ t. t ≡ array f) (λ p. bytes_eq p.0 f) (λ p. p.1) by.arrays (array f)
      (λ j d lt b.
      let v = h.array_variables j d lt in
      let p = slice_index_or by.arrays j d in
      let name : p.0 ≡ f = (bytes_eq-Decides p.0 f).0 b in
      absurd (none v.0 v.1 (v.2 ∙ ap array name) v.3))
      refl

  -- its number is known not to
  pub array_kept : (f : Text) (i : ℕ) → EqualArraysAreOne nodes → array_at nodes i ≡ array f → number_for known.arrays i ≡ None → replaced_array by f ≡ array f
  array_kept f i once is new =
      array_not_replaced f
      (λ n r e q.
      let number : i ≡ n = once i n (subst IsTypedArray (sym is) tt) (is ∙ sym e) in
      let clash : None ≡ Some r = sym new ∙ ap (number_for known.arrays) number ∙ q in
      let z : ⊥ = cc in z)

  -- what stands for an array variable's number stands for its name
  stands_by : (f : Text) (i : ℕ) → EqualArraysAreOne nodes → array_at nodes i ≡ array f → (o : Option ℕ) → number_for known.arrays i ≡ o → array_at nodes (unwrap_or o i) ≡ replaced_array by f
  stands_by f i once is None e = is ∙ sym (array_kept f i once is e)
  stands_by f i once is (Some r) e =
      let s = (h.arrays i r e).is (subst (FitsArray by) (sym is) tt) in
      sym (subst (λ (g : ArrayTree). (substitute_array by g).it ≡ array_at nodes r) is s.0)

  pub array_stands : (f : Text) (i : ℕ) → EqualArraysAreOne nodes → array_at nodes i ≡ array f → array_at nodes (unwrap_or (number_for known.arrays i) i) ≡ replaced_array by f
  array_stands f i once is = stands_by f i once is (number_for known.arrays i) refl
