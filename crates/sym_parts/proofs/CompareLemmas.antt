-- How two terms of bit vectors compare over a list that grows.
use Rattle.std.proofs.Common.{◌≡◌, ◌≢◌, ◌⊎◌, inl, inr, ℕ, Bool, true, false, nat_eq, if◌then◌else◌, List, refl, ap, sym, ◌∙◌, subst}
use Rattle.std.proofs.lemmas.Bool.{eq-eqb}
use Rattle.std.proofs.lemmas.Bool.Decides.{eqb_tells}
use Rattle.bv_bits.specs.declared.Op.{Op}
use Rattle.term_tree.specs.Terms.{Tree, IsTyped, two, width_of}
use Rattle.term_arena.specs.declared.node.TermId.{TermId}
use Rattle.term_arena.specs.Nodes.{Node, Keeps}
use Rattle.term_arena.specs.Answers.{id_term}
use Rattle.term_arena.proofs.StayLemmas.{term_stays}
use Rattle.sym_rules.specs.Values.{SymValue}
use Rattle.sym_rules.specs.Trees.{Telling, making}
use Rattle.sym_rules.specs.Operators.{as_truth, known_truth, related}
use Rattle.sym_parts.specs.declared.comparing.Compared.TheVariants as compared
use Rattle.sym_parts.specs.declared.values.SymValue.TheVariants as value
use Rattle.sym_parts.specs.Compares.{ComparesSo}

-- ---- the test of the code

not_same : (m n : ℕ) → ((nat_eq m n ≡ true) × (m ≡ n)) ⊎ ((nat_eq m n ≡ false) × (m ≢ n)) → (m ≡ n → ⊥) → nat_eq m n ≡ false
not_same m n (inl same) h = absurd (h same.1)
not_same m n (inr other) h = other.0

pub are_same : (m n w v : ℕ) → m ≡ w → n ≡ v → m ≡ n → nat_eq w v ≡ true
are_same m n w v e f h = eq-eqb w v (sym e ∙ h ∙ f)

pub are_other : (m n w v : ℕ) → m ≡ w → n ≡ v → (m ≡ n → ⊥) → nat_eq w v ≡ false
are_other m n w v e f h = not_same w v (eqb_tells w v) (λ same. h (e ∙ same ∙ sym f))

-- ---- the definition by its test

-- as made or known
by_width : Bool → Op → Bool → Tree → Tree → Telling SymValue
by_width b o otherwise t u = if b then as_truth (making (two o t u)) else known_truth otherwise

module _ (nodes : List Node) (a b : TermId) (first : IsTyped (id_term nodes a)) (second : IsTyped (id_term nodes b)) where
  -- the test is the same over every list that keeps the nodes
  related_by : (same : Bool) → nat_eq (width_of (id_term nodes a)) (width_of (id_term nodes b)) ≡ same → (o : Op) (otherwise : Bool) (last : List Node) → Keeps nodes last
      → related o otherwise (id_term last a) (id_term last b) ≡ by_width same o otherwise (id_term last a) (id_term last b)
  unfolding by_width
  related_by same h o otherwise last k =
      ap (λ c. by_width c o otherwise (id_term last a) (id_term last b))
      (ap (λ (t : Tree). nat_eq (width_of t) (width_of (id_term last b))) (term_stays nodes last k a first)
      ∙ ap (λ (t : Tree). nat_eq (width_of (id_term nodes a)) (width_of t)) (term_stays nodes last k b second)
      ∙ h)

  pub by_terms : nat_eq (width_of (id_term nodes a)) (width_of (id_term nodes b)) ≡ true → ComparesSo nodes (value.Bits a) (value.Bits b) (compared.Terms a b)
  unfolding by_width
  by_terms h o turn last k = related_by true h o (turn false) last k

  pub known_other : nat_eq (width_of (id_term nodes a)) (width_of (id_term nodes b)) ≡ false → ComparesSo nodes (value.Bits a) (value.Bits b) (compared.Known false)
  unfolding by_width
  known_other h o turn last k = related_by false h o (turn false) last k
