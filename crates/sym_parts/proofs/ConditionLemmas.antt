-- The eq of a term and a literal over a list that grows.
use Rattle.std.proofs.Common.{◌≡◌, ℕ, Bool, true, false, nat_eq, if◌then◌else◌, List, [], ◌∷◌, refl, ap, sym, ◌∙◌, subst}
use Rattle.std.specs.Prelude.{IsSome, unwrap_or}
use Rattle.std.proofs.lemmas.Bool.{eq-eqb}
use Rattle.bv_bits.specs.declared.Bits.{Bits}
use Rattle.bv_bits.specs.declared.Op.TheVariants as op
use Rattle.bv_bits.specs.Bits.{IsBits, result_width_of, relation, some_if}
use Rattle.term_tree.specs.Terms.{Tree, IsTyped, lit, two, width_of}
use Rattle.term_arena.specs.declared.node.TermId.{TermId}
use Rattle.term_arena.specs.Nodes.{Node, Keeps}
use Rattle.term_arena.specs.Answers.{id_term}
use Rattle.term_arena.specs.Said.{said_then, single}
use Rattle.term_arena.proofs.StayLemmas.{term_stays}
use Rattle.sym_rules.specs.Trees.{Telling, making}
use Rattle.sym_rules.specs.Parts.{known_bit, equals_literal}
use Rattle.sym_rules.specs.Values.{sym_bits}

-- one of two definitions
chosen_term : Bool → Telling Tree → Telling Tree → Telling Tree
chosen_term b s t = if b then s else t

pub eq_to : Bits → Tree → Telling Tree
eq_to b t = said_then (single (lit b)) (λ l. making (two op.Eq t l))

literal_by : (same : Bool) (b : Bits) (t : Tree) → nat_eq b.width (width_of t) ≡ same → chosen_term same (eq_to b t) (known_bit false) ≡ equals_literal b (sym_bits t)
unfolding chosen_term eq_to
literal_by same b t h = ap (λ c. chosen_term c (eq_to b t) (known_bit false)) (sym h)

module _ (nodes : List Node) (b : Bits) (id : TermId) (typed : IsTyped (id_term nodes id)) where
  over : (same : Bool) → nat_eq b.width (width_of (id_term nodes id)) ≡ same → (last : List Node) → Keeps nodes last → nat_eq b.width (width_of (id_term last id)) ≡ same
  over same h last k = ap (λ (t : Tree). nat_eq b.width (width_of t)) (term_stays nodes last k id typed) ∙ h

  pub is_eq : nat_eq b.width (width_of (id_term nodes id)) ≡ true → (last : List Node) → Keeps nodes last
      → said_then (single (lit b)) (λ l. making (two op.Eq (id_term last id) l)) ≡ equals_literal b (sym_bits (id_term last id))
  unfolding chosen_term eq_to
  is_eq h last k = literal_by true b (id_term last id) (over true h last k)

  pub is_other : nat_eq b.width (width_of (id_term nodes id)) ≡ false → (last : List Node) → Keeps nodes last → known_bit false ≡ equals_literal b (sym_bits (id_term last id))
  unfolding chosen_term eq_to
  is_other h last k = literal_by false b (id_term last id) (over false h last k)

-- ---- relations of terms of one width

relation_there : (w v : ℕ) → w ≡ v → IsSome (relation w v)
relation_there w v e = subst (λ n. IsSome (relation w n)) e (subst (λ (b : Bool). IsSome (some_if b 1)) (sym (eq-eqb w w refl)) refl)

one_bit : (w v : ℕ) → w ≡ v → unwrap_or (relation w v) 0 ≡ 1
one_bit w v e = subst (λ n. unwrap_or (relation w n) 0 ≡ 1) e (subst (λ (b : Bool). unwrap_or (some_if b 1) 0 ≡ 1) (sym (eq-eqb w w refl)) refl)

-- the eq of two typed terms of one width is typed, and has one bit
pub eq_typed : (t u : Tree) → IsTyped t → IsTyped u → width_of t ≡ width_of u → IsTyped (two op.Eq t u)
eq_typed t u h k e = (relation_there (width_of t) (width_of u) e, h, k)

pub eq_wide : (t u : Tree) → width_of t ≡ width_of u → width_of (two op.Eq t u) ≡ 1
eq_wide t u e = one_bit (width_of t) (width_of u) e
