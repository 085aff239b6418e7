-- The parts of two bytes of one array are true.
use Rattle.std.proofs.Common.{◌≡◌, ℕ, ◌/◌, ◌^◌, ◌<◌, Bool, true, false, not, ltb, eqb, List, Option, Some, None, refl, ap, sym, ◌∙◌, subst, arith}
use Rattle.std.specs.Prelude.{slice_get, option_and_then}
use Rattle.std.proofs.lemmas.Bool.{ne_eqb, eqb-true, ltb-true, cond-false}
use Rattle.std.proofs.lemmas.Nat.Bits.{same_from_bits_below}
use Rattle.bv_bits.specs.Bits.{bit}
use Rattle.bv_bits.specs.BitLaws.{has_bit}
use Rattle.clause_core.specs.declared.BitName.TheVariants.{Bit}
use Rattle.clause_core.specs.Clauses.{same_bool}
use Rattle.clause_core.specs.Congruence.{Agree, TellsDifferences}
use Rattle.clause_core.proofs.CongruenceLaws.{rows_hold}
use Rattle.gate_tables.specs.Gates.{exclusive}
use Rattle.axiom_rules.specs.declared.part.Part.TheVariants.{Congruence}
use Rattle.axiom_rules.specs.declared.node.Node.{Node}
use Rattle.axiom_rules.specs.declared.node.Node.TheVariants.{Byte}
use Rattle.axiom_rules.specs.declared.node.Sub.{Sub}
use Rattle.axiom_rules.specs.Axioms.{width_at, pair_part, byte_part}
use Rattle.axiom_rules.specs.Truth.{IsTypedNode, IsTyped, AreValues, index_layer, node_layer, assignment}
use Rattle.axiom_rules.proofs.Numbers.{odd_of}
use Rattle.axiom_rules.proofs.PartLemmas.{Holds, no_part, either}

differ : (a b : Bool) → exclusive a b ≡ not (same_bool a b)
differ true true = refl
differ true false = refl
differ false true = refl
differ false false = refl

module _ (subs : List Sub) (val : ℕ → ℕ) (values : AreValues subs val) where
  -- an auxiliary bit is one of its subterm's layers
  pub layer_is : (i : ℕ) (s : Sub) → slice_get subs i ≡ Some s → (l k : ℕ) → 0 < l → assignment subs val (Bit i l k) ≡ node_layer subs val s.node l k
  layer_is i s e l k p =
      cond-false (eqb l 0) (has_bit (val i) k) (elim (slice_get subs i) [ None ↦ false | Some q ↦ node_layer subs val q.node l k ]) (ne_eqb l 0 (λ h. absurd (omega arith)))
      ∙ ap (λ (o : Option Sub). elim o [ None ↦ false | Some q ↦ node_layer subs val q.node l k ]) e

  module _ (typed : IsTyped subs) (p q array x y : ℕ) (s t : Sub) (p_is : slice_get subs p ≡ Some s) (q_is : slice_get subs q ≡ Some t) (p_node : s.node ≡ Byte array x) (q_node : t.node ≡ Byte array y) (order : p < q) where
    tells : TellsDifferences (assignment subs val) p q x y
    tells j below =
        let above : 0 < q = omega arith in
        layer_is p s p_is q j above
        ∙ ap (λ (node : Node). node_layer subs val node q j) p_node
        ∙ ap (λ (o : Option Sub). elim o [ None ↦ false | Some r ↦ index_layer val x r.node j ]) q_is
        ∙ ap (λ (node : Node). index_layer val x node j) q_node
        ∙ differ (has_bit (val x) j) (has_bit (val y) j)

    index_fits : (i k : ℕ) (r : Sub) → slice_get subs i ≡ Some r → r.node ≡ Byte array k → val k < 2 ^ 64
    index_fits i k r is node =
        let wide : width_at subs k ≡ 64 = subst (IsTypedNode subs r.width) node (typed.nodes i r is) in
        subst (λ (w : ℕ). val k < 2 ^ w) wide (values.fits k)

    agree : Agree (assignment subs val) x y 64 → Agree (assignment subs val) p q 8
    agree same j below =
        let index : val x ≡ val y =
        same_from_bits_below 64 (val x) (val y) (index_fits p x s p_is p_node) (index_fits q y t q_is q_node)
        (λ k h. odd_of (val x / 2 ^ k) (has_bit (val x) k) refl ∙ ap bit (same k h) ∙ sym (odd_of (val y / 2 ^ k) (has_bit (val y) k) refl)) in
        ap (λ (n : ℕ). has_bit n j) (values.bytes p q array x y s t p_is q_is p_node q_node index)

    pub pair_holds : (part j : ℕ) → Holds (assignment subs val) (Some (Congruence p q x y part j))
    pair_holds part j = record { at = λ row c e. rows_hold (assignment subs val) p q x y tells agree part j row c e }

  pub byte_holds : IsTyped subs → (p array x : ℕ) (s : Sub) → slice_get subs p ≡ Some s → s.node ≡ Byte array x → (part j : ℕ) → Holds (assignment subs val) (byte_part subs p array x part j)
  byte_holds typed p array x s p_is p_node part j =
      either (assignment subs val) (ltb p (part / 2)) (option_and_then (λ r. pair_part p (part / 2) array x r.node part j) (slice_get subs (part / 2))) None
      (λ l. found (ltb-true p (part / 2) l) (slice_get subs (part / 2)) refl)
      (λ l. no_part (assignment subs val))
    where
      found : p < part / 2 → (o : Option Sub) → slice_get subs (part / 2) ≡ o → Holds (assignment subs val) (option_and_then (λ r. pair_part p (part / 2) array x r.node part j) o)
      found order None is = no_part (assignment subs val)
      found order (Some t) is = by t.node refl
        where
          by : (node : Node) → t.node ≡ node → Holds (assignment subs val) (pair_part p (part / 2) array x node part j)
          by (Byte other y) node_is =
              either (assignment subs val) (eqb array other) (Some (Congruence p (part / 2) x y part j)) None
              (λ e. pair_holds typed p (part / 2) array x y s t p_is is p_node (node_is ∙ ap (λ (n : ℕ). Byte n y) (sym (eqb-true array other e))) order part j)
              (λ e. no_part (assignment subs val))
          by node node_is = no_part (assignment subs val)
