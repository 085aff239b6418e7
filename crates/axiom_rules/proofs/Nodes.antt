-- Every axiom clause is true in the assignment that the numbers of the subterms give.
use Rattle.std.proofs.Common.{◌≡◌, ℕ, ◌^◌, ◌<◌, Bool, true, false, not, ◌&&◌, cond, eqb, List, [], ◌∷◌, All, Option, Some, None, refl, ap, sym, ◌∙◌, subst}
use Rattle.std.specs.Prelude.{slice_get, option_map, option_and_then}
use Rattle.std.specs.Int.{bit_at}
use Rattle.std.proofs.lemmas.Bool.{and_parts, eqb-true, or_left}
use Rattle.std.proofs.lemmas.Option.{slice_get_within, get_or_from_slice_get}
use Rattle.bv_bits.specs.declared.Op.{Op}
use Rattle.bv_bits.specs.declared.Op.TheVariants.{Ite}
use Rattle.bv_bits.specs.Bits.{result_width_of, number_of}
use Rattle.clause_core.specs.declared.BitName.{BitName}
use Rattle.clause_core.specs.declared.BitName.TheVariants.{Truth as TruthBit, Bit}
use Rattle.clause_core.specs.declared.Hint.TheVariants.{Truth, Goal, Fact, Step, Axiom}
use Rattle.clause_core.specs.declared.Lit.{Lit}
use Rattle.clause_core.specs.Clauses.{opposite_of, lit_holds, clause_holds}
use Rattle.clause_core.specs.Meaning.{AllHold}
use Rattle.gate_tables.specs.Gates.{chosen}
use Rattle.axiom_rules.specs.declared.node.Node.{Node}
use Rattle.axiom_rules.specs.declared.node.Node.TheVariants.{Literal, Variable, One, Two, Three, Byte}
use Rattle.axiom_rules.specs.declared.node.Sub.{Sub}
use Rattle.axiom_rules.specs.Parts.{own, signed_by}
use Rattle.axiom_rules.specs.Axioms.{Problem, width_at, three_part, node_part, clause_named}
use Rattle.bv_bits.specs.BitLaws.{has_bit}
use Rattle.axiom_rules.specs.Truth.{IsTypedNode, IsTyped, IsNumberOf, AreValues, node_layer, assignment}
use Rattle.axiom_rules.specs.Laws.{IsProblem, AxiomsAreTrue, NoModelTells}
use Rattle.axiom_rules.proofs.Pairs.{layer_is, byte_holds}
use Rattle.axiom_rules.proofs.PartLemmas.{Holds, no_part, unit_holds, mux_holds, bit_lit, opposite_lit}
use Rattle.axiom_rules.proofs.Relations.{signed_lit}
use Rattle.axiom_rules.proofs.Operators.{one_holds, two_holds, only_holds, lone_bit, cond_bit, some_true}

-- ---- ite

module _ (v : BitName → Bool) (t : v TruthBit ≡ true) (i a b c w m x y z n : ℕ) (width : ℕ) (fx : x < 2 ^ w) (reads_a : (k : ℕ) → v (Bit a 0 k) ≡ has_bit x k) (reads_b : (k : ℕ) → v (Bit b 0 k) ≡ has_bit y k) (reads_c : (k : ℕ) → v (Bit c 0 k) ≡ has_bit z k) (reads_i : (k : ℕ) → v (Bit i 0 k) ≡ has_bit n k) where
  three_holds : (op : Op) → (wz : ℕ) → result_width_of op (w ∷ m ∷ wz ∷ []) ≡ Some width → n ≡ number_of op (record { width = w; value = x } ∷ record { width = m; value = y } ∷ record { width = wz; value = z } ∷ []) → (part j : ℕ) → Holds v (three_part op i a b c m part j)
  three_holds Ite wz e is part j =
      let one = and_parts (eqb w 1) (eqb m wz) (some_true (eqb w 1 && eqb m wz) m width e) in
      let small : x < 2 = subst (λ q. x < 2 ^ q) (eqb-true w 1 one.0) fx in
      only_holds v t m part j _ (λ h. mux_holds v (own a 0) (own b j) (own c j) (own i j)
      (bit_lit v i 0 j ∙ reads_i j ∙ ap (λ q. has_bit q j) is ∙ cond_bit (eqb x 1) y z j
      ∙ ap (λ u. cond u (has_bit y j) (has_bit z j)) (sym (bit_lit v a 0 0 ∙ reads_a 0 ∙ lone_bit x small))
      ∙ ap (λ u. chosen (lit_holds v (own a 0)) u (has_bit z j)) (sym (bit_lit v b 0 j ∙ reads_b j))
      ∙ ap (λ u. chosen (lit_holds v (own a 0)) (lit_holds v (own b j)) u) (sym (bit_lit v c 0 j ∙ reads_c j))))
  three_holds op wz e is part j = no_part v

-- ---- a list of subterms

module _ (subs : List Sub) (val : ℕ → ℕ) (values : AreValues subs val) where
  reads : (i k : ℕ) → assignment subs val (Bit i 0 k) ≡ has_bit (val i) k
  reads i k = refl

  node_holds : IsTyped subs → (i width : ℕ) (node : Node) → IsTypedNode subs width node → IsNumberOf subs val node (val i) → slice_get subs i ≡ Some (record { width = width; node = node }) → ((l k : ℕ) → 0 < l → assignment subs val (Bit i l k) ≡ node_layer subs val node l k) → (part j : ℕ) → Holds (assignment subs val) (node_part subs i width node part j)
  node_holds all i width (Literal value) typed is here layers part j =
      only_holds (assignment subs val) refl width part j _ (λ h. unit_holds (assignment subs val) (signed_by (eqb (bit_at value j) 1) (own i j))
      (signed_lit (assignment subs val) (has_bit value j) (own i j) ∙ by (has_bit value j) (bit_lit (assignment subs val) i 0 j ∙ ap (λ n. has_bit n j) is)))
    where
      by : (b : Bool) → lit_holds (assignment subs val) (own i j) ≡ b → cond b (lit_holds (assignment subs val) (own i j)) (not (lit_holds (assignment subs val) (own i j))) ≡ true
      by true e = e
      by false e = ap not e
  node_holds all i width Variable typed is here layers part j = no_part (assignment subs val)
  node_holds all i width (One op a) typed is here layers part j =
      one_holds (assignment subs val) refl i a (width_at subs a) (val a) (val i) width typed.0 (values.fits a) (reads a) (reads i) op typed.1 is layers part j
  node_holds all i width (Two op a b) typed is here layers part j =
      two_holds (assignment subs val) refl i a (width_at subs a) (val a) (val i) width typed.0 (values.fits a) (reads a) (reads i) b (width_at subs b) (val b) (values.fits b) (reads b) op typed.1 is layers part j
  node_holds all i width (Three op a b c) typed is here layers part j =
      three_holds (assignment subs val) refl i a b c (width_at subs a) (width_at subs b) (val a) (val b) (val c) (val i) width (values.fits a) (reads a) (reads b) (reads c) (reads i) op (width_at subs c) typed is part j
  node_holds all i width (Byte array x) typed is here layers part j = byte_holds subs val values all i array x (record { width = width; node = Byte array x }) here refl part j

  pub part_holds : IsTyped subs → (i part j : ℕ) (o : Option Sub) → slice_get subs i ≡ o → Holds (assignment subs val) (option_and_then (λ s. node_part subs i s.width s.node part j) o)
  part_holds typed i part j None e = no_part (assignment subs val)
  part_holds typed i part j (Some s) e = node_holds typed i s.width s.node (typed.nodes i s e) (values.follows i s e) e (layer_is subs val values i s e) part j

  fact_holds : (i : ℕ) → val i ≡ 1 → clause_holds (assignment subs val) (own i 0 ∷ []) ≡ true
  fact_holds i e = or_left (lit_holds (assignment subs val) (own i 0)) false (bit_lit (assignment subs val) i 0 0 ∙ ap (λ n. has_bit n 0) e)

  facts_hold : (facts : List ℕ) → All (λ i. val i ≡ 1) facts → (n : ℕ) (o : Option ℕ) → slice_get facts n ≡ o → (c : List Lit) → option_map (λ i. own i 0 ∷ []) o ≡ Some c → clause_holds (assignment subs val) c ≡ true
  facts_hold facts h n None e c f = cc
  facts_hold facts h n (Some i) e c f =
      let same : own i 0 ∷ [] ≡ c = cc in
      let at = h n i (slice_get_within facts n i e) in
      let here : val i ≡ 1 = ap val (sym (get_or_from_slice_get facts n i i e)) ∙ at in
      ap (clause_holds (assignment subs val)) (sym same) ∙ fact_holds i here

  -- each clause but the goal's is true
  pub clauses_hold : IsTyped subs → (facts : List ℕ) (goal : ℕ) → All (λ i. val i ≡ 1) facts → has_bit (val goal) 0 ≡ false → AllHold (clause_named subs facts goal) (assignment subs val)
  clauses_hold typed facts goal h g Truth c e = let same : record { on = true; of = TruthBit } ∷ [] ≡ c = cc in ap (clause_holds (assignment subs val)) (sym same)
  clauses_hold typed facts goal h g Goal c e =
      let same : opposite_of (own goal 0) ∷ [] ≡ c = cc in
      ap (clause_holds (assignment subs val)) (sym same)
      ∙ or_left (lit_holds (assignment subs val) (opposite_of (own goal 0))) false (opposite_lit (assignment subs val) (own goal 0) ∙ ap not (bit_lit (assignment subs val) goal 0 0 ∙ g))
  clauses_hold typed facts goal h g (Fact n) c e = facts_hold facts h n (slice_get facts n) refl c e
  clauses_hold typed facts goal h g (Step n) c e = cc
  clauses_hold typed facts goal h g (Axiom i part j row) c e = (part_holds typed i part j (slice_get subs i) refl).at row c e

lone_value : (n w : ℕ) → n < 2 ^ w → w ≡ 1 → (b : Bool) → has_bit n 0 ≡ b → (b ≡ false → ⊥) → n ≡ 1
lone_value n w h e true f never_so =
    let small : n < 2 = subst (λ q. n < 2 ^ q) e h in
    eqb-true n 1 (sym (lone_bit n small) ∙ f)
lone_value n w h e false f never_so = absurd (never_so refl)

pub goal_follows : (p : Problem) → IsProblem p → NoModelTells p
goal_follows p is never_so val values h =
    lone_value (val p.goal) (width_at p.subs p.goal) (values.fits p.goal) is.lone (has_bit (val p.goal) 0) refl
    (λ g. never_so (assignment p.subs val) (clauses_hold p.subs val values is.typed p.facts p.goal h g))

pub axioms_are_true : (p : Problem) → IsProblem p → AxiomsAreTrue p
axioms_are_true p is val values i part j row c e = (part_holds p.subs val values is.typed i part j (slice_get p.subs i) refl).at row c e
