-- The numbers of subterms are those of their values.
use Rattle.std.proofs.Common.{◌≡◌, ℕ, zero, suc, ◌+◌, ◌^◌, ◌<◌, ◌≤◌, Bool, true, false, List, [], ◌∷◌, ◌++◌, map, All, IsSome, Option, Some, None, refl, ap, sym, ◌∙◌, subst, arith}
use Rattle.std.specs.Prelude.{⊤, slice_get, option_map, unwrap_or, bytes_eq}
use Rattle.std.proofs.lemmas.Nat.{pow_pos}
use Rattle.std.proofs.lemmas.List.Elements.{All-nil, All-cons, All-head, All-tail, All-append, All-map}
use Rattle.bv_bits.specs.declared.Bits.{Bits}
use Rattle.bv_bits.specs.Bits.{IsBits, IsWidth, result_width_of, number_of}
use Rattle.bv_bits.specs.BitLaws.{has_bit}
use Rattle.clause_core.specs.declared.BitName.{BitName}
use Rattle.clause_core.specs.declared.BitName.TheVariants.{Truth, Bit}
use Rattle.term_tree.specs.Terms.{Text, Tree, lit, var, one, two, three, sel, IsTyped, width_of, same_tree}
use Rattle.term_tree.specs.Values.{Values, IsValues, value}
use Rattle.term_tree.proofs.FitLemmas.{value_fits}
use Rattle.term_tree.proofs.WidthLemmas.{width_is}
use Rattle.term_tree.proofs.SameLemmas.{bits_equal, same_text, text_itself, tree_itself}
use Rattle.term_copy.specs.Parts.{all_parts, is_among, first_ones}
use Rattle.axiom_rules.specs.declared.node.Node.{Node}
use Rattle.axiom_rules.specs.declared.node.Node.TheVariants.{Literal, Variable, One, Two, Three, Byte}
use Rattle.axiom_rules.specs.declared.node.Sub.{Sub}
use Rattle.axiom_rules.specs.Axioms.{Problem, width_at}
use Rattle.axiom_rules.specs.Truth.{bits_at, IsTypedNode, IsTyped as AreTypedSubs, IsNumberOf, AreValues, assignment}
use Rattle.axiom_rules.specs.Laws.{IsProblem}
use Rattle.axiom_rules.proofs.Nodes as rules
use Rattle.axiom_trees.specs.Numbered.{place_of, number_in, is_byte_of, array_in, node_in, sub_in, parts_of, problem_of}
use Rattle.axiom_trees.specs.Listed.{PartsIn, IsListed}
use Rattle.axiom_trees.specs.Laws.{AreAsked, AreBits, HasBits, Follows, GoalFollows}
use Rattle.axiom_trees.proofs.PlaceLemmas.{Found, found, number_at, among_at}
use Rattle.axiom_trees.proofs.ListedLemmas.{none_listed, AllAfter, after_all}

-- ---- options

some_of : {A : Type 0} (o : Option A) (d : A) → IsSome o → o ≡ Some (unwrap_or o d)
some_of None d h = cc
some_of (Some x) d h = refl

slice_get_mapped : {A B : Type 0} (f : A → B) (xs : List A) (i : ℕ) → slice_get (map f xs) i ≡ option_map f (slice_get xs i)
slice_get_mapped f [] i = refl
slice_get_mapped f (x ∷ xs) zero = refl
slice_get_mapped f (x ∷ xs) (suc i) = slice_get_mapped f xs i

-- ---- a list of subterms

-- the number of a subterm, and 0 where there is none
abbrev pub number_at_place : Values → Option Tree → ℕ
number_at_place v None = 0
number_at_place v (Some t) = (value v t).value

-- a byte of an array, by its subterm
record IsByte (ts : List Tree) (t : Tree) (array x : ℕ) : Type 0 where
  f : Text
  i : Tree
  is : t ≡ sel f i
  array_is : array ≡ array_in ts f
  index_is : x ≡ number_in ts i

is_byte : (ts : List Tree) (t : Tree) (array x : ℕ) → node_in ts t ≡ Byte array x → IsByte ts t array x
is_byte ts (lit b) array x h = cc
is_byte ts (var y w) array x h = cc
is_byte ts (one op a) array x h = cc
is_byte ts (two op a b) array x h = cc
is_byte ts (three op a b c) array x h = cc
is_byte ts (sel f i) array x h = record { f = f; i = i; is = refl; array_is = cc; index_is = cc }

-- one byte has one array
one_array : (f g : Text) (t : Tree) → is_byte_of f t ≡ true → is_byte_of g t ≡ true → f ≡ g
one_array f g (sel h i) p q = same_text f h p ∙ sym (same_text g h q)
one_array f g (lit b) p q = cc
one_array f g (var x w) p q = cc
one_array f g (one op a) p q = cc
one_array f g (two op a b) p q = cc
one_array f g (three op a b c) p q = cc

module _ (ts : List Tree) (listed : IsListed ts) where
  abbrev pub subs : List Sub
  subs = map (sub_in ts) ts

  abbrev pub width_by : Option Tree → ℕ
  width_by None = 0
  width_by (Some t) = width_of t

  width_here : (i : ℕ) → width_at subs i ≡ width_by (slice_get ts i)
  width_here i = ap (λ (o : Option Sub). elim o [ None ↦ 0 | Some s ↦ s.width ]) (slice_get_mapped (sub_in ts) ts i) ∙ by (slice_get ts i)
    where
      by : (o : Option Tree) → elim (option_map (sub_in ts) o) [ None ↦ 0 | Some s ↦ s.width ] ≡ width_by o
      by None = refl
      by (Some t) = refl

  pub width_of_number : (t : Tree) → is_among t ts ≡ true → width_at subs (number_in ts t) ≡ width_of t
  width_of_number t h = width_here (number_in ts t) ∙ ap width_by (number_at ts t h)

  typed_there : (t : Tree) → is_among t ts ≡ true → IsTyped t
  typed_there t h = listed.typed (number_in ts t) t (number_at ts t h)

  -- the term of a subterm
  record At (i : ℕ) (s : Sub) : Type 0 where
    it : Tree
    at : slice_get ts i ≡ Some it
    is : s ≡ sub_in ts it

  at_place : (i : ℕ) (s : Sub) → slice_get subs i ≡ Some s → At i s
  at_place i s h = by (slice_get ts i) refl (sym (slice_get_mapped (sub_in ts) ts i) ∙ h)
    where
      by : (o : Option Tree) → slice_get ts i ≡ o → option_map (sub_in ts) o ≡ Some s → At i s
      by None e f = cc
      by (Some t) e f = record { it = t; at = e; is = cc }

  positive : (t : Tree) → is_among t ts ≡ true → 0 < width_at subs (number_in ts t)
  positive t h = subst (λ (w : ℕ). 0 < w) (sym (width_of_number t h)) (width_is t (typed_there t h)).positive

  node_typed : (t : Tree) → IsTyped t → PartsIn ts t → IsTypedNode subs (width_of t) (node_in ts t)
  node_typed (lit b) typed parts = typed.fits
  node_typed (var x w) typed parts = tt
  node_typed (one op a) typed parts =
      (positive a parts, ap (λ (w : ℕ). result_width_of op (w ∷ [])) (width_of_number a parts) ∙ some_of (result_width_of op (width_of a ∷ [])) 0 typed.0)
  node_typed (two op a b) typed parts = (
    positive a parts.0,
    ap (λ (w : ℕ). result_width_of op (w ∷ width_at subs (number_in ts b) ∷ [])) (width_of_number a parts.0)
        ∙ ap (λ (w : ℕ). result_width_of op (width_of a ∷ w ∷ [])) (width_of_number b parts.1)
        ∙ some_of (result_width_of op (width_of a ∷ width_of b ∷ [])) 0 typed.0,
  )
  node_typed (three op a b c) typed parts =
      ap (λ (w : ℕ). result_width_of op (w ∷ width_at subs (number_in ts b) ∷ width_at subs (number_in ts c) ∷ [])) (width_of_number a parts.0)
      ∙ ap (λ (w : ℕ). result_width_of op (width_of a ∷ w ∷ width_at subs (number_in ts c) ∷ [])) (width_of_number b parts.1)
      ∙ ap (λ (w : ℕ). result_width_of op (width_of a ∷ width_of b ∷ w ∷ [])) (width_of_number c parts.2)
      ∙ some_of (result_width_of op (width_of a ∷ width_of b ∷ width_of c ∷ [])) 0 typed.0
  node_typed (sel f i) typed parts = width_of_number i parts ∙ typed.0

  pub subs_typed : AreTypedSubs subs
  subs_typed = record {
    nodes = λ i s h.
        let p = at_place i s h in
        subst (λ (r : Sub). IsTypedNode subs r.width r.node) (sym p.is) (node_typed p.it (listed.typed i p.it p.at) (listed.parts i p.it p.at));
  }

  module _ (v : Values) (fine : IsValues v) where
    abbrev pub val : ℕ → ℕ
    val i = number_at_place v (slice_get ts i)

    pub val_at : (i : ℕ) (t : Tree) → slice_get ts i ≡ Some t → val i ≡ (value v t).value
    val_at i t h = ap (number_at_place v) h

    pub value_of_number : (t : Tree) → is_among t ts ≡ true → val (number_in ts t) ≡ (value v t).value
    value_of_number t h = val_at (number_in ts t) t (number_at ts t h)

    bits_here : (t : Tree) → is_among t ts ≡ true → bits_at subs val (number_in ts t) ≡ value v t
    bits_here t h =
        bits_equal (bits_at subs val (number_in ts t)) (value v t)
        (width_of_number t h ∙ sym (value_fits v t fine (typed_there t h)).1) (value_of_number t h)

    fits : (i : ℕ) → val i < 2 ^ width_at subs i
    fits i = subst (λ (w : ℕ). val i < 2 ^ w) (sym (width_here i)) (by (slice_get ts i) refl)
      where
        by : (o : Option Tree) → slice_get ts i ≡ o → number_at_place v o < 2 ^ width_by o
        by None e = pow_pos 0
        by (Some t) e =
            let f = value_fits v t fine (listed.typed i t e) in
            subst (λ (w : ℕ). (value v t).value < 2 ^ w) f.1 f.0.fits

    node_number : (t : Tree) → PartsIn ts t → IsNumberOf subs val (node_in ts t) (value v t).value
    node_number (lit b) parts = refl
    node_number (var x w) parts = tt
    node_number (one op a) parts = ap (λ (b : Bits). number_of op (b ∷ [])) (sym (bits_here a parts))
    node_number (two op a b) parts =
        ap (λ (x : Bits). number_of op (x ∷ value v b ∷ [])) (sym (bits_here a parts.0))
        ∙ ap (λ (x : Bits). number_of op (bits_at subs val (number_in ts a) ∷ x ∷ [])) (sym (bits_here b parts.1))
    node_number (three op a b c) parts =
        ap (λ (x : Bits). number_of op (x ∷ value v b ∷ value v c ∷ [])) (sym (bits_here a parts.0))
        ∙ ap (λ (x : Bits). number_of op (bits_at subs val (number_in ts a) ∷ x ∷ value v c ∷ [])) (sym (bits_here b parts.1))
        ∙ ap (λ (x : Bits). number_of op (bits_at subs val (number_in ts a) ∷ bits_at subs val (number_in ts b) ∷ x ∷ [])) (sym (bits_here c parts.2))
    node_number (sel f i) parts = tt

    bytes : (p q array x y : ℕ) (s t : Sub) → slice_get subs p ≡ Some s → slice_get subs q ≡ Some t → s.node ≡ Byte array x → t.node ≡ Byte array y → val x ≡ val y → val p ≡ val q
    bytes p q array x y s t ps qs pn qn same =
        let a = at_place p s ps in
        let b = at_place q t qs in
        let m = is_byte ts a.it array x (sym (ap (λ (r : Sub). r.node) a.is) ∙ pn) in
        let n = is_byte ts b.it array y (sym (ap (λ (r : Sub). r.node) b.is) ∙ qn) in
        let p_at : slice_get ts p ≡ Some (sel m.f m.i) = a.at ∙ ap Some m.is in
        let q_at : slice_get ts q ≡ Some (sel n.f n.i) = b.at ∙ ap Some n.is in
        let c = found (is_byte_of m.f) ts (among_at (is_byte_of m.f) ts p (sel m.f m.i) p_at (text_itself m.f)) in
        let d = found (is_byte_of n.f) ts (among_at (is_byte_of n.f) ts q (sel n.f n.i) q_at (text_itself n.f)) in
        let place : array_in ts m.f ≡ array_in ts n.f = sym m.array_is ∙ n.array_is in
        let both : Some c.it ≡ Some d.it = sym c.at ∙ ap (slice_get ts) place ∙ d.at in
        let one_it : c.it ≡ d.it = cc in
        let names : m.f ≡ n.f = one_array m.f n.f d.it (ap (is_byte_of m.f) (sym one_it) ∙ c.passes) d.passes in
        let index : (value v m.i).value ≡ (value v n.i).value =
        sym (value_of_number m.i (subst (PartsIn ts) m.is (listed.parts p a.it a.at)))
        ∙ ap val (sym m.index_is) ∙ same ∙ ap val n.index_is
        ∙ value_of_number n.i (subst (PartsIn ts) n.is (listed.parts q b.it b.at)) in
        val_at p (sel m.f m.i) p_at
        ∙ ap (λ (k : ℕ). v.byte_of m.f k) index
        ∙ ap (λ (f : Text). v.byte_of f (value v n.i).value) names
        ∙ sym (val_at q (sel n.f n.i) q_at)

    pub are_values : AreValues subs val
    are_values = record {
      fits = fits;
      follows = λ i s h.
          let p = at_place i s h in
          subst (λ (r : Sub). IsNumberOf subs val r.node (val i)) (sym p.is)
          (subst (λ (n : ℕ). IsNumberOf subs val (node_in ts p.it) n) (sym (val_at i p.it p.at)) (node_number p.it (listed.parts i p.it p.at)));
      bytes = bytes;
    }

pub narrow : (ts : List Tree) → IsListed ts → (i : ℕ) → width_at (map (sub_in ts) ts) i ≤ 128
narrow ts listed i = subst (λ (o : Option Sub). elim o [ None ↦ 0 | Some s ↦ s.width ] ≤ 128) (sym (slice_get_mapped (sub_in ts) ts i)) (by (slice_get ts i) refl)
  where
    by : (o : Option Tree) → slice_get ts i ≡ o → elim (option_map (sub_in ts) o) [ None ↦ 0 | Some s ↦ s.width ] ≤ 128
    by None e = omega arith
    by (Some t) e = (width_is t (listed.typed i t e)).at_most

-- ---- facts and a goal

all_front : (P : Tree → Type 0) (xs ys : List Tree) → All P (xs ++ ys) → All P xs
all_front P [] ys h = All-nil P
all_front P (x ∷ xs) ys h = All-cons P x xs (All-head P x (xs ++ ys) h) (all_front P xs ys (All-tail P x (xs ++ ys) h))

all_behind : (P : Tree → Type 0) (xs ys : List Tree) → All P (xs ++ ys) → All P ys
all_behind P [] ys h = h
all_behind P (x ∷ xs) ys h = all_behind P xs ys (All-tail P x (xs ++ ys) h)

-- their subterms are listed
pub all_listed : (facts : List Tree) (goal : Tree) → All IsTyped facts → IsTyped goal → AllAfter [] (parts_of facts goal) (facts ++ goal ∷ [])
all_listed facts goal facts_typed goal_typed =
    after_all (facts ++ goal ∷ []) (All-append IsTyped facts (goal ∷ []) facts_typed (All-cons IsTyped goal [] goal_typed (All-nil IsTyped))) [] none_listed

module _ (facts : List Tree) (goal : Tree) (asked : AreAsked facts goal) where
  ts : List Tree
  ts = parts_of facts goal

  all : AllAfter [] (parts_of facts goal) (facts ++ goal ∷ [])
  all = all_listed facts goal asked.facts_typed asked.goal_typed

  goal_there : is_among goal (parts_of facts goal) ≡ true
  goal_there = All-head (λ t. is_among t (parts_of facts goal) ≡ true) goal [] (all_behind (λ t. is_among t (parts_of facts goal) ≡ true) facts (goal ∷ []) all.there)

  facts_there : All (λ t. is_among t (parts_of facts goal) ≡ true) facts
  facts_there = all_front (λ t. is_among t (parts_of facts goal) ≡ true) facts (goal ∷ []) all.there

  pub is_problem : IsProblem (problem_of facts goal)
  is_problem = record {
    typed = subs_typed (parts_of facts goal) all.listed;
    small = narrow (parts_of facts goal) all.listed;
    lone = width_of_number (parts_of facts goal) all.listed goal goal_there ∙ asked.lone;
  }

  pub has_bits : HasBits facts goal
  has_bits v fine =
      let bits = assignment (map (sub_in (parts_of facts goal)) (parts_of facts goal)) (λ i. number_at_place v (slice_get (parts_of facts goal) i)) in (
        bits,
        record {
          truth = refl;
          own = λ i t h j. ap (λ (n : ℕ). has_bit n j) (val_at (parts_of facts goal) all.listed v fine i t h);
          axioms = rules.axioms_are_true (problem_of facts goal) is_problem (λ i. number_at_place v (slice_get (parts_of facts goal) i)) (are_values (parts_of facts goal) all.listed v fine);
        },
      )

  pub goal_follows : GoalFollows facts goal
  goal_follows never_so v fine ones =
      let val = λ (i : ℕ). number_at_place v (slice_get (parts_of facts goal) i) in
      let one_each : All (λ i. val i ≡ 1) (map (number_in (parts_of facts goal)) facts) =
      All-map (λ (i : ℕ). val i ≡ 1) (number_in (parts_of facts goal)) facts
      (λ k d h. value_of_number (parts_of facts goal) all.listed v fine _ (facts_there k d h) ∙ ones k d h) in
      sym (value_of_number (parts_of facts goal) all.listed v fine goal goal_there)
      ∙ rules.goal_follows (problem_of facts goal) is_problem never_so val (are_values (parts_of facts goal) all.listed v fine) one_each
