-- Kept nodes: their comparison, and that distinct ones are distinct nodes.
use Rattle.std.proofs.Common.{◌≡◌, ℕ, Bool, true, false, ◌&&◌, eqb, eqb-true, ◌<◌, ◌≤◌, List, [], ◌∷◌, ◌++◌, length, map, get_or, Some, inl, inr, refl, ap, sym, ◌∙◌, arith, rules, true≢false}
use Rattle.std.specs.Prelude.{slice_get, slice_index_or, All, AllPairs, ◌≢◌}
use Rattle.std.specs.Bool.{Decides}
use Rattle.std.specs.List.{IsDistinct, list_any}
use Rattle.std.proofs.lemmas.Bool.{and_from, cases_lt}
use Rattle.std.proofs.lemmas.List.{length-map, get_or-map, get_or_append_left}
use Rattle.std.proofs.lemmas.List.Elements.{All-head, All-tail}
use Rattle.std.proofs.lemmas.Option.{slice_get_within, get_or_from_slice_get, slice_get-get_or}
use Rattle.std.proofs.lemmas.List.Folds.{list_any_at}
use Rattle.std.proofs.lemmas.Map.Made.{AllPairs-from_IsDistinct}
use Rattle.bv_bits.specs.declared.Op.{Op}
use Rattle.bv_bits.specs.contracts.OpPartialEq.TheImpl as op_eq
use Rattle.bv_bits.proofs.EqualityLemmas.{op_eq-true, bits_eq-true}
use Rattle.term_tree.specs.Terms.{Text}
use Rattle.term_tree.proofs.OpLemmas.{op_same}
use Rattle.term_tree.proofs.SameLemmas.{op_itself}
use Rattle.term_arena.specs.declared.node.TermId.{TermId}
use Rattle.term_arena.specs.declared.node.ArrayId.{ArrayId}
use Rattle.term_arena.specs.declared.node.Key.{Key}
use Rattle.term_arena.specs.declared.node.Key.TheVariants.{Lit, Var, One, Two, Three, Sel, Array, Upd, Splice}
use Rattle.term_arena.specs.contracts.node.KeyPartialEq.TheImpl as key_eq
use Rattle.term_arena.specs.Nodes.{var_node, sel_node, array_node}
use Rattle.term_arena.specs.Arena.{name_at, plain, IsNamed}

-- ---- the comparison of kept nodes

both : (p q : Bool) → (p && q) ≡ true → (p ≡ true) × (q ≡ true)
both true q h = (refl, h)
both false q h = absurd (true≢false (sym h))

same_id : (a b : TermId) → a.number ≡ b.number → a ≡ b
same_id a b e = λ i. record { number = e i }

same_array : (a b : ArrayId) → a.number ≡ b.number → a ≡ b
same_array a b e = λ i. record { number = e i }

key_eq-true : (a b : Key) → key_eq.eq-value.it a b ≡ true → a ≡ b
key_eq-true (Lit a) (Lit b) h = ap Lit (bits_eq-true a b (search rules))
key_eq-true (Var x w) (Var y v) h = search (rules, and_from)
key_eq-true (One o a) (One p b) h =
    let q = both (op_eq.eq-value.it o p) (eqb a.number b.number) h in
    let x = op_eq-true o p q.0 in
    let y = same_id a b (eqb-true a.number b.number q.1) in
    cc
key_eq-true (Two o a b) (Two p c d) h =
    let q = both (op_eq.eq-value.it o p) (eqb a.number c.number && eqb b.number d.number) h in
    let r = both (eqb a.number c.number) (eqb b.number d.number) q.1 in
    let x = op_eq-true o p q.0 in
    let y = same_id a c (eqb-true a.number c.number r.0) in
    let z = same_id b d (eqb-true b.number d.number r.1) in
    cc
key_eq-true (Three o a b c) (Three p d e f) h =
    let q = both (op_eq.eq-value.it o p) (eqb a.number d.number && (eqb b.number e.number && eqb c.number f.number)) h in
    let r = both (eqb a.number d.number) (eqb b.number e.number && eqb c.number f.number) q.1 in
    let t = both (eqb b.number e.number) (eqb c.number f.number) r.1 in
    let x = op_eq-true o p q.0 in
    let y = same_id a d (eqb-true a.number d.number r.0) in
    let z = same_id b e (eqb-true b.number e.number t.0) in
    let w = same_id c f (eqb-true c.number f.number t.1) in
    cc
key_eq-true (Sel x i) (Sel y j) h = search (rules, and_from)
key_eq-true (Array x) (Array y) h = search (rules, and_from)
key_eq-true (Upd a b c) (Upd d e f) h = search (rules, and_from)
key_eq-true (Splice a b c) (Splice d e f) h = search (rules, and_from)
key_eq-true a b h = absurd (true≢false (sym h))

op_refl : (o : Op) → op_eq.eq-value.it o o ≡ true
op_refl o = op_same o o ∙ op_itself o

key_eq-refl : (a : Key) → key_eq.eq-value.it a a ≡ true
key_eq-refl (Lit b) = search rules
key_eq-refl (Var x w) = search rules
key_eq-refl (One o a) = search (rules, op_refl)
key_eq-refl (Two o a b) = search (rules, op_refl)
key_eq-refl (Three o a b c) = search (rules, op_refl)
key_eq-refl (Sel x i) = search rules
key_eq-refl (Array x) = search rules
key_eq-refl (Upd a b c) = search rules
key_eq-refl (Splice a b c) = search rules

pub key_decides : (a b : Key) → Decides (key_eq.eq-value.it a b) (a ≡ b)
key_decides a b = (key_eq-true a b, λ e. ap (λ x. key_eq.eq-value.it a x) (sym e) ∙ key_eq-refl a)

pub distinct_keys : (keys : List Key) → IsDistinct key_eq.eq-value.it keys → AllPairs (λ x y. x ≢ y) keys
distinct_keys keys h = AllPairs-from_IsDistinct key_decides keys h

any_here : (key : Key) (keys : List Key) (i : ℕ) → slice_get keys i ≡ Some key → list_any (key_eq.eq-value.it key) keys ≡ true
any_here key keys i e =
    let at : get_or keys i key ≡ key = get_or_from_slice_get keys i key key e in
    list_any_at (key_eq.eq-value.it key) keys i key (slice_get_within keys i key e) (ap (key_eq.eq-value.it key) at ∙ key_eq-refl key)

-- a node that no kept one equals isn't kept
pub not_kept : (key : Key) (keys : List Key) → list_any (key_eq.eq-value.it key) keys ≡ false → (i : ℕ) × (slice_get keys i ≡ Some key) → ⊥
not_kept key keys h e = true≢false (sym (any_here key keys e.0 e.1) ∙ h)

-- ---- kept nodes as nodes

-- each text stands at one place
name_once : (names : List Text) (i j : ℕ) → AllPairs (λ x y. x ≢ y) names → i < length names → j < length names → name_at names i ≡ name_at names j → i ≡ j
name_once names i j all hi hj e =
    elim (cases_lt i j) [
      | inl lt ↦ absurd (all i j [] lt hj e)
      | inr ge ↦ elim (cases_lt j i) [
        | inl lt ↦ absurd (all j i [] lt hi (sym e))
        | inr ge' ↦ omega arith
      ]
    ]

module _ (names : List Text) (all : AllPairs (λ x y. x ≢ y) names) where
  plain_once : (k l : Key) → IsNamed (length names) k → IsNamed (length names) l → plain names k ≡ plain names l → k ≡ l
  plain_once (Lit a) (Lit b) h g e = let x : a ≡ b = cc in ap Lit x
  plain_once (Var x w) (Var y v) h g e =
      let p : name_at names x ≡ name_at names y = cc in
      let q : w ≡ v = cc in
      let r = name_once names x y all h g p in
      cc
  plain_once (One o a) (One p b) h g e =
      let x : o ≡ p = cc in
      let y : a.number ≡ b.number = cc in
      let z = same_id a b y in
      cc
  plain_once (Two o a b) (Two p c d) h g e =
      let x : o ≡ p = cc in
      let y : a.number ≡ c.number = cc in
      let z : b.number ≡ d.number = cc in
      let f = same_id a c y in
      let k = same_id b d z in
      cc
  plain_once (Three o a b c) (Three p d t u) h g e =
      let x : o ≡ p = cc in
      let y : a.number ≡ d.number = cc in
      let z : b.number ≡ t.number = cc in
      let w : c.number ≡ u.number = cc in
      let f = same_id a d y in
      let k = same_id b t z in
      let m = same_id c u w in
      cc
  plain_once (Sel x i) (Sel y j) h g e =
      let p : name_at names x ≡ name_at names y = cc in
      let q : i.number ≡ j.number = cc in
      let r = name_once names x y all h g p in
      let f = same_id i j q in
      cc
  plain_once (Array x) (Array y) h g e =
      let p : name_at names x ≡ name_at names y = cc in
      ap Array (name_once names x y all h g p)
  plain_once (Upd a b c) (Upd d t u) h g e =
      let x : a.number ≡ d.number = cc in
      let y : b.number ≡ t.number = cc in
      let z : c.number ≡ u.number = cc in
      let f = same_array a d x in
      let k = same_id b t y in
      let m = same_id c u z in
      cc
  plain_once (Splice a b c) (Splice d t u) h g e =
      let x : a.number ≡ d.number = cc in
      let y : b.number ≡ t.number = cc in
      let z : c.number ≡ u.number = cc in
      let f = same_array a d x in
      let k = same_array b t y in
      let m = same_id c u z in
      cc
  plain_once k l h g e = absurd (let x : ⊥ = cc in x)

  none : Key
  none = Lit (record { width = 0; value = 0 })

  -- distinct kept nodes are distinct nodes
  pub nodes_once : (keys : List Key) → All (IsNamed (length names)) keys → AllPairs (λ x y. x ≢ y) keys → AllPairs (λ m n. m ≢ n) (map (plain names) keys)
  nodes_once keys h once i j d lt lj e =
      let k : j < length keys = omega (arith, length-map keys (plain names)) in
      let l : i < length keys = omega arith in
      once i j none lt k
      (plain_once (slice_index_or keys i none) (slice_index_or keys j none) (h i none l) (h j none k)
      (sym (get_or-map (plain names) keys i none d l) ∙ e ∙ get_or-map (plain names) keys j none d k))

  -- a node that is there is kept
  pub kept_node : (keys : List Key) (key : Key) (i : ℕ) → All (IsNamed (length names)) keys → IsNamed (length names) key → slice_get (map (plain names) keys) i ≡ Some (plain names key) → slice_get keys i ≡ Some key
  kept_node keys key i h g e =
      let long : i < length (map (plain names) keys) = slice_get_within (map (plain names) keys) i (plain names key) e in
      let lt : i < length keys = omega (arith, length-map keys (plain names)) in
      let same : plain names (get_or keys i key) ≡ plain names key = sym (get_or-map (plain names) keys i key (plain names key) lt) ∙ get_or_from_slice_get (map (plain names) keys) i (plain names key) (plain names key) e in
      slice_get-get_or keys i key lt ∙ ap Some (plain_once (get_or keys i key) key (h i key lt) g same)

-- ---- more names

pub name_grown : (names more : List Text) (x : ℕ) → x < length names → name_at (names ++ more) x ≡ name_at names x
name_grown names more x h = get_or_append_left names more [] x h

-- a node keeps its name
pub plain_grown : (names more : List Text) (k : Key) → IsNamed (length names) k → plain (names ++ more) k ≡ plain names k
plain_grown names more (Var x w) h = ap (λ (n : Text). var_node n w) (name_grown names more x h)
plain_grown names more (Sel x i) h = ap (λ (n : Text). sel_node n i.number) (name_grown names more x h)
plain_grown names more (Array x) h = ap array_node (name_grown names more x h)
plain_grown names more k h = refl

pub nodes_grown : (names more : List Text) (keys : List Key) → All (IsNamed (length names)) keys → map (plain (names ++ more)) keys ≡ map (plain names) keys
nodes_grown names more [] h = refl
nodes_grown names more (k ∷ keys) h =
    let e = plain_grown names more k (All-head (IsNamed (length names)) k keys h) in
    let f = nodes_grown names more keys (All-tail (IsNamed (length names)) k keys h) in
    cc

-- it is named still
pub named_grown : (m n : ℕ) (k : Key) → m ≤ n → IsNamed m k → IsNamed n k
named_grown m n (Var x w) le h = omega arith
named_grown m n (Sel x i) le h = omega arith
named_grown m n (Array x) le h = omega arith
named_grown m n (Lit b) le h = tt
named_grown m n (One o a) le h = tt
named_grown m n (Two o a b) le h = tt
named_grown m n (Three o a b c) le h = tt
named_grown m n (Upd a b c) le h = tt
named_grown m n (Splice a b c) le h = tt
