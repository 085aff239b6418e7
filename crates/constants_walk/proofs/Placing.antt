-- Placed values: one after the other, and what holds of them.
use Rattle.std.proofs.Common.{◌≡◌, ◌≢◌, ◌<◌, ◌≤◌, ℕ, suc, ◌+◌, Bool, true, false, not, ◌&&◌, ◌||◌, ◌==◌, List, [], ◌∷◌, ◌++◌, map, length, drop, get_or, drop-cons, All, Option, Some, None, slice_get, refl, subst, sym, ap, ◌∙◌, append_assoc, append-nil, arith}
use Rattle.std.specs.List.{AllPairs, position_from}
use Rattle.std.proofs.lemmas.Bool.{and_parts, or_parts}
use Rattle.std.proofs.lemmas.List.{drop_all}
use Rattle.std.proofs.lemmas.Bool.Decides.{nat_tests}
use Rattle.std.proofs.lemmas.Option.{cond_some, slice_get_within}
use Rattle.std.proofs.lemmas.List.Elements.{All-nil, All-cons, All-head, All-tail}
use Rattle.std.proofs.lemmas.List.Folds.{list_any-append}
use Rattle.std.proofs.lemmas.List.Kept.{AllPairs-cons}
use Rattle.bv_bits.specs.declared.Bits.{Bits}
use Rattle.bv_bits.specs.Bits.{IsBits}
use Rattle.lex_core.specs.declared.name.RegDecl.{RegDecl}
use Rattle.proof_form.specs.declared.form.NamedValue.{NamedValue}
use Rattle.constants_walk.specs.declared.register_places.PlacedValue.{PlacedValue}
use Rattle.read_rules.specs.Binding.{◌>>=◌}
use Rattle.proof_form.specs.ProofForm.{AreBits}
use Rattle.constants_walk.specs.RegisterPlaces.{is_named, place, place_each, places, has, are_distinct, if_distinct, pair_of, IsPlaced, ArePlaced}
use Rattle.std.proofs.lemmas.Option.{same_Some}
use Rattle.read_rules.proofs.SmallLemmas.{bind_some, not_true}
use Rattle.machine_run.specs.Program.{width_in}
use Rattle.constants_walk.proofs.EntryState.{IsSet, numbers_differ}

or_true : (b : Bool) → (b || true) ≡ true
or_true true = refl
or_true false = refl

and_false : (b : Bool) → (b && false) ≡ false
and_false true = refl
and_false false = refl

-- ---- one after the other

-- the next one to be placed, and those behind it
pub at_front : (rs : List RegDecl) (pc : ℕ) (given : List NamedValue) (i : ℕ) (g : NamedValue) (vs : List PlacedValue) (all : Option (List PlacedValue)) → i < length given → g ≡ get_or given i g
    → (place_each rs pc (drop i given) >>= λ rest. if_distinct (vs ++ rest)) ≡ all → (place_each rs pc (g ∷ drop (i + 1) given) >>= λ rest. if_distinct (vs ++ rest)) ≡ all
at_front rs pc given i g vs all l is h =
    let next : suc i ≡ i + 1 = omega arith in
    let e : drop i given ≡ g ∷ drop (i + 1) given = drop-cons given i g l ∙ ap (λ x. x ∷ drop (suc i) given) (sym is) ∙ ap (λ n. g ∷ drop n given) next in
    subst (λ xs. (place_each rs pc xs >>= λ rest. if_distinct (vs ++ rest)) ≡ all) e h

-- none of a list is placed where the first isn't
pub none_placed : (rs : List RegDecl) (pc : ℕ) (g : NamedValue) (gs : List NamedValue) (vs : List PlacedValue) (all : Option (List PlacedValue)) → place rs pc g ≡ None
    → (place_each rs pc (g ∷ gs) >>= λ rest. if_distinct (vs ++ rest)) ≡ all → all ≡ None
unfolding place_each
none_placed rs pc g gs vs all none h = sym h ∙ rw none refl

-- a value at the front whose register comes again
again : (w : PlacedValue) (vs rest : List PlacedValue) (v : PlacedValue) (same : Bool) → (w.register == v.register) ≡ same → (same || has vs v.register) ≡ true
    → (has vs v.register ≡ true → are_distinct (vs ++ v ∷ rest) ≡ false) → (not (has (vs ++ v ∷ rest) w.register) && are_distinct (vs ++ v ∷ rest)) ≡ false
again w vs rest v true e h next =
    let one : (v.register == w.register) ≡ true = grind (arith, nat_tests, e) in
    rw (list_any-append (λ x. x.register == w.register) vs (v ∷ rest), one, or_true (has vs w.register)) refl
again w vs rest v false e h next = rw (next h, and_false (not (has (vs ++ v ∷ rest) w.register))) refl

-- a list with a register twice
twice : (vs rest : List PlacedValue) (v : PlacedValue) → has vs v.register ≡ true → are_distinct (vs ++ v ∷ rest) ≡ false
unfolding are_distinct
twice [] rest v h = absurd cc
twice (w ∷ vs) rest v h = again w vs rest v (w.register == v.register) refl h (twice vs rest v)

-- no list is placed in which a register comes twice
pub twice_placed : (rs : List RegDecl) (pc : ℕ) (g : NamedValue) (gs : List NamedValue) (vs : List PlacedValue) (v : PlacedValue) (all : Option (List PlacedValue)) → place rs pc g ≡ Some v
    → has vs v.register ≡ true → (place_each rs pc (g ∷ gs) >>= λ rest. if_distinct (vs ++ rest)) ≡ all → all ≡ None
unfolding place_each
twice_placed rs pc g gs vs v all one before h =
    sym h ∙ rw one (ended (place_each rs pc gs) vs v before)
  where
    ended : (o : Option (List PlacedValue)) (vs : List PlacedValue) (v : PlacedValue) → has vs v.register ≡ true → ((o >>= λ others. Some (v ∷ others)) >>= λ rest. if_distinct (vs ++ rest)) ≡ None
    ended None vs v before = refl
    ended (Some rest) vs v before = rw (twice vs rest v before) refl

-- a value more, whose register is none of those before it
pub more_placed : (rs : List RegDecl) (pc : ℕ) (g : NamedValue) (gs : List NamedValue) (vs new : List PlacedValue) (v : PlacedValue) (all : Option (List PlacedValue)) → place rs pc g ≡ Some v
    → new ≡ vs ++ v ∷ [] → (place_each rs pc (g ∷ gs) >>= λ rest. if_distinct (vs ++ rest)) ≡ all → (place_each rs pc gs >>= λ rest. if_distinct (new ++ rest)) ≡ all
unfolding place_each
more_placed rs pc g gs vs new v all one more h =
    moved (place_each rs pc gs) ∙ (let e : (place_each rs pc (g ∷ gs) >>= λ rest. if_distinct (vs ++ rest)) ≡ ((place_each rs pc gs >>= λ others. Some (v ∷ others)) >>= λ rest. if_distinct (vs ++ rest)) = rw one refl in sym e) ∙ h
  where
    moved : (o : Option (List PlacedValue)) → (o >>= λ rest. if_distinct (new ++ rest)) ≡ ((o >>= λ others. Some (v ∷ others)) >>= λ rest. if_distinct (vs ++ rest))
    moved None = refl
    moved (Some rest) = ap if_distinct (ap (λ x. x ++ rest) more ∙ append_assoc vs (v ∷ []) rest)

-- a register at the front that is another than the next one
apart : (w : PlacedValue) (vs : List PlacedValue) (v : PlacedValue) (a b c : Bool) → (w.register == v.register) ≡ a → has vs w.register ≡ b → are_distinct vs ≡ c → (not b && c) ≡ true → (a || has vs v.register) ≡ false
    → (not (has (vs ++ v ∷ []) w.register)) ≡ true
apart w vs v true b c e f d h k = absurd cc
apart w vs v false true c e f d h k = absurd cc
apart w vs v false false c e f d h k =
    let one : (v.register == w.register) ≡ false = grind (arith, nat_tests, e) in
    rw (list_any-append (λ x. x.register == w.register) vs (v ∷ []), f, one) refl

-- a register that is none of those before it
pub distinct_push : (vs : List PlacedValue) (v : PlacedValue) → are_distinct vs ≡ true → has vs v.register ≡ false → are_distinct (vs ++ v ∷ []) ≡ true
unfolding are_distinct
distinct_push [] v d h = refl
distinct_push (w ∷ vs) v d h =
    let parts = and_parts (not (has vs w.register)) (are_distinct vs) d in
    rw (apart w vs v (w.register == v.register) (has vs w.register) (are_distinct vs) refl refl refl d h, distinct_push vs v parts.1 ((or_parts (w.register == v.register) (has vs v.register) h).1)) refl

-- all are placed
pub all_placed : (rs : List RegDecl) (pc : ℕ) (vs : List PlacedValue) (all : Option (List PlacedValue)) → are_distinct vs ≡ true
    → (place_each rs pc [] >>= λ rest. if_distinct (vs ++ rest)) ≡ all → all ≡ Some vs
unfolding place_each
all_placed rs pc vs all d h = sym h ∙ ap if_distinct (append-nil vs) ∙ rw d refl

-- ---- what holds of placed values

-- a value that is placed
place_is : (rs : List RegDecl) (pc : ℕ) (v : NamedValue) (w : PlacedValue) → place rs pc v ≡ Some w → IsSet (map width_in rs) pc (pair_of w) × (v.value ≡ w.value)
unfolding place
place_is rs pc v w h =
    let number = bind_some (position_from (is_named v.register) 0 rs) _ w h in
    let width = bind_some (slice_get (map width_in rs) number.0) _ w number.2 in
    let test = cond_some (not (number.0 == pc) && width.0 == v.value.width) _ w width.2 in
    let parts = and_parts (not (number.0 == pc)) (width.0 == v.value.width) test.0 in
    let other : number.0 ≢ pc = grind (arith, nat_tests, parts.0) in
    let wide : width.0 ≡ v.value.width = grind (arith, nat_tests, parts.1) in
    subst (λ x. IsSet (map width_in rs) pc (pair_of x) × (v.value ≡ x.value)) test.1
    (record { wide = width.1 ∙ ap Some wide; other = other }, refl)

place_holds : (rs : List RegDecl) (pc : ℕ) (v : NamedValue) (w : PlacedValue) → IsBits v.value → place rs pc v ≡ Some w → IsPlaced (map width_in rs) pc (pair_of w)
place_holds rs pc v w bits h =
    let is = place_is rs pc v w h in
    record {
      there = slice_get_within (map width_in rs) w.register w.value.width is.0.wide;
      other = is.0.other;
      wide = is.0.wide;
      bits = subst IsBits is.1 bits;
    }

-- what holds of each that is placed
each_is : (rs : List RegDecl) (pc : ℕ) (P : NamedValue → Type 0) (Q : ℕ × Bits → Type 0) → ((v : NamedValue) (w : PlacedValue) → P v → place rs pc v ≡ Some w → Q (pair_of w))
    → (vs : List NamedValue) (ws : List PlacedValue) → All P vs → place_each rs pc vs ≡ Some ws → All Q (map pair_of ws)
unfolding place_each
each_is rs pc P Q go [] ws all h = subst (λ x. All Q (map pair_of x)) (same_Some [] ws h) (All-nil Q)
each_is rs pc P Q go (v ∷ vs) ws all h =
    let first = bind_some (place rs pc v) _ ws h in
    let others = bind_some (place_each rs pc vs) _ ws first.2 in
    subst (λ x. All Q (map pair_of x)) (same_Some (first.0 ∷ others.0) ws others.2)
    (All-cons Q (pair_of first.0) (map pair_of others.0) (go v first.0 (All-head P v vs all) first.1)
    (each_is rs pc P Q go vs others.0 (All-tail P v vs all) others.1))

-- none of the values is that of this register
has_none : (vs : List PlacedValue) (w : PlacedValue) → has vs w.register ≡ false → All (λ v. w.register ≢ v.0) (map pair_of vs)
has_none [] w h = All-nil (λ (v : ℕ × Bits). w.register ≢ v.0)
has_none (v ∷ vs) w h =
    let parts = or_parts (v.register == w.register) (has vs w.register) h in
    let first : w.register ≢ v.register = grind (arith, nat_tests, parts.0) in
    All-cons (λ (v : ℕ × Bits). w.register ≢ v.0) (pair_of v) (map pair_of vs) first (has_none vs w parts.1)

-- no two of the values are of one register
pub differ_holds : (vs : List PlacedValue) → are_distinct vs ≡ true → AllPairs (λ v w. v.0 ≢ w.0) (map pair_of vs)
unfolding are_distinct
differ_holds [] h = λ i j d l m. absurd (omega arith)
differ_holds (v ∷ vs) h =
    let parts = and_parts (not (has vs v.register)) (are_distinct vs) h in
    AllPairs-cons (λ (v w : ℕ × Bits). v.0 ≢ w.0) (pair_of v) (map pair_of vs) (has_none vs v (not_true (has vs v.register) parts.0)) (differ_holds vs parts.1)

-- values that are placed are of registers that differ
places_are : (rs : List RegDecl) (pc : ℕ) (vs : List NamedValue) (ws : List PlacedValue) → places rs pc vs ≡ Some ws → (place_each rs pc vs ≡ Some ws) × (are_distinct ws ≡ true)
unfolding places
places_are rs pc vs ws h =
    let all = bind_some (place_each rs pc vs) if_distinct ws h in
    let test = cond_some (are_distinct all.0) all.0 ws all.2 in
    subst (λ x. (place_each rs pc vs ≡ Some x) × (are_distinct x ≡ true)) test.1 (all.1, test.0)

-- values that are placed are the values of registers
pub places_hold : (rs : List RegDecl) (pc : ℕ) (vs : List NamedValue) (ws : List PlacedValue) → AreBits vs → places rs pc vs ≡ Some ws → ArePlaced (map width_in rs) pc (map pair_of ws)
places_hold rs pc vs ws bits h =
    let are = places_are rs pc vs ws h in
    record {
      each = each_is rs pc (λ v. IsBits v.value) (IsPlaced (map width_in rs) pc) (place_holds rs pc) vs ws bits are.0;
      differ = differ_holds ws are.1;
    }

-- values of registers that are there and differ
pub record AreSet (ws : List ℕ) (pc : ℕ) (vs : List (ℕ × Bits)) : Type 0 where
  pub each : All (IsSet ws pc) vs
  pub differ : AllPairs ◌≢◌ (map (λ v. v.0) vs)

-- the same of values that may be no bit vectors
pub places_set : (rs : List RegDecl) (pc : ℕ) (vs : List NamedValue) (ws : List PlacedValue) → places rs pc vs ≡ Some ws → AreSet (map width_in rs) pc (map pair_of ws)
places_set rs pc vs ws h =
    let are = places_are rs pc vs ws h in
    record {
      each = each_is rs pc (λ v. Unit {0}) (IsSet (map width_in rs) pc) (λ v w _ is. (place_is rs pc v w is).0) vs ws (λ _ _ _. tt) are.0;
      differ = numbers_differ (map pair_of ws) (differ_holds ws are.1);
    }

-- none is placed at the start
pub begun_placed : (rs : List RegDecl) (pc : ℕ) (given : List NamedValue) (vs : List PlacedValue) → vs ≡ [] → (place_each rs pc given >>= λ rest. if_distinct (vs ++ rest)) ≡ places rs pc given
unfolding places
begun_placed rs pc given vs none = ap (λ front. place_each rs pc given >>= λ rest. if_distinct (front ++ rest)) none

pub begun_distinct : (vs : List PlacedValue) → vs ≡ [] → are_distinct vs ≡ true
unfolding are_distinct
begun_distinct vs none = rw none refl

-- one more is placed
pub more_distinct : (vs new : List PlacedValue) (v : PlacedValue) → new ≡ vs ++ v ∷ [] → are_distinct vs ≡ true → has vs v.register ≡ false → are_distinct new ≡ true
more_distinct vs new v more d h = ap are_distinct more ∙ distinct_push vs v d h

-- the last one is placed
pub ended_placed : (rs : List RegDecl) (pc : ℕ) (given : List NamedValue) (i : ℕ) (vs : List PlacedValue) (all : Option (List PlacedValue)) → length given ≤ i → are_distinct vs ≡ true
    → (place_each rs pc (drop i given) >>= λ rest. if_distinct (vs ++ rest)) ≡ all → all ≡ Some vs
ended_placed rs pc given i vs all l d h =
    all_placed rs pc vs all d (subst (λ xs. (place_each rs pc xs >>= λ rest. if_distinct (vs ++ rest)) ≡ all) (drop_all i given l) h)
