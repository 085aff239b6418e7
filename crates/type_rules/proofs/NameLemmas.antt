-- Names, written types and indices, against what the judgement says of them.
use Rattle.std.proofs.Common.{◌≡◌, ℕ, ◌+◌, ◌<◌, ◌≤◌, Bool, true, false, List, [], ◌∷◌, Option, Some, None, refl, sym, ap, ◌∙◌, subst, arith, nat_eq, nat_lt}
use Rattle.std.proofs.lemmas.Bool.Decides.{nat_tests}
use Rattle.std.proofs.lemmas.Slice.Eq.{bytes_eq-Decides}
use Rattle.std.specs.Prelude.{⊤, ◌&&◌, ◌||◌, nat_le, bytes_eq, if◌then◌else◌}
use Rattle.sail_syntax.specs.Tree.{Text}
use Rattle.sail_syntax.specs.declared.tree.Index.{Index}
use Rattle.sail_syntax.specs.declared.types.Ty.{Ty}
use Rattle.sail_syntax.specs.declared.types.Ty.TheVariants as ty
use Rattle.type_rules.specs.declared.scope.Entry.{Entry}
use Rattle.type_rules.specs.declared.scope.Item.{Item}
use Rattle.type_rules.specs.declared.scope.Item.TheVariants as item
use Rattle.type_rules.specs.declared.scope.Sort.{Sort}
use Rattle.type_rules.specs.declared.scope.Sort.TheVariants.{Holds, Counts}
use Rattle.type_rules.specs.declared.scope.Local.{Local}
use Rattle.type_rules.specs.declared.scope.Target.{Target}
use Rattle.type_rules.specs.declared.scope.Target.TheVariants as target
use Rattle.type_rules.specs.declared.scope.Span.{Span}
use Rattle.type_rules.specs.declared.scope.Span.TheVariants as span
use Rattle.type_rules.specs.declared.fault.Why.TheVariants.{Unknown, Twice}
use Rattle.type_rules.specs.Faults.{Faults, fine, fault, both, Clean}
use Rattle.type_rules.specs.Names.{find, look, is_free, is_enum, is_type, known}
use Rattle.type_rules.specs.Rules.{Judged, is, says, bind, where_holds, is_same_var, span_sort, span_of, is_missing, missing, is_below, is_inside, is_range, sliced, indexed, local_target, global_target, target_of, assigned, local_type, item_type, named, read_name, taken, no_such_type, type_named, written, maybe_written}
use Rattle.type_rules.specs.HasType.{Asks, IsIn, IsThere, AreIndices, name_type, IsFree, IsType, MayBeType}
use Rattle.type_rules.specs.Laws.{IsTyped, KnownSort, Known}
use Rattle.type_rules.proofs.RuleLemmas.{Found, Held, fits_sound, holds_sound, holds_complete, both_true, and_true, lt_true, lt_test, le_true, le_test}

-- ---- locals

abbrev pub KnownLook : Option Sort → Type 0
KnownLook (Some s) = KnownSort s
KnownLook None = ⊤

pub known_look : (x : Text) (scope : List Local) → Known scope → KnownLook (look x scope)
known_look x [] h = tt
known_look x (d ∷ rest) h = step (bytes_eq d.name x) (known_look x rest h.1)
  where
    step : (b : Bool) → KnownLook (look x rest) → KnownLook (if b then Some d.sort else look x rest)
    step true r = h.0
    step false r = r

-- the type of a new local is that of its value
pub local_is : (d o got : Option Ty) (u : Ty) → o ≡ d → got ≡ Some u → Asks d u → local_type d o got ≡ Some u
local_is None o got u e g h = g
local_is (Some w) o got u e g h = e ∙ ap Some h

module _ (globals : List Entry) where
  named_sound : (x : Text) (at : ℕ) (o : Option Ty) → Clean (named x at o).faults → Found (named x at o) (λ t. o ≡ Some t)
  named_sound x at (Some t) c = record { type = t; is = refl; has = refl }
  named_sound x at None c = absurd c

  pub read_sound : (x : Text) (at : ℕ) (s : Option Sort) → KnownLook s → Clean (read_name globals x at s).faults → Found (read_name globals x at s) (λ t. name_type globals x s ≡ Some t)
  read_sound x at (Some (Holds (Some t) v)) h c = record { type = t; is = refl; has = refl }
  read_sound x at (Some (Holds None v)) h c = absurd h
  read_sound x at (Some (Counts a b)) h c = absurd c
  read_sound x at None h c = named_sound x at (item_type (find x globals)) c

  named_complete : (x : Text) (at : ℕ) (o : Option Ty) (t : Ty) → o ≡ Some t → IsTyped (named x at o) t
  named_complete x at o t e = subst (λ p. IsTyped (named x at p) t) (sym e) (refl, tt)

  pub read_complete : (x : Text) (at : ℕ) (s : Option Sort) (t : Ty) → name_type globals x s ≡ Some t → IsTyped (read_name globals x at s) t
  read_complete x at (Some (Holds o v)) t e = (e, tt)
  read_complete x at (Some (Counts a b)) t e = absurd cc
  read_complete x at None t e = named_complete x at (item_type (find x globals)) t e

  pub taken_sound : (x : Text) (at : ℕ) → Clean (taken globals x at).faults → IsFree globals x
  taken_sound x at c = step (is_free (find x globals)) c
    where
      step : (b : Bool) → Clean (if b then is None else says at (Twice x)).faults → b ≡ true
      step true d = refl
      step false d = absurd d

  pub taken_complete : (x : Text) (at : ℕ) → IsFree globals x → Clean (taken globals x at).faults
  taken_complete x at h = rw h tt

  -- ---- assignments

  -- a target takes a known type
  abbrev pub KnownTarget : Target → Type 0
  KnownTarget (target.Takes (Some t)) = ⊤
  KnownTarget (target.Takes None) = ⊥
  KnownTarget target.Refuses = ⊤
  KnownTarget target.Missing = ⊤

  pub target_known : (x : Text) (s : Option Sort) → KnownLook s → KnownTarget (target_of globals s x)
  target_known x (Some (Holds (Some t) true)) h = tt
  target_known x (Some (Holds (Some t) false)) h = tt
  target_known x (Some (Holds None v)) h = absurd h
  target_known x (Some (Counts a b)) h = tt
  target_known x None h = global (find x globals)
    where
      global : (i : Option Item) → KnownTarget (global_target i)
      global (Some (item.Register w)) = tt
      global (Some (item.Member e)) = tt
      global (Some item.Enum) = tt
      global (Some (item.Function ps r after)) = tt
      global None = tt

  -- an assignment to a name that takes a type
  pub record Assigned (x : Text) (at : ℕ) (want : Option Ty) (t : Target) : Type 0 where
    pub takes : Ty
    pub is : t ≡ target.Takes (Some takes)
    pub found : Found (assigned x at want t) (λ k. (k ≡ ty.Unit) × Asks want k)

  pub assigned_sound : (x : Text) (at : ℕ) (want : Option Ty) (t : Target) → KnownTarget t → Clean (assigned x at want t).faults → Assigned x at want t
  assigned_sound x at want (target.Takes (Some u)) h c = record { takes = u; is = refl; found = fits_sound at want ty.Unit c }
  assigned_sound x at want (target.Takes None) h c = absurd h
  assigned_sound x at want target.Refuses h c = absurd c
  assigned_sound x at want target.Missing h c = absurd c

  -- ---- written types

  pub known_is : (t : Ty) → IsType globals t → known globals t ≡ Some t
  known_is t h = ap (λ b. if b then Some t else None) h

  no_type_said : (at : ℕ) (t : Ty) → Clean (no_such_type at t).faults → ⊥
  no_type_said at ty.Unit c = c
  no_type_said at ty.Bool c = c
  no_type_said at (ty.Bits w) c = c
  no_type_said at (ty.Enum x) c = c

  pub written_sound : (at : ℕ) (t : Ty) → Clean (written globals at t).faults → IsType globals t
  written_sound at t c = step (is_type globals t) c
    where
      step : (b : Bool) → Clean (type_named (if b then Some t else None) at t).faults → b ≡ true
      step true d = refl
      step false d = absurd (no_type_said at t d)

  pub written_complete : (at : ℕ) (t : Ty) → IsType globals t → IsTyped (written globals at t) t
  written_complete at t h = subst (λ o. IsTyped (type_named o at t) t) (sym (known_is t h)) (refl, tt)

  -- a type that may be written
  pub record MayBe (at : ℕ) (d : Option Ty) : Type 0 where
    pub is : (maybe_written globals at d).type ≡ d
    pub has : MayBeType globals d

  pub maybe_sound : (at : ℕ) (d : Option Ty) → Clean (maybe_written globals at d).faults → MayBe at d
  maybe_sound at None c = record { is = refl; has = tt }
  maybe_sound at (Some t) c = let h = written_sound at t c in record { is = (written_complete at t h).0; has = h }

  pub maybe_complete : (at : ℕ) (d : Option Ty) → MayBeType globals d → ((maybe_written globals at d).type ≡ d) × Clean (maybe_written globals at d).faults
  maybe_complete at None h = (refl, tt)
  maybe_complete at (Some t) h = written_complete at t h

-- ---- indices

var_sound : (a b : Option Text) → is_same_var a b ≡ true → a ≡ b
var_sound None None h = refl
var_sound (Some x) (Some y) h = ap Some ((bytes_eq-Decides x y).0 h)
var_sound None (Some y) h = cc
var_sound (Some x) None h = cc

var_refl : (a : Option Text) → is_same_var a a ≡ true
var_refl None = refl
var_refl (Some x) = (bytes_eq-Decides x x).1 refl

missing_sound : (x : Option Text) (scope : List Local) (at : ℕ) → Clean (missing x (span_of x scope) at) → IsThere (span_of x scope)
missing_sound None scope at c = tt
missing_sound (Some x) scope at c = step (look x scope) c
  where
    step : (s : Option Sort) → Clean (missing (Some x) (span_sort s) at) → IsThere (span_sort s)
    step (Some (Counts a b)) d = tt
    step (Some (Holds t v)) d = absurd d
    step None d = absurd d

missing_complete : (x : Option Text) (s : Span) (at : ℕ) → IsThere s → Clean (missing x s at)
missing_complete None s at h = tt
missing_complete (Some x) span.Fixed at h = tt
missing_complete (Some x) (span.Over a b) at h = tt
missing_complete (Some x) span.Missing at h = absurd h

below_sound : (s : Span) (plus w : ℕ) → is_below s plus w ≡ true → (i : ℕ) → IsIn s i → plus + i < w
below_sound span.Fixed plus w h i k = let f = lt_true plus w h in omega (arith, f, k)
below_sound (span.Over a b) plus w h i k = let e : a ≤ i = k.0 in let g : i ≤ b = k.1 in step (nat_lt b a) refl h e g
  where
    step : (t : Bool) → nat_lt b a ≡ t → t || nat_lt (plus + b) w ≡ true → a ≤ i → i ≤ b → plus + i < w
    step true p q e g = let f = lt_true b a p in absurd (omega (arith, f, e, g))
    step false p q e g = let f = lt_true (plus + b) w q in omega (arith, f, e, g)
below_sound span.Missing plus w h i k = absurd k

below_complete : (s : Span) (plus w : ℕ) → ((i : ℕ) → IsIn s i → plus + i < w) → is_below s plus w ≡ true
below_complete span.Fixed plus w h = let f : plus + 0 < w = h 0 refl in lt_test plus w (omega (arith, f))
below_complete (span.Over a b) plus w h = step (nat_lt b a) refl
  where
    step : (t : Bool) → nat_lt b a ≡ t → t || nat_lt (plus + b) w ≡ true
    step true p = refl
    step false p = lt_test (plus + b) w (h b (grind (arith, nat_tests, p), omega arith))
below_complete span.Missing plus w h = refl

sliced_is : (at : ℕ) (want : Option Ty) (hi lo : Index) (s r : Span) (of t : Option Ty) → IsThere s → IsThere r
    → sliced at want hi lo s r of t ≡ where_holds (is_range hi lo && is_inside s hi.plus of) at want t
sliced_is at want hi lo span.Fixed span.Fixed of t h k = refl
sliced_is at want hi lo span.Fixed (span.Over a b) of t h k = refl
sliced_is at want hi lo span.Fixed span.Missing of t h k = absurd k
sliced_is at want hi lo (span.Over a b) span.Fixed of t h k = refl
sliced_is at want hi lo (span.Over a b) (span.Over c d) of t h k = refl
sliced_is at want hi lo (span.Over a b) span.Missing of t h k = absurd k
sliced_is at want hi lo span.Missing r of t h k = absurd h

-- indices that fit
pub record Indexed (at : ℕ) (want : Option Ty) (hi lo : Index) (scope : List Local) (w : ℕ) (k : Ty) : Type 0 where
  pub fit : AreIndices hi lo scope w
  pub found : Found (indexed at want hi lo scope (Some (ty.Bits w)) (Some k)) (λ t. (t ≡ k) × Asks want t)

pub indexed_sound : (at : ℕ) (want : Option Ty) (hi lo : Index) (scope : List Local) (w : ℕ) (k : Ty)
    → Clean (indexed at want hi lo scope (Some (ty.Bits w)) (Some k)).faults → Indexed at want hi lo scope w k
indexed_sound at want hi lo scope w k c =
    let h = missing_sound hi.var scope at c.0.0 in
    let l = missing_sound lo.var scope at c.0.1 in
    let e = sliced_is at want hi lo (span_of hi.var scope) (span_of lo.var scope) (Some (ty.Bits w)) (Some k) h l in
    let d = holds_sound (is_range hi lo && is_below (span_of hi.var scope) hi.plus w) at want k (subst (λ j. Clean j.faults) e c.1) in
    let p = both_true (is_range hi lo) (is_below (span_of hi.var scope) hi.plus w) d.holds in
    let q = both_true (is_same_var hi.var lo.var && nat_le lo.plus hi.plus) (nat_le hi.plus 127) p.0 in
    let r = both_true (is_same_var hi.var lo.var) (nat_le lo.plus hi.plus) q.0 in
    record {
      fit = record { variable = var_sound hi.var lo.var r.0; there = h; order = le_true lo.plus hi.plus r.1; at_most = le_true hi.plus 127 q.1; inside = below_sound (span_of hi.var scope) hi.plus w p.1 };
      found = record { type = d.found.type; is = ap (λ j. j.type) e ∙ d.found.is; has = d.found.has };
    }

pub indexed_complete : (at : ℕ) (want : Option Ty) (hi lo : Index) (scope : List Local) (w : ℕ) (k t : Ty)
    → AreIndices hi lo scope w → t ≡ k → Asks want t → IsTyped (indexed at want hi lo scope (Some (ty.Bits w)) (Some k)) t
indexed_complete at want hi lo scope w k t f e a =
    let l = subst (λ x. IsThere (span_of x scope)) f.variable f.there in
    let s = sliced_is at want hi lo (span_of hi.var scope) (span_of lo.var scope) (Some (ty.Bits w)) (Some k) f.there l in
    let v = subst (λ x. is_same_var hi.var x ≡ true) f.variable (var_refl hi.var) in
    let r = and_true (is_same_var hi.var lo.var && nat_le lo.plus hi.plus) (nat_le hi.plus 127)
    (and_true (is_same_var hi.var lo.var) (nat_le lo.plus hi.plus) v (le_test lo.plus hi.plus f.order)) (le_test hi.plus 127 f.at_most) in
    let b = and_true (is_range hi lo) (is_below (span_of hi.var scope) hi.plus w) r (below_complete (span_of hi.var scope) hi.plus w f.inside) in
    let d = subst (λ j. IsTyped j t) (sym s) (holds_complete (is_range hi lo && is_below (span_of hi.var scope) hi.plus w) at want k t b e a) in
    (d.0, ((missing_complete hi.var (span_of hi.var scope) at f.there, missing_complete lo.var (span_of lo.var scope) at l), d.1))
