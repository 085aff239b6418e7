-- Values of a type, and the operators on them.
use Rattle.std.proofs.Common.{◌≡◌, ℕ, ◌+◌, ◌-◌, ◌^◌, ◌<◌, ◌≤◌, Bool, true, false, ◌&&◌, List, [], ◌∷◌, Option, Some, None, IsSome, eqb, refl, ap, sym, ◌∙◌, subst, arith, nat_eq, nat_lt}
use Rattle.std.specs.Prelude.{unwrap_or, is_some, nat_le, slice_get, ◌≢◌, if◌then◌else◌}
use Rattle.std.specs.List.{list_all}
use Rattle.std.proofs.lemmas.Bool.{eqb-true, eq-eqb, leb-true, ltb-true, lt-ltb, le-leb, ltb-false, eqb-false, and_parts, and_from, false≢true}
use Rattle.bv_bits.specs.declared.Bits.{Bits}
use Rattle.bv_bits.specs.declared.Op.{Op}
use Rattle.bv_bits.specs.declared.Op.TheVariants as op
use Rattle.bv_bits.specs.Bits.{IsBits, some_if, result_width_of, apply_of}
use Rattle.term_tree.proofs.OperatorLemmas.{one_fits, two_fits}
use Rattle.sail_syntax.specs.Program.{Definition}
use Rattle.sail_syntax.specs.declared.tree.Infix.{Infix}
use Rattle.sail_syntax.specs.declared.tree.Infix.TheVariants as between
use Rattle.sail_syntax.specs.declared.types.Ty.{Ty}
use Rattle.sail_syntax.specs.declared.types.Ty.TheVariants as ty
use Rattle.sail_values.specs.declared.value.Value.{Value}
use Rattle.sail_values.specs.declared.value.Value.TheVariants as value
use Rattle.sail_values.specs.Values.{is_vector, operate, operate_one, widened, applied, decides}
use Rattle.type_rules.specs.Rules.{takes, compares, is_join}
use Rattle.eval_rules.specs.Parts.{sliced, width_in, above, below, updated}
use Rattle.eval_types.specs.Types.{Enum, enums_of, IsMemberOf, IsOfType}

-- ---- vectors

-- a vector of a width
pub record OfBits (v : Value) (w : ℕ) : Type 0 where
  pub bits : Bits
  pub is : v ≡ value.Bits bits
  pub fit : IsBits bits
  pub width : bits.width ≡ w

-- a truth
pub record OfBool (v : Value) : Type 0 where
  pub truth : Bool
  pub is : v ≡ value.Truth truth

bits_width : (w k : ℕ) → ty.Bits w ≡ ty.Bits k → k ≡ w
bits_width w k h = cc

member_of_bits : (e : Option Enum) (i w : ℕ) → IsMemberOf e i (ty.Bits w) → ⊥
member_of_bits (Some e) i w h = let k = h.0 in cc
member_of_bits None i w h = h

member_of_bool : (e : Option Enum) (i : ℕ) → IsMemberOf e i ty.Bool → ⊥
member_of_bool (Some e) i h = let k = h.0 in cc
member_of_bool None i h = h

member_of_unit : (e : Option Enum) (i : ℕ) → IsMemberOf e i ty.Unit → ⊥
member_of_unit (Some e) i h = let k = h.0 in cc
member_of_unit None i h = h

module _ (defs : List Definition) where
  pub as_bits : (v : Value) (w : ℕ) → IsOfType defs v (ty.Bits w) → OfBits v w
  as_bits (value.Bits b) w h = record { bits = b; is = refl; fit = h.0; width = bits_width w b.width h.1 }
  as_bits value.Unit w h = absurd cc
  as_bits (value.Truth b) w h = absurd cc
  as_bits (value.Member e i) w h = absurd (member_of_bits (slice_get (enums_of defs) e) i w h)

  pub from_bits : (v : Value) (w : ℕ) → OfBits v w → IsOfType defs v (ty.Bits w)
  from_bits v w h = subst (λ v. IsOfType defs v (ty.Bits w)) (sym h.is) (h.fit, ap ty.Bits (sym h.width))

  pub as_bool : (v : Value) → IsOfType defs v ty.Bool → OfBool v
  as_bool (value.Truth b) h = record { truth = b; is = refl }
  as_bool value.Unit h = absurd cc
  as_bool (value.Bits b) h = let k = h.1 in absurd cc
  as_bool (value.Member e i) h = absurd (member_of_bool (slice_get (enums_of defs) e) i h)

  pub from_bool : (v : Value) → OfBool v → IsOfType defs v ty.Bool
  from_bool v h = subst (λ v. IsOfType defs v ty.Bool) (sym h.is) refl

  pub as_unit : (v : Value) → IsOfType defs v ty.Unit → v ≡ value.Unit
  as_unit value.Unit h = refl
  as_unit (value.Truth b) h = absurd cc
  as_unit (value.Bits b) h = let k = h.1 in absurd cc
  as_unit (value.Member e i) h = absurd (member_of_unit (slice_get (enums_of defs) e) i h)

-- ---- operators of vectors

pub vector_passes : (b : Bits) → IsBits b → is_vector b ≡ true
vector_passes b f = and_from (nat_lt 0 b.width && nat_le b.width 128) (nat_lt b.value (2 ^ b.width))
    (and_from (nat_lt 0 b.width) (nat_le b.width 128) (lt-ltb 0 b.width f.positive) (le-leb b.width 128 f.at_most)) (lt-ltb b.value (2 ^ b.width) f.fits)

pub passed_vector : (b : Bits) → is_vector b ≡ true → IsBits b
passed_vector b h =
    let p = and_parts (nat_lt 0 b.width && nat_le b.width 128) (nat_lt b.value (2 ^ b.width)) h in
    let q = and_parts (nat_lt 0 b.width) (nat_le b.width 128) p.0 in
    record { positive = ltb-true 0 b.width q.0; at_most = leb-true b.width 128 q.1; fits = ltb-true b.value (2 ^ b.width) p.1 }

some_of : (o : Option ℕ) (w : ℕ) → o ≡ Some w → IsSome o × (unwrap_or o 0 ≡ w)
some_of (Some k) w h = (refl, cc)
some_of None w h = absurd cc

passes : (x y : Bool) (v u : Value) → x ≡ true → y ≡ true → (if x && y then v else u) ≡ v
passes true true v u p q = refl
passes true false v u p q = absurd (false≢true q)
passes false y v u p q = absurd (false≢true p)

-- one argument
pub one_of : (o : Op) (v : Value) (w k : ℕ) → OfBits v w → result_width_of o (w ∷ []) ≡ Some k → OfBits (operate_one o v) k
one_of o v w k a h =
    let e = subst (λ w. result_width_of o (w ∷ []) ≡ Some k) (sym a.width) h in
    let s = some_of (result_width_of o (a.bits.width ∷ [])) k e in
    record {
      bits = apply_of o (a.bits ∷ []);
      is = ap (operate_one o) a.is ∙ passes (list_all is_vector (a.bits ∷ [])) (is_some (result_width_of o (a.bits.width ∷ []))) (value.Bits (apply_of o (a.bits ∷ []))) value.Unit
          (and_from (is_vector a.bits) true (vector_passes a.bits a.fit) refl) s.0;
      fit = one_fits o a.bits a.fit s.0;
      width = s.1;
    }

-- two arguments
pub two_of : (o : Op) (v u : Value) (w m k : ℕ) → OfBits v w → OfBits u m → result_width_of o (w ∷ m ∷ []) ≡ Some k → OfBits (operate o v u) k
two_of o v u w m k a b h =
    let f = subst (λ w. result_width_of o (w ∷ m ∷ []) ≡ Some k) (sym a.width) h in
    let e = subst (λ m. result_width_of o (a.bits.width ∷ m ∷ []) ≡ Some k) (sym b.width) f in
    let s = some_of (result_width_of o (a.bits.width ∷ b.bits.width ∷ [])) k e in
    let both = a.bits ∷ b.bits ∷ [] in
    record {
      bits = apply_of o (a.bits ∷ b.bits ∷ []);
      is = ap (λ v. operate o v u) a.is ∙ ap (λ u. operate o (value.Bits a.bits) u) b.is
          ∙ passes (list_all is_vector (a.bits ∷ b.bits ∷ [])) (is_some (result_width_of o (a.bits.width ∷ b.bits.width ∷ []))) (value.Bits (apply_of o (a.bits ∷ b.bits ∷ []))) value.Unit
          (and_from (is_vector a.bits) (is_vector b.bits && true) (vector_passes a.bits a.fit) (and_from (is_vector b.bits) true (vector_passes b.bits b.fit) refl)) s.0;
      fit = two_fits a.bits b.bits a.fit b.fit o s.0;
      width = s.1;
    }

-- ---- widths

some_yes : (b : Bool) (w : ℕ) → b ≡ true → some_if b w ≡ Some w
some_yes b w h = ap (λ b. some_if b w) h

pub same_width : (w : ℕ) → some_if (eqb w w) w ≡ Some w
same_width w = some_yes (eqb w w) w (eq-eqb w w refl)

-- joined
pub join_of : (v u : Value) (w m : ℕ) → OfBits v w → OfBits u m → w + m ≤ 128 → OfBits (applied between.Join v u) (w + m)
join_of v u w m a b h = two_of op.Concat v u w m (w + m) a b (some_yes (nat_le (w + m) 128) (w + m) (le-leb (w + m) 128 h))

-- widened
pub widened_of : (signed : Bool) (to : ℕ) (v : Value) (w : ℕ) → OfBits v w → w ≤ to → to ≤ 128 → OfBits (widened signed to v) to
widened_of true to v w a h k = one_of (op.SExt to) v w to a (some_yes (nat_le w to && nat_le to 128) to (and_from (nat_le w to) (nat_le to 128) (le-leb w to h) (le-leb to 128 k)))
widened_of false to v w a h k = one_of (op.ZExt to) v w to a (some_yes (nat_le w to && nat_le to 128) to (and_from (nat_le w to) (nat_le to 128) (le-leb w to h) (le-leb to 128 k)))

-- a width is at most 128
pub width_at_most : (v : Value) (w : ℕ) → OfBits v w → w ≤ 128
width_at_most v w a = subst (λ w. w ≤ 128) a.width a.fit.at_most

pub width_positive : (v : Value) (w : ℕ) → OfBits v w → 0 < w
width_positive v w a = subst (λ w. 0 < w) a.width a.fit.positive

-- bits from hi down to lo
pub sliced_of : (v : Value) (w hi lo k : ℕ) → OfBits v w → hi < w → lo ≤ hi → k ≡ hi - lo + 1 → OfBits (sliced v hi lo) k
sliced_of v w hi lo k a h l e =
    let m = width_at_most v w a in
    let p : hi < 128 = omega (arith, h, m) in
    let q : lo < 128 = omega (arith, l, p) in
    subst (OfBits (sliced v hi lo)) (sym e)
    (subst (λ v. OfBits v (hi - lo + 1)) (sym (passes (nat_lt hi 128) (nat_lt lo 128) (operate_one (op.Extract hi lo) v) value.Unit (lt-ltb hi 128 p) (lt-ltb lo 128 q)))
    (one_of (op.Extract hi lo) v w (hi - lo + 1) a (some_yes (nat_le lo hi && nat_lt hi w) (hi - lo + 1) (and_from (nat_le lo hi) (nat_lt hi w) (le-leb lo hi l) (lt-ltb hi w h)))))

pub width_in_is : (v : Value) (w : ℕ) → OfBits v w → width_in v ≡ w
width_in_is v w a = ap width_in a.is ∙ a.width

-- the new bits with those above
above_of : (v by : Value) (w hi lo : ℕ) → OfBits v w → OfBits by (hi - lo + 1) → hi < w → lo ≤ hi → OfBits (above v hi by) (w - lo)
above_of v by w hi lo a b h l =
    let e = width_in_is v w a in
    step (nat_lt (hi + 1) (width_in v)) refl e
  where
    step : (t : Bool) → nat_lt (hi + 1) (width_in v) ≡ t → width_in v ≡ w
        → OfBits (if t then applied between.Join (sliced v (width_in v - 1) (hi + 1)) by else by) (w - lo)
    step true p e =
        let q : hi + 1 < width_in v = ltb-true (hi + 1) (width_in v) p in
        let m = width_at_most v w a in
        let s = sliced_of v w (width_in v - 1) (hi + 1) (w - hi - 1) a (omega (arith, q, e)) (omega (arith, q)) (omega (arith, q, e)) in
        subst (OfBits (applied between.Join (sliced v (width_in v - 1) (hi + 1)) by)) (omega (arith, h, l))
        (join_of (sliced v (width_in v - 1) (hi + 1)) by (w - hi - 1) (hi - lo + 1) s b (omega (arith, h, l, m)))
    step false p e =
        let q : width_in v ≤ hi + 1 = ltb-false (hi + 1) (width_in v) p in
        subst (OfBits by) (omega (arith, h, l, q, e)) b

below_of : (v so_far : Value) (w lo : ℕ) → OfBits v w → OfBits so_far (w - lo) → lo < w → OfBits (below v lo so_far) w
below_of v so_far w lo a b l = step (nat_eq lo 0) refl
  where
    step : (t : Bool) → nat_eq lo 0 ≡ t → OfBits (if t then so_far else applied between.Join so_far (sliced v (lo - 1) 0)) w
    step true p = let e : lo ≡ 0 = eqb-true lo 0 p in subst (OfBits so_far) (omega (arith, e)) b
    step false p =
        let m = width_at_most v w a in
        let n : lo ≢ 0 = eqb-false lo 0 p in
        let z : 0 < lo = omega (arith, n) in
        let s = sliced_of v w (lo - 1) 0 lo a (omega (arith, l)) (omega arith) (omega (arith, z)) in
        subst (OfBits (applied between.Join so_far (sliced v (lo - 1) 0))) (omega (arith, l)) (join_of so_far (sliced v (lo - 1) 0) (w - lo) lo b s (omega (arith, l, m)))

-- bits replaced
pub updated_of : (v by : Value) (w hi lo : ℕ) → OfBits v w → OfBits by (hi - lo + 1) → hi < w → lo ≤ hi → OfBits (updated v hi lo by) w
updated_of v by w hi lo a b h l = below_of v (above v hi by) w lo a (above_of v by w hi lo a b h l) (omega (arith, h, l))

-- ---- infix operators

module _ (defs : List Definition) where
  at_width : (o : Op) (w : ℕ) (v x : Value) → IsOfType defs v (ty.Bits w) → IsOfType defs x (ty.Bits w) → result_width_of o (w ∷ w ∷ []) ≡ Some w → IsOfType defs (operate o v x) (ty.Bits w)
  at_width o w v x h k e = from_bits defs (operate o v x) w (two_of o v x w w w (as_bits defs v w h) (as_bits defs x w k) e)

  and_of : (w : ℕ) (v x : Value) → OfBits v w → OfBits x w → IsOfType defs (applied between.And v x) (ty.Bits w)
  and_of w v x a b = subst (λ r. IsOfType defs r (ty.Bits w)) (sym (ap (λ v. applied between.And v x) a.is)) (at_width op.And w (value.Bits a.bits) x (from_bits defs (value.Bits a.bits) w (record { bits = a.bits; is = refl; fit = a.fit; width = a.width })) (from_bits defs x w b) (same_width w))

  or_of : (w : ℕ) (v x : Value) → OfBits v w → OfBits x w → IsOfType defs (applied between.Or v x) (ty.Bits w)
  or_of w v x a b = subst (λ r. IsOfType defs r (ty.Bits w)) (sym (ap (λ v. applied between.Or v x) a.is)) (at_width op.Or w (value.Bits a.bits) x (from_bits defs (value.Bits a.bits) w (record { bits = a.bits; is = refl; fit = a.fit; width = a.width })) (from_bits defs x w b) (same_width w))

  -- a value of the type of both
  pub applied_of : (o : Infix) (u : Ty) (v x : Value) → takes o u ≡ true → compares o ≡ false → is_join o ≡ false → IsOfType defs v u → IsOfType defs x u → IsOfType defs (applied o v x) u
  applied_of between.Add (ty.Bits w) v x t c j h k = at_width op.Add w v x h k (same_width w)
  applied_of between.Sub (ty.Bits w) v x t c j h k = at_width op.Sub w v x h k (same_width w)
  applied_of between.Mul (ty.Bits w) v x t c j h k = at_width op.Mul w v x h k (same_width w)
  applied_of between.Xor (ty.Bits w) v x t c j h k = at_width op.Xor w v x h k (same_width w)
  applied_of between.And (ty.Bits w) v x t c j h k = and_of w v x (as_bits defs v w h) (as_bits defs x w k)
  applied_of between.Or (ty.Bits w) v x t c j h k = or_of w v x (as_bits defs v w h) (as_bits defs x w k)
  applied_of between.And ty.Bool v x t c j h k = subst (λ r. IsOfType defs r ty.Bool) (sym (ap (λ v. applied between.And v x) (as_bool defs v h).is)) k
  applied_of between.Or ty.Bool v x t c j h k = subst (λ r. IsOfType defs r ty.Bool) (sym (ap (λ v. applied between.Or v x) (as_bool defs v h).is)) k
  applied_of between.Join u v x t c j h k = absurd cc
  applied_of between.Eq u v x t c j h k = absurd cc
  applied_of between.Ne u v x t c j h k = absurd cc
  applied_of between.Add ty.Bool v x t c j h k = absurd cc
  applied_of between.Add ty.Unit v x t c j h k = absurd cc
  applied_of between.Add (ty.Enum e) v x t c j h k = absurd cc
  applied_of between.Sub ty.Bool v x t c j h k = absurd cc
  applied_of between.Sub ty.Unit v x t c j h k = absurd cc
  applied_of between.Sub (ty.Enum e) v x t c j h k = absurd cc
  applied_of between.Mul ty.Bool v x t c j h k = absurd cc
  applied_of between.Mul ty.Unit v x t c j h k = absurd cc
  applied_of between.Mul (ty.Enum e) v x t c j h k = absurd cc
  applied_of between.Xor ty.Bool v x t c j h k = absurd cc
  applied_of between.Xor ty.Unit v x t c j h k = absurd cc
  applied_of between.Xor (ty.Enum e) v x t c j h k = absurd cc
  applied_of between.And ty.Unit v x t c j h k = absurd cc
  applied_of between.And (ty.Enum e) v x t c j h k = absurd cc
  applied_of between.Or ty.Unit v x t c j h k = absurd cc
  applied_of between.Or (ty.Enum e) v x t c j h k = absurd cc

  -- a comparison is a truth, and decides nothing before its right side
  pub compared_of : (o : Infix) (v x : Value) → compares o ≡ true → IsOfType defs (applied o v x) ty.Bool
  compared_of between.Eq v x c = refl
  compared_of between.Ne v x c = refl
  compared_of between.Add v x c = absurd cc
  compared_of between.Sub v x c = absurd cc
  compared_of between.Mul v x c = absurd cc
  compared_of between.And v x c = absurd cc
  compared_of between.Or v x c = absurd cc
  compared_of between.Xor v x c = absurd cc
  compared_of between.Join v x c = absurd cc

pub compares_last : (o : Infix) (v : Value) → compares o ≡ true → decides o v ≡ false
compares_last between.Eq v c = refl
compares_last between.Ne v c = refl
compares_last between.Add v c = absurd cc
compares_last between.Sub v c = absurd cc
compares_last between.Mul v c = absurd cc
compares_last between.And v c = absurd cc
compares_last between.Or v c = absurd cc
compares_last between.Xor v c = absurd cc
compares_last between.Join v c = absurd cc
