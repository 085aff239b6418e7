-- Values and the operators on them. Outside their types the value is unit; no typed text comes to that.
use Rattle.std.specs.Prelude.{ℕ, ◌^◌, Bool, true, false, not, ◌&&◌, if◌then◌else◌, nat_eq, nat_le, nat_lt, List, [], ◌∷◌, map, Option, Some, None, is_some, slice_get}
use Rattle.std.specs.List.{list_all}
use Rattle.bv_bits.specs.declared.Bits.{Bits}
use Rattle.bv_bits.specs.declared.Op.{Op}
use Rattle.bv_bits.specs.declared.Op.TheVariants as op
use Rattle.bv_bits.specs.Bits.{width_of, result_width_of, apply_of}
use Rattle.sail_syntax.specs.declared.tree.Infix.{Infix}
use Rattle.sail_syntax.specs.declared.tree.Infix.TheVariants as between
use Rattle.sail_values.specs.declared.value.Value.{Value}
use Rattle.sail_values.specs.declared.value.Value.TheVariants as value

-- the value, and unit for none
abbrev pub or_unit : Option Value → Value
or_unit (Some v) = v
or_unit None = value.Unit

-- the n-th value, and unit where there is none
abbrev pub nth : ℕ → List Value → Value
nth i vs = or_unit (slice_get vs i)

-- whether a width and a number are a bit vector: a width from 1 to 128, and a number below 2 ^ width
abbrev pub is_vector : Bits → Bool
is_vector b = nat_lt 0 b.width && nat_le b.width 128 && nat_lt b.value (2 ^ b.width)

-- an operator on bit vectors, where it has a result at their widths
abbrev pub operated : Op → List Bits → Value
operated o bs = if list_all is_vector bs && is_some (result_width_of o (map width_of bs)) then value.Bits (apply_of o bs) else value.Unit

-- an operator on two values
abbrev pub operate : Op → Value → Value → Value
operate o (value.Bits a) (value.Bits b) = operated o (a ∷ b ∷ [])
operate _ _ _ = value.Unit

-- an operator on one value
abbrev pub operate_one : Op → Value → Value
operate_one o (value.Bits a) = operated o (a ∷ [])
operate_one _ _ = value.Unit

-- the bits turned round
abbrev pub flipped : Value → Value
flipped v = operate_one op.Not v

-- the bits widened
abbrev pub widened : Bool → ℕ → Value → Value
widened signed to v = if signed then operate_one (op.SExt to) v else operate_one (op.ZExt to) v

-- the truth of a value
abbrev pub is_true : Value → Bool
is_true (value.Truth b) = b
is_true _ = false

-- whether two values are the same
abbrev pub same : Value → Value → Bool
same value.Unit value.Unit = true
same (value.Truth a) (value.Truth b) = if a then b else not b
same (value.Bits a) (value.Bits b) = nat_eq a.width b.width && nat_eq a.value b.value
same (value.Member e i) (value.Member f j) = nat_eq e f && nat_eq i j
same _ _ = false

-- an infix operator on two values; on bool, `&` and `|` come here with the left side open alone
abbrev pub applied : Infix → Value → Value → Value
applied between.Add a b = operate op.Add a b
applied between.Sub a b = operate op.Sub a b
applied between.Mul a b = operate op.Mul a b
applied between.And (value.Truth a) b = b
applied between.And a b = operate op.And a b
applied between.Or (value.Truth a) b = b
applied between.Or a b = operate op.Or a b
applied between.Xor a b = operate op.Xor a b
applied between.Join a b = operate op.Concat a b
applied between.Eq a b = value.Truth (same a b)
applied between.Ne a b = value.Truth (not (same a b))

-- the left side alone decides
abbrev pub decides : Infix → Value → Bool
decides between.And (value.Truth a) = not a
decides between.Or (value.Truth a) = a
decides _ _ = false
