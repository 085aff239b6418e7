-- Laws of rewrite rules, and typed right sides.
use Rattle.std.specs.Prelude.{◌≡◌, ℕ, [], ◌∷◌, Some, IsSome, unwrap_or}
use Rattle.bv_bits.specs.declared.Bits.{Bits}
use Rattle.bv_bits.specs.Bits.{result_width_of, apply_of}
use Rattle.term_tree.specs.Terms.{Tree, IsTyped, width_of}
use Rattle.term_tree.specs.Values.{Values, IsValues, value}
use Rattle.term_rules.specs.Rules.{Right, given, made_one, made_two, rule_of}

-- ---- right sides

-- the width of what a right side builds
abbrev pub right_width : Right → ℕ
right_width (given t) = width_of t
right_width (made_one op r) = unwrap_or (result_width_of op (right_width r ∷ [])) 0
right_width (made_two op r s) = unwrap_or (result_width_of op (right_width r ∷ right_width s ∷ [])) 0

-- the value of what a right side builds: its applications as they are
abbrev pub right_value : Values → Right → Bits
right_value v (given t) = value v t
right_value v (made_one op r) = apply_of op (right_value v r ∷ [])
right_value v (made_two op r s) = apply_of op (right_value v r ∷ right_value v s ∷ [])

-- a right side in which each operator has arguments that it takes
abbrev pub IsTypedRight : Right → Type 0
IsTypedRight (given t) = IsTyped t
IsTypedRight (made_one op r) = IsSome (result_width_of op (right_width r ∷ [])) × IsTypedRight r
IsTypedRight (made_two op r s) = IsSome (result_width_of op (right_width r ∷ right_width s ∷ [])) × IsTypedRight r × IsTypedRight s

-- ---- laws of the rules

-- the right side that a rule gives is typed, and as wide as the application
abbrev pub RightIsTyped : Type 0
RightIsTyped = (t : Tree) (r : Right) → IsTyped t → rule_of t ≡ Some r → IsTypedRight r × (right_width r ≡ width_of t)

-- it has the application's value
abbrev pub RightKeepsValue : Type 0
RightKeepsValue = (v : Values) (t : Tree) (r : Right) → IsValues v → IsTyped t → rule_of t ≡ Some r → right_value v r ≡ value v t
