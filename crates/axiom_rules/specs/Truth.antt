-- Numbers that subterms may have, and the bits by which all axioms are true.
use Rattle.std.specs.Prelude.{◌≡◌, ⊤, ℕ, ◌+◌, ◌-◌, ◌*◌, ◌/◌, ◌%◌, ◌^◌, ◌<◌, Bool, true, false, if◌then◌else◌, nat_eq, nat_lt, nat_le, List, [], ◌∷◌, slice_get, Some, None}
use Rattle.std.specs.Int.{bit_at}
use Rattle.bv_bits.specs.declared.Bits.{Bits}
use Rattle.bv_bits.specs.declared.Op.{Op}
use Rattle.bv_bits.specs.declared.Op.TheVariants.{Neg, Add, Sub as SubOp, Mul, Shl, LShr, AShr, Eq, Ne, ULt, ULe, UGt, UGe, SLt, SLe, SGt, SGe}
use Rattle.bv_bits.specs.Bits.{result_width_of, number_of}
use Rattle.bv_bits.specs.BitLaws.{has_bit}
use Rattle.clause_core.specs.declared.BitName.{BitName}
use Rattle.clause_core.specs.declared.BitName.TheVariants.{Truth, Bit}
use Rattle.gate_tables.specs.Gates.{exclusive}
use Rattle.axiom_rules.specs.declared.node.Node.{Node}
use Rattle.axiom_rules.specs.declared.node.Node.TheVariants.{Literal, Variable, One, Two, Three, Byte}
use Rattle.axiom_rules.specs.declared.node.Sub.{Sub}
use Rattle.axiom_rules.specs.Axioms.{width_at}

-- ---- values

-- the value of a subterm
abbrev pub bits_at : List Sub → (ℕ → ℕ) → ℕ → Bits
bits_at subs val i = record { width = width_at subs i; value = val i }

-- the parts of a subterm of this width have widths that its top takes
abbrev pub IsTypedNode : List Sub → ℕ → Node → Type 0
IsTypedNode subs width (Literal value) = value < 2 ^ width
IsTypedNode subs width Variable = ⊤
IsTypedNode subs width (One op a) = (0 < width_at subs a) × (result_width_of op (width_at subs a ∷ []) ≡ Some width)
IsTypedNode subs width (Two op a b) = (0 < width_at subs a) × (result_width_of op (width_at subs a ∷ width_at subs b ∷ []) ≡ Some width)
IsTypedNode subs width (Three op a b c) = result_width_of op (width_at subs a ∷ width_at subs b ∷ width_at subs c ∷ []) ≡ Some width
IsTypedNode subs width (Byte array x) = width_at subs x ≡ 64

-- each subterm is typed
pub record IsTyped (subs : List Sub) : Type 0 where
  pub nodes : (i : ℕ) (s : Sub) → slice_get subs i ≡ Some s → IsTypedNode subs s.width s.node

-- the number is that of a subterm with this top, where those of its parts are given; a variable and a byte may have any
abbrev pub IsNumberOf : List Sub → (ℕ → ℕ) → Node → ℕ → Type 0
IsNumberOf subs val (Literal value) n = n ≡ value
IsNumberOf subs val Variable n = ⊤
IsNumberOf subs val (One op a) n = n ≡ number_of op (bits_at subs val a ∷ [])
IsNumberOf subs val (Two op a b) n = n ≡ number_of op (bits_at subs val a ∷ bits_at subs val b ∷ [])
IsNumberOf subs val (Three op a b c) n = n ≡ number_of op (bits_at subs val a ∷ bits_at subs val b ∷ bits_at subs val c ∷ [])
IsNumberOf subs val (Byte array x) n = ⊤

-- numbers that the subterms may have, as variables and bytes of arrays have values: each fits its width, follows from those
-- of its parts, and bytes of one array at equal indices are equal
pub record AreValues (subs : List Sub) (val : ℕ → ℕ) : Type 0 where
  pub fits : (i : ℕ) → val i < 2 ^ width_at subs i
  pub follows : (i : ℕ) (s : Sub) → slice_get subs i ≡ Some s → IsNumberOf subs val s.node (val i)
  pub bytes : (p q array x y : ℕ) (s t : Sub) → slice_get subs p ≡ Some s → slice_get subs q ≡ Some t → s.node ≡ Byte array x → t.node ≡ Byte array y → val x ≡ val y → val p ≡ val q

-- ---- the bits

-- whether x + y + c carries into place j
abbrev pub carries : ℕ → ℕ → ℕ → ℕ → Bool
carries c x y j = nat_le (2 ^ j) (x % 2 ^ j + y % 2 ^ j + c)

-- each of the w bits turned
abbrev pub complement : ℕ → ℕ → ℕ
complement w y = 2 ^ w - 1 - y

-- the top bit negated
abbrev pub turned : ℕ → ℕ → ℕ
turned w x = (x + 2 ^ (w - 1)) % 2 ^ w

-- the auxiliary bits of a product: a row, the sum of the rows so far, its carries
abbrev pub product_layer : ℕ → ℕ → ℕ → ℕ → ℕ → Bool
product_layer x y r kind j =
    if nat_eq kind 0 then has_bit (x * (bit_at y r * 2 ^ r)) j
    else (if nat_eq kind 1 then has_bit (x * (y % 2 ^ (r + 1))) j
    else carries 0 (x * (y % 2 ^ r)) (x * (bit_at y r * 2 ^ r)) j)

-- bit j of x, shifted up by k
abbrev pub up : ℕ → ℕ → ℕ → Bool
up x k j = if nat_lt j k then false else has_bit x (j - k)

-- bit j of x, shifted down by k, with this bit from above
abbrev pub down : ℕ → Bool → ℕ → ℕ → ℕ → Bool
down w outside x k j = if nat_lt (j + k) w then has_bit x (j + k) else outside

-- the auxiliary bit j of a layer above 0, for arguments x and y of which the first is w bits wide
abbrev pub layer_of : Op → ℕ → ℕ → ℕ → ℕ → ℕ → Bool
layer_of Neg w x y layer j = carries 1 0 (complement w x) j
layer_of Add w x y layer j = carries 0 x y j
layer_of SubOp w x y layer j = carries 1 x (complement w y) j
layer_of Mul w x y layer j = product_layer x y ((layer - 1) / 3) ((layer - 1) % 3) j
layer_of Shl w x y layer j = up x (y % 2 ^ layer) j
layer_of LShr w x y layer j = down w false x (y % 2 ^ layer) j
layer_of AShr w x y layer j = down w (has_bit x (w - 1)) x (y % 2 ^ layer) j
layer_of Eq w x y layer j = exclusive (has_bit x j) (has_bit y j)
layer_of Ne w x y layer j = exclusive (has_bit x j) (has_bit y j)
layer_of ULt w x y layer j = carries 1 x (complement w y) j
layer_of UGe w x y layer j = carries 1 x (complement w y) j
layer_of UGt w x y layer j = carries 1 y (complement w x) j
layer_of ULe w x y layer j = carries 1 y (complement w x) j
layer_of SLt w x y layer j = carries 1 (turned w x) (complement w (turned w y)) j
layer_of SGe w x y layer j = carries 1 (turned w x) (complement w (turned w y)) j
layer_of SGt w x y layer j = carries 1 (turned w y) (complement w (turned w x)) j
layer_of SLe w x y layer j = carries 1 (turned w y) (complement w (turned w x)) j
layer_of op w x y layer j = false

-- whether the indices x and y of two bytes of one array differ at bit j
abbrev pub index_layer : (ℕ → ℕ) → ℕ → Node → ℕ → Bool
index_layer val x (Byte other y) j = exclusive (has_bit (val x) j) (has_bit (val y) j)
index_layer val x node j = false

-- the auxiliary bit j of a layer above 0 of a subterm with this top; of a byte, layer q is for the byte q
abbrev pub node_layer : List Sub → (ℕ → ℕ) → Node → ℕ → ℕ → Bool
node_layer subs val (One op a) layer j = layer_of op (width_at subs a) (val a) 0 layer j
node_layer subs val (Two op a b) layer j = layer_of op (width_at subs a) (val a) (val b) layer j
node_layer subs val (Byte array x) layer j = elim (slice_get subs layer) [ None ↦ false | Some s ↦ index_layer val x s.node j ]
node_layer subs val node layer j = false

-- the assignment of the bit names: a subterm's own bits are those of its number
abbrev pub assignment : List Sub → (ℕ → ℕ) → BitName → Bool
assignment subs val Truth = true
assignment subs val (Bit i layer j) =
    if nat_eq layer 0 then has_bit (val i) j
    else elim (slice_get subs i) [ None ↦ false | Some s ↦ node_layer subs val s.node layer j ]
