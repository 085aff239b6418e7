-- The axioms of a list of subterms, by their names.
use Rattle.std.specs.Prelude.{ℕ, ◌+◌, ◌-◌, ◌/◌, true, false, if◌then◌else◌, nat_eq, nat_lt, List, [], ◌∷◌, slice_get, Option, Some, None, option_map, option_and_then}
use Rattle.std.specs.Int.{bit_at}
use Rattle.bv_bits.specs.declared.Op.{Op}
use Rattle.bv_bits.specs.declared.Op.TheVariants.{Not, Neg, And as AndOp, Or as OrOp, Xor as XorOp, Imp, Add, Sub as SubOp, Mul, Shl, LShr, AShr, Eq, Ne, ULt, ULe, UGt, UGe, SLt, SLe, SGt, SGe, Concat, Extract, ZExt, SExt, Ite}
use Rattle.clause_core.specs.declared.Lit.{Lit}
use Rattle.clause_core.specs.declared.BitName.TheVariants.{Truth as TruthBit}
use Rattle.clause_core.specs.declared.Hint.{Hint}
use Rattle.clause_core.specs.declared.Hint.TheVariants.{Truth, Goal, Fact, Step, Axiom}
use Rattle.clause_core.specs.Clauses.{opposite_of}
use Rattle.axiom_rules.specs.declared.part.Part.{Part}
use Rattle.axiom_rules.specs.declared.part.Part.TheVariants.{Unit as UnitPart, Same, And, Or, Xor, Mux, Congruence}
use Rattle.axiom_rules.specs.declared.node.Node.{Node}
use Rattle.axiom_rules.specs.declared.node.Node.TheVariants.{Literal, Variable, One, Two, Three, Byte}
use Rattle.axiom_rules.specs.declared.node.Sub.{Sub}
use Rattle.axiom_rules.specs.Parts.{own, never, part_clause, signed_by, adder, relation, signed_relation, equality, only, product, stage, shifted, from_below, from_above, within}

-- a part of the term of number i, at bit j, where the argument of number a is w bits wide
abbrev pub one_part : Op → ℕ → ℕ → ℕ → ℕ → ℕ → Option Part
one_part Not i a w part j = only w part j (Same (opposite_of (own a j)) (own i j))
one_part Neg i a w part j = adder i w never (opposite_of (own a j)) true part j
one_part (Extract hi lo) i a w part j = only (hi - lo + 1) part j (Same (own a (j + lo)) (own i j))
one_part (ZExt to) i a w part j = only to part j (Same (if nat_lt j w then own a j else never) (own i j))
one_part (SExt to) i a w part j = only to part j (Same (own a (if nat_lt j w then j else w - 1)) (own i j))
one_part op i a w part j = None

-- a part of a comparison
abbrev pub order_part : Op → ℕ → ℕ → ℕ → ℕ → ℕ → ℕ → Option Part
order_part ULt i a b w part j = relation i w (own a j) (own b j) false part j
order_part UGe i a b w part j = relation i w (own a j) (own b j) true part j
order_part UGt i a b w part j = relation i w (own b j) (own a j) false part j
order_part ULe i a b w part j = relation i w (own b j) (own a j) true part j
order_part SLt i a b w part j = signed_relation i w (own a j) (own b j) false part j
order_part SGe i a b w part j = signed_relation i w (own a j) (own b j) true part j
order_part SGt i a b w part j = signed_relation i w (own b j) (own a j) false part j
order_part SLe i a b w part j = signed_relation i w (own b j) (own a j) true part j
order_part op i a b w part j = None

-- .. where the arguments of numbers a and b are w and m bits wide
abbrev pub two_part : Op → ℕ → ℕ → ℕ → ℕ → ℕ → ℕ → ℕ → Option Part
two_part AndOp i a b w m part j = only w part j (And (own a j) (own b j) (own i j))
two_part OrOp i a b w m part j = only w part j (Or (own a j) (own b j) (own i j))
two_part XorOp i a b w m part j = only w part j (Xor (own a j) (own b j) (own i j))
two_part Imp i a b w m part j = only 1 part j (Or (opposite_of (own a 0)) (own b 0) (own i 0))
two_part Add i a b w m part j = adder i w (own a j) (own b j) false part j
two_part SubOp i a b w m part j = adder i w (own a j) (opposite_of (own b j)) true part j
two_part Mul i a b w m part j = product i a b w part j
two_part Shl i a b w m part j = within (nat_lt j w) (shifted i a b m (from_below i a part j) part j)
two_part LShr i a b w m part j = within (nat_lt j w) (shifted i a b m (from_above i a part j w never) part j)
two_part AShr i a b w m part j = within (nat_lt j w) (shifted i a b m (from_above i a part j w (stage i a part (w - 1))) part j)
two_part Eq i a b w m part j = equality i w (own a j) (own b j) (own i 0) part j
two_part Ne i a b w m part j = equality i w (own a j) (own b j) (opposite_of (own i 0)) part j
two_part Concat i a b w m part j = only (w + m) part j (Same (if nat_lt j m then own b j else own a (j - m)) (own i j))
two_part op i a b w m part j = order_part op i a b w part j

-- .. where the second and third arguments are m bits wide
abbrev pub three_part : Op → ℕ → ℕ → ℕ → ℕ → ℕ → ℕ → ℕ → Option Part
three_part Ite i a b c m part j = only m part j (Mux (own a 0) (own b j) (own c j) (own i j))
three_part op i a b c m part j = None

-- ---- the clauses of a list of subterms

-- subterms, and the numbers of the facts and of the goal
pub record Problem : Type 0 where
  pub subs : List Sub
  pub facts : List ℕ
  pub goal : ℕ

-- the width of a subterm
abbrev pub width_at : List Sub → ℕ → ℕ
width_at subs i = elim (slice_get subs i) [ None ↦ 0 | Some s ↦ s.width ]

-- a part of the byte p of an array, of the index x, for the byte q of the same array
abbrev pub pair_part : ℕ → ℕ → ℕ → ℕ → Node → ℕ → ℕ → Option Part
pair_part p q array x (Byte other y) part j = if nat_eq array other then Some (Congruence p q x y part j) else None
pair_part p q array x node part j = None

-- a part of the byte p of an array, of the index x: two for each further byte of the same array
abbrev pub byte_part : List Sub → ℕ → ℕ → ℕ → ℕ → ℕ → Option Part
byte_part subs p array x part j =
    if nat_lt p (part / 2) then option_and_then (λ s. pair_part p (part / 2) array x s.node part j) (slice_get subs (part / 2)) else None

-- a part of a subterm of this number, width and top
abbrev pub node_part : List Sub → ℕ → ℕ → Node → ℕ → ℕ → Option Part
node_part subs i width (Literal value) part j = only width part j (UnitPart (signed_by (nat_eq (bit_at value j) 1) (own i j)))
node_part subs i width Variable part j = None
node_part subs i width (One op a) part j = one_part op i a (width_at subs a) part j
node_part subs i width (Two op a b) part j = two_part op i a b (width_at subs a) (width_at subs b) part j
node_part subs i width (Three op a b c) part j = three_part op i a b c (width_at subs b) part j
node_part subs i width (Byte array x) part j = byte_part subs i array x part j

-- the part of number `part` of subterm i, at bit j
abbrev pub part_at : List Sub → ℕ → ℕ → ℕ → Option Part
part_at subs i part j = option_and_then (λ s. node_part subs i s.width s.node part j) (slice_get subs i)

-- the clause of a name: the truth is 1, the goal is 0, each fact is 1, and the axioms
abbrev pub clause_named : List Sub → List ℕ → ℕ → Hint → Option (List Lit)
clause_named subs facts goal Truth = Some (record { on = true; of = TruthBit } ∷ [])
clause_named subs facts goal Goal = Some (opposite_of (own goal 0) ∷ [])
clause_named subs facts goal (Fact n) = option_map (λ i. own i 0 ∷ []) (slice_get facts n)
clause_named subs facts goal (Step n) = None
clause_named subs facts goal (Axiom i part j row) = option_and_then (λ p. part_clause p row) (part_at subs i part j)

-- the same of a problem
abbrev pub clause_in : Problem → Hint → Option (List Lit)
clause_in p name = clause_named p.subs p.facts p.goal name
