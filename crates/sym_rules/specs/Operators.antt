-- Operators on the values of a symbolic evaluation. Outside their types the value is unit; no typed text comes to that.
use Rattle.std.specs.Prelude.{ℕ, Bool, true, false, not, ◌&&◌, if◌then◌else◌, nat_eq, List, [], ◌∷◌, map, Option, Some, None, is_some, slice_get}
use Rattle.std.specs.List.{list_all}
use Rattle.bv_bits.specs.declared.Op.{Op}
use Rattle.bv_bits.specs.declared.Op.TheVariants as op
use Rattle.bv_bits.specs.Bits.{result_width_of, bit}
use Rattle.sail_syntax.specs.declared.tree.Infix.{Infix}
use Rattle.sail_syntax.specs.declared.tree.Infix.TheVariants as between
use Rattle.term_tree.specs.Terms as term
use Rattle.term_tree.specs.Terms.{Tree, width_of, applied}
use Rattle.term_tree.specs.Divisions.{is_division}
use Rattle.term_rules.specs.Rules.{is_literal}
use Rattle.term_arena.specs.Said.{Refuses, says, said_just, said_then, single}
use Rattle.trace_plain.specs.declared.trace.FailKind.TheVariants as failure
use Rattle.sym_rules.specs.Values.{SymValue, sym_unit, sym_truth, sym_bits, sym_member, sym_or_unit}
use Rattle.sym_rules.specs.Trees.{SymMeaning, Telling, told, making, bit_term, fork}

-- ---- values

-- the n-th value, and unit where there is none
abbrev pub sym_nth : ℕ → List SymValue → SymValue
sym_nth i vs = sym_or_unit (slice_get vs i)

-- a bit vector of a term
abbrev pub as_bits : Telling Tree → Telling SymValue
as_bits s = said_then s (λ t. said_just (sym_bits t))

-- a bool of a term of one bit
abbrev pub as_truth : Telling Tree → Telling SymValue
as_truth s = said_then s (λ t. said_just (sym_truth t))

-- a bool that is known
abbrev pub known_truth : Bool → Telling SymValue
known_truth b = as_truth (single (bit_term (bit b)))

-- ---- applications

-- a division whose operands aren't all literals
abbrev pub is_unsupported : Op → List Tree → Bool
is_unsupported o ts = is_division o && not (list_all is_literal ts)

-- an application whose operator has a result at the widths: it is made, unless it is a division that can't be
abbrev pub operated : Op → List Tree → Telling SymValue
operated o ts = if is_unsupported o ts then says (Refuses failure.Unsupported) else as_bits (making (applied o ts))

-- an operator on terms, where it has a result at their widths
abbrev pub operate_terms : Op → List Tree → Telling SymValue
operate_terms o ts = if is_some (result_width_of o (map width_of ts)) then operated o ts else said_just sym_unit

-- an operator on two values
abbrev pub sym_operate : Op → SymValue → SymValue → Telling SymValue
sym_operate o (sym_bits a) (sym_bits b) = operate_terms o (a ∷ b ∷ [])
sym_operate o a b = said_just sym_unit

-- an operator on one value
abbrev pub sym_operate_one : Op → SymValue → Telling SymValue
sym_operate_one o (sym_bits a) = operate_terms o (a ∷ [])
sym_operate_one o sym_unit = said_just sym_unit
sym_operate_one o (sym_truth a) = said_just sym_unit
sym_operate_one o (sym_member e i) = said_just sym_unit

-- the bits turned round
abbrev pub sym_flipped : SymValue → Telling SymValue
sym_flipped v = sym_operate_one op.Not v

-- the bits widened
abbrev pub sym_widened : Bool → ℕ → SymValue → Telling SymValue
sym_widened signed to v = if signed then sym_operate_one (op.SExt to) v else sym_operate_one (op.ZExt to) v

-- ---- tests

-- whether two terms of one width are the same, or differ
abbrev pub related : Op → Bool → Tree → Tree → Telling SymValue
related o otherwise a b = if nat_eq (width_of a) (width_of b) then as_truth (making (term.two o a b)) else known_truth otherwise

-- whether two values are the same, by eq, or differ, by ne, of their terms; what is known is turned round for the second
abbrev pub compares_same : Op → (Bool → Bool) → SymValue → SymValue → Telling SymValue
compares_same o turn (sym_bits a) (sym_bits b) = related o (turn false) a b
compares_same o turn (sym_truth a) (sym_truth b) = as_truth (making (term.two o a b))
compares_same o turn sym_unit sym_unit = known_truth (turn true)
compares_same o turn (sym_member e i) (sym_member f j) = known_truth (turn (nat_eq e f && nat_eq i j))
compares_same o turn a b = known_truth (turn false)

-- the same truth
abbrev pub as_it_is : Bool → Bool
as_it_is b = b

-- whether two values are the same
abbrev pub sym_same : SymValue → SymValue → Telling SymValue
sym_same a b = compares_same op.Eq as_it_is a b

-- whether they differ
abbrev pub sym_differ : SymValue → SymValue → Telling SymValue
sym_differ a b = compares_same op.Ne not a b

-- ---- infix operators

-- `&` or `|`: of bools the left side is open, and the value is the right one
abbrev pub open_or : Op → SymValue → SymValue → Telling SymValue
open_or o (sym_truth a) b = said_just b
open_or o sym_unit b = sym_operate o sym_unit b
open_or o (sym_bits a) b = sym_operate o (sym_bits a) b
open_or o (sym_member e i) b = sym_operate o (sym_member e i) b

-- an infix operator on two values; on bools, `&` and `|` come here with the left side open alone
abbrev pub sym_applied : Infix → SymValue → SymValue → Telling SymValue
sym_applied between.Add a b = sym_operate op.Add a b
sym_applied between.Sub a b = sym_operate op.Sub a b
sym_applied between.Mul a b = sym_operate op.Mul a b
sym_applied between.And a b = open_or op.And a b
sym_applied between.Or a b = open_or op.Or a b
sym_applied between.Xor a b = sym_operate op.Xor a b
sym_applied between.Join a b = sym_operate op.Concat a b
sym_applied between.Eq a b = sym_same a b
sym_applied between.Ne a b = sym_differ a b

-- ---- forks

-- what comes behind the left side of a chain: of bools it is left out where the left side alone decides, and the chain has then that truth
abbrev pub unless_decided : Infix → SymValue → SymMeaning SymValue → SymMeaning SymValue
unless_decided between.And (sym_truth t) further = fork t further (told (known_truth false))
unless_decided between.Or (sym_truth t) further = fork t (told (known_truth true)) further
unless_decided o v further = further

-- one part where a value is the true bool, another where it isn't
abbrev pub sym_choose : {X : Type 0} → SymValue → SymMeaning X → SymMeaning X → SymMeaning X
sym_choose (sym_truth t) yes_part no_part = fork t yes_part no_part
sym_choose sym_unit yes_part no_part = no_part
sym_choose (sym_bits t) yes_part no_part = no_part
sym_choose (sym_member e i) yes_part no_part = no_part
