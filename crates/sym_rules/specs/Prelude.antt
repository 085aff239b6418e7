-- The functions of the prelude in a symbolic evaluation. Outside their types the value is unit and nothing is done; no typed text comes to that.
use Rattle.std.specs.Prelude.{ℕ, ◌*◌, Bool, true, false, ◌&&◌, if◌then◌else◌, nat_eq, nat_lt, nat_le, List, [], ◌∷◌}
use Rattle.bv_bits.specs.declared.Op.{Op}
use Rattle.bv_bits.specs.declared.Op.TheVariants as op
use Rattle.term_tree.specs.Terms as term
use Rattle.term_tree.specs.Terms.{Tree, width_of}
use Rattle.term_arena.specs.Nodes.{of_term}
use Rattle.term_arena.specs.Said.{said_just, said_then}
use Rattle.trace_plain.specs.Trace.{read_mem, write_mem}
use Rattle.sail_names.specs.declared.things.Given.{Given}
use Rattle.sail_names.specs.declared.things.Given.TheVariants as given
use Rattle.sym_rules.specs.Values.{SymValue, sym_unit, sym_truth, sym_bits, sym_member, SymPath}
use Rattle.sym_rules.specs.Trees.{leaf, naming, on, SymMeaning, sym_pure, Telling, told, making}
use Rattle.sym_rules.specs.Operators.{sym_nth, known_truth, as_truth, sym_operate}
use Rattle.sym_rules.specs.Names.{next_variable, counts_on, bits_leaf}

-- ---- tests

-- the truth of a vector of one bit
abbrev pub tested : SymValue → Telling SymValue
tested (sym_bits t) = said_just (sym_truth t)
tested sym_unit = known_truth false
tested (sym_truth t) = known_truth false
tested (sym_member e i) = known_truth false

-- whether two values compare
abbrev pub sym_compared : Op → SymValue → SymValue → Telling SymValue
sym_compared o a b = said_then (sym_operate o a b) tested

-- the opposite of a bool
abbrev pub opposite_of : SymValue → Telling SymValue
opposite_of (sym_truth t) = as_truth (making (term.one op.Not t))
opposite_of sym_unit = known_truth true
opposite_of (sym_bits t) = known_truth true
opposite_of (sym_member e i) = known_truth true

-- ---- memory

-- whether there are accesses of so many bytes
abbrev pub is_access : ℕ → Bool
is_access n = nat_lt 0 n && nat_le n 16

-- whether a term is an address
abbrev pub is_address_term : Tree → Bool
is_address_term t = nat_eq (width_of t) 64

-- so many bytes become the value of a variable
abbrev pub bytes_read : ℕ → Tree → SymMeaning SymValue
bytes_read n at = λ p. let v = next_variable (8 * n) p in naming (of_term v ∷ []) (on (read_mem p.count at n) (bits_leaf v (counts_on p)))

-- a read of so many bytes at an address
abbrev pub sym_read_bytes : ℕ → SymValue → SymMeaning SymValue
sym_read_bytes n (sym_bits at) = if is_access n && is_address_term at then bytes_read n at else sym_pure sym_unit
sym_read_bytes n sym_unit = sym_pure sym_unit
sym_read_bytes n (sym_truth t) = sym_pure sym_unit
sym_read_bytes n (sym_member e i) = sym_pure sym_unit

-- so many bytes take the value of a term
abbrev pub bytes_written : ℕ → Tree → Tree → SymMeaning SymValue
bytes_written n at t = λ p. on (write_mem at t n) (leaf (record { value = sym_unit; path = p }))

-- a write of what so many bytes hold at an address
abbrev pub vector_written : ℕ → Tree → SymValue → SymMeaning SymValue
vector_written n at (sym_bits t) = if is_access n && is_address_term at && nat_eq (width_of t) (8 * n) then bytes_written n at t else sym_pure sym_unit
vector_written n at sym_unit = sym_pure sym_unit
vector_written n at (sym_truth t) = sym_pure sym_unit
vector_written n at (sym_member e i) = sym_pure sym_unit

-- a write of so many bytes
abbrev pub sym_write_bytes : ℕ → SymValue → SymValue → SymMeaning SymValue
sym_write_bytes n (sym_bits at) v = vector_written n at v
sym_write_bytes n sym_unit v = sym_pure sym_unit
sym_write_bytes n (sym_truth t) v = sym_pure sym_unit
sym_write_bytes n (sym_member e i) v = sym_pure sym_unit

-- ---- calls

-- a call of a function of the prelude on two values; a function of one value looks at the first
abbrev pub sym_given_on : Given → SymValue → SymValue → SymMeaning SymValue
sym_given_on given.Not a b = told (opposite_of a)
sym_given_on given.LtU a b = told (sym_compared op.ULt a b)
sym_given_on given.LtS a b = told (sym_compared op.SLt a b)
sym_given_on given.ShiftLeft a b = told (sym_operate op.Shl a b)
sym_given_on given.ShiftRight a b = told (sym_operate op.LShr a b)
sym_given_on given.ShiftRightArith a b = told (sym_operate op.AShr a b)
sym_given_on given.DivU a b = told (sym_operate op.UDiv a b)
sym_given_on given.RemU a b = told (sym_operate op.URem a b)
sym_given_on given.DivS a b = told (sym_operate op.SDiv a b)
sym_given_on given.RemS a b = told (sym_operate op.SRem a b)
sym_given_on (given.Read n) a b = sym_read_bytes n a
sym_given_on (given.Write n) a b = sym_write_bytes n a b

-- a call of a function of the prelude
abbrev pub sym_given : Given → List SymValue → SymMeaning SymValue
sym_given g vs = sym_given_on g (sym_nth 0 vs) (sym_nth 1 vs)
