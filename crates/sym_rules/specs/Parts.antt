-- The parts of values in a symbolic evaluation: bits of vectors, patterns and what they bind.
use Rattle.std.specs.Prelude.{ℕ, ◌+◌, ◌-◌, Bool, true, false, not, ◌&&◌, if◌then◌else◌, nat_eq, nat_lt, List, [], ◌∷◌, Option, Some, None}
use Rattle.bv_bits.specs.declared.Bits.{Bits}
use Rattle.bv_bits.specs.declared.Op.TheVariants as op
use Rattle.bv_bits.specs.Bits.{bit}
use Rattle.sail_syntax.specs.Tree.{Text}
use Rattle.sail_syntax.specs.declared.tree.Infix.TheVariants as between
use Rattle.sail_syntax.specs.declared.tree.Index.{Index}
use Rattle.sail_syntax.specs.declared.patterns.Pattern.{Pattern}
use Rattle.sail_syntax.specs.declared.patterns.Pattern.TheVariants as pattern
use Rattle.sail_syntax.specs.declared.patterns.Part.{Part}
use Rattle.sail_syntax.specs.declared.patterns.Part.TheVariants as part
use Rattle.term_tree.specs.Terms as term
use Rattle.term_tree.specs.Terms.{Tree, width_of}
use Rattle.term_arena.specs.Said.{said_just, said_then, single}
use Rattle.eval_rules.specs.Parts.{part_width}
use Rattle.sail_names.specs.declared.things.Named.{Named}
use Rattle.sail_names.specs.declared.things.Thing.{Thing}
use Rattle.sail_names.specs.declared.things.Thing.TheVariants as thing
use Rattle.sail_names.specs.Things.{find_thing}
use Rattle.sym_rules.specs.Values.{SymValue, sym_unit, sym_truth, sym_bits, sym_member, SymLocal, sym_is, sym_counts, SymSlot, sym_look, sym_width}
use Rattle.sym_rules.specs.Trees.{Telling, making, bit_term}
use Rattle.sym_rules.specs.Operators.{sym_operate_one, sym_applied}

-- ---- indices

-- the number of a foreach variable; 0 of any other local
abbrev pub sym_number : Option SymLocal → ℕ
sym_number (Some (sym_counts n)) = n
sym_number (Some (sym_is v)) = 0
sym_number None = 0

-- the number that an index adds to
abbrev pub sym_base : Option Text → List SymSlot → ℕ
sym_base (Some x) locals = sym_number (sym_look x locals)
sym_base None locals = 0

-- the number of a bit
abbrev pub sym_index : Index → List SymSlot → ℕ
sym_index i locals = sym_base i.var locals + i.plus

-- ---- slices and updates

-- the bits from hi down to lo
abbrev pub sym_sliced : SymValue → ℕ → ℕ → Telling SymValue
sym_sliced v hi lo = if nat_lt hi 128 && nat_lt lo 128 then sym_operate_one (op.Extract hi lo) v else said_just sym_unit

-- the bits above one, if there are some, joined to what follows
abbrev pub sym_above : SymValue → ℕ → SymValue → Telling SymValue
sym_above v hi by =
    if nat_lt (hi + 1) (sym_width v) then said_then (sym_sliced v (sym_width v - 1) (hi + 1)) (λ high. sym_applied between.Join high by) else said_just by

-- the bits below one, if there are some, joined to what is in front of them
abbrev pub sym_below : SymValue → ℕ → SymValue → Telling SymValue
sym_below v lo so_far = if nat_eq lo 0 then said_just so_far else said_then (sym_sliced v (lo - 1) 0) (λ low. sym_applied between.Join so_far low)

-- the bits of the first value, those from hi down to lo replaced by the second
abbrev pub sym_updated : SymValue → ℕ → ℕ → SymValue → Telling SymValue
sym_updated v hi lo by = said_then (sym_above v hi by) (λ so_far. sym_below v lo so_far)

-- ---- conditions of patterns: a term of one bit each

-- the literal bit of a truth
abbrev pub known_bit : Bool → Telling Tree
known_bit b = single (bit_term (bit b))

-- the eq of a value and a literal; 0 where it is no vector of the literal's width
abbrev pub equals_literal : Bits → SymValue → Telling Tree
equals_literal b (sym_bits t) =
    if nat_eq b.width (width_of t) then said_then (single (term.lit b)) (λ l. making (term.two op.Eq t l)) else known_bit false
equals_literal b sym_unit = known_bit false
equals_literal b (sym_truth t) = known_bit false
equals_literal b (sym_member e i) = known_bit false

-- a bool, or its opposite
abbrev pub equals_truth : Bool → SymValue → Telling Tree
equals_truth b (sym_truth t) = if b then said_just t else making (term.one op.Not t)
equals_truth b sym_unit = known_bit false
equals_truth b (sym_bits t) = known_bit false
equals_truth b (sym_member e i) = known_bit false

-- whether a value is a member of an enum
abbrev pub is_member : ℕ → ℕ → SymValue → Bool
is_member e i (sym_member f j) = nat_eq e f && nat_eq i j
is_member e i sym_unit = false
is_member e i (sym_truth t) = false
is_member e i (sym_bits t) = false

-- a name: a member of an enum fits itself alone
abbrev pub name_condition : Option Thing → SymValue → Telling Tree
name_condition (Some (thing.Member e i)) v = known_bit (is_member e i v)
name_condition (Some (thing.Register r)) v = known_bit true
name_condition (Some (thing.Given g)) v = known_bit true
name_condition (Some (thing.Function i)) v = known_bit true
name_condition None v = known_bit true

-- the highest w of the lowest `left` bits
abbrev pub sym_piece : SymValue → ℕ → ℕ → Telling SymValue
sym_piece v left w = sym_sliced v (left - 1) (left - w)

-- the condition so far and that of a part
abbrev pub part_condition : Part → ℕ → SymValue → Tree → Telling Tree
part_condition (part.Lit b) left v so_far =
    said_then (sym_piece v left b.width) (λ piece. said_then (equals_literal b piece) (λ t. making (term.two op.And so_far t)))
part_condition (part.Bind x w) left v so_far = said_just so_far
part_condition (part.Skip w) left v so_far = said_just so_far

-- the condition so far and those of parts, from the left, of the lowest `left` bits
abbrev pub parts_condition : List Part → ℕ → SymValue → Tree → Telling Tree
parts_condition [] left v so_far = said_just so_far
parts_condition (p ∷ ps) left v so_far = said_then (part_condition p left v so_far) (λ t. parts_condition ps (left - part_width p) v t)

-- the condition on which a value fits a pattern
abbrev pub condition : List Named → Pattern → SymValue → Telling Tree
condition things pattern.Any v = known_bit true
condition things (pattern.Name x) v = name_condition (find_thing x things) v
condition things (pattern.Lit b) v = equals_literal b v
condition things (pattern.Truth b) v = equals_truth b v
condition things (pattern.Parts ps) v = said_then (known_bit true) (λ so_far. parts_condition ps (sym_width v) v so_far)

-- ---- what patterns bind

-- a local that holds a value
abbrev pub sym_holding : Text → SymValue → SymSlot
sym_holding x v = record { name = x; local = sym_is v }

-- the locals behind the one that a part binds
abbrev pub sym_part_bound : Part → ℕ → SymValue → List SymSlot → Telling (List SymSlot)
sym_part_bound (part.Lit b) left v locals = said_just locals
sym_part_bound (part.Bind x w) left v locals = said_then (sym_piece v left w) (λ piece. said_just (sym_holding x piece ∷ locals))
sym_part_bound (part.Skip w) left v locals = said_just locals

-- the locals behind those that the parts bind, the newest in front
abbrev pub sym_parts_bound : List Part → ℕ → SymValue → List SymSlot → Telling (List SymSlot)
sym_parts_bound [] left v locals = said_just locals
sym_parts_bound (p ∷ ps) left v locals = said_then (sym_part_bound p left v locals) (λ more. sym_parts_bound ps (left - part_width p) v more)

-- the locals behind a name: a member of an enum binds nothing
abbrev pub sym_name_bound : Option Thing → Text → SymValue → List SymSlot → List SymSlot
sym_name_bound (Some (thing.Member e i)) x v locals = locals
sym_name_bound (Some (thing.Register r)) x v locals = sym_holding x v ∷ locals
sym_name_bound (Some (thing.Given g)) x v locals = sym_holding x v ∷ locals
sym_name_bound (Some (thing.Function i)) x v locals = sym_holding x v ∷ locals
sym_name_bound None x v locals = sym_holding x v ∷ locals

-- the locals behind those that a pattern binds
abbrev pub sym_pattern_bound : List Named → Pattern → SymValue → List SymSlot → Telling (List SymSlot)
sym_pattern_bound things pattern.Any v locals = said_just locals
sym_pattern_bound things (pattern.Name x) v locals = said_just (sym_name_bound (find_thing x things) x v locals)
sym_pattern_bound things (pattern.Lit b) v locals = said_just locals
sym_pattern_bound things (pattern.Truth b) v locals = said_just locals
sym_pattern_bound things (pattern.Parts ps) v locals = sym_parts_bound ps (sym_width v) v locals
