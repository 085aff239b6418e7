-- The rules in small: what is said of one part, where its place asks for a type or for none. An unknown type is one of a part with a fault in it.
use Rattle.std.specs.Prelude.{ℕ, ◌+◌, ◌-◌, ◌^◌, Bool, true, false, not, List, [], ◌∷◌, length, min, Option, Some, None, bytes_eq, nat_eq, nat_lt, nat_le, ◌&&◌, ◌||◌, if◌then◌else◌}
use Rattle.bv_bits.specs.Bits.{is_width}
use Rattle.bv_bits.specs.declared.Bits.{Bits}
use Rattle.sail_syntax.specs.Tree.{Text, Tree, node, Trees, none, some, Cases, no_case, case, Steps, done, next}
use Rattle.sail_syntax.specs.Types.{is_same_type}
use Rattle.sail_syntax.specs.declared.tree.Infix.{Infix}
use Rattle.sail_syntax.specs.declared.tree.Infix.TheVariants as operator
use Rattle.sail_syntax.specs.declared.tree.Index.{Index}
use Rattle.sail_syntax.specs.declared.types.Ty.{Ty}
use Rattle.sail_syntax.specs.declared.types.Ty.TheVariants as ty
use Rattle.sail_syntax.specs.declared.patterns.Part.{Part}
use Rattle.sail_syntax.specs.declared.patterns.Part.TheVariants as part
use Rattle.type_rules.specs.declared.fault.Why.{Why}
use Rattle.type_rules.specs.declared.fault.Why.TheVariants.{Unknown, Twice, Differs, Later}
use Rattle.type_rules.specs.declared.scope.Item.{Item}
use Rattle.type_rules.specs.declared.scope.Item.TheVariants as item
use Rattle.type_rules.specs.declared.scope.Slot.{Slot}
use Rattle.type_rules.specs.declared.scope.Slot.TheVariants as slot
use Rattle.type_rules.specs.declared.scope.Entry.{Entry}
use Rattle.type_rules.specs.declared.scope.Sort.{Sort}
use Rattle.type_rules.specs.declared.scope.Sort.TheVariants.{Holds, Counts}
use Rattle.type_rules.specs.declared.scope.Local.{Local}
use Rattle.type_rules.specs.declared.scope.Target.{Target}
use Rattle.type_rules.specs.declared.scope.Target.TheVariants as target
use Rattle.type_rules.specs.declared.scope.Span.{Span}
use Rattle.type_rules.specs.declared.scope.Span.TheVariants as span
use Rattle.type_rules.specs.declared.scope.Ending.{Ending}
use Rattle.type_rules.specs.declared.scope.Ending.TheVariants as ending
use Rattle.type_rules.specs.Faults.{Faults, fine, fault, both}
use Rattle.type_rules.specs.Names.{find, look, is_free, known}

-- ---- what is judged

-- the type, where it is known, and all faults
pub record Judged : Type 0 where
  pub type : Option Ty
  pub faults : Faults

-- a type and no fault
abbrev pub is : Option Ty → Judged
is t = record { type = t; faults = fine }

-- a fault at a place, and no type
abbrev pub says : ℕ → Why → Judged
says at why = record { type = None; faults = fault (record { at = at; why = why }) }

-- a part, and then what is judged with its type
abbrev pub bind : Judged → (Option Ty → Judged) → Judged
bind j f = record { type = (f j.type).type; faults = both j.faults (f j.type).faults }

-- the first type, and the second one where that isn't known
abbrev pub or_else : Option Ty → Option Ty → Option Ty
or_else (Some t) u = Some t
or_else None u = u

-- the same where the second type is there
abbrev pub or_type : Option Ty → Ty → Ty
or_type (Some t) u = t
or_type None u = u

-- where the first token of an expression begins
abbrev pub place_of : Tree → ℕ
place_of (node at form) = at

-- another type than the one that is asked for
abbrev pub differs : Ty → Ty → ℕ → Judged
differs want got at = says at (Differs want got)

-- a type, where its place asks for one or for none
abbrev pub fits : ℕ → Option Ty → Option Ty → Judged
fits at want None = is None
fits at None (Some t) = is (Some t)
fits at (Some w) (Some t) = if is_same_type w t then is (Some t) else differs w t at

-- an expression that breaks a rule has no type, and is told to have unit
abbrev pub no_type : ℕ → Option Ty → Judged
no_type at want = differs (or_type want ty.Unit) ty.Unit at

-- a type where the rule holds
abbrev pub where_holds : Bool → ℕ → Option Ty → Option Ty → Judged
where_holds true at want t = fits at want t
where_holds false at want t = no_type at want

-- bits of any width
abbrev pub bits_only : ℕ → Option Ty → Judged
bits_only at None = is None
bits_only at (Some (ty.Bits w)) = is (Some (ty.Bits w))
bits_only at (Some ty.Unit) = differs ty.Unit ty.Unit at
bits_only at (Some ty.Bool) = differs ty.Bool ty.Bool at
bits_only at (Some (ty.Enum x)) = differs (ty.Enum x) (ty.Enum x) at

-- a literal is a value: it has a width from 1 to 128, and its number has no more bits
abbrev pub is_value : Bits → Bool
is_value b = is_width b.width && nat_lt b.value (2 ^ b.width)

-- ---- chains

-- the operator joins bits
abbrev pub is_join : Infix → Bool
is_join operator.Join = true
is_join operator.Add = false
is_join operator.Sub = false
is_join operator.Mul = false
is_join operator.And = false
is_join operator.Or = false
is_join operator.Xor = false
is_join operator.Eq = false
is_join operator.Ne = false

-- the operator compares two values
abbrev pub compares : Infix → Bool
compares operator.Eq = true
compares operator.Ne = true
compares operator.Add = false
compares operator.Sub = false
compares operator.Mul = false
compares operator.And = false
compares operator.Or = false
compares operator.Xor = false
compares operator.Join = false

-- the operator takes bool too
abbrev pub takes_bool : Infix → Bool
takes_bool operator.And = true
takes_bool operator.Or = true
takes_bool operator.Eq = true
takes_bool operator.Ne = true
takes_bool operator.Add = false
takes_bool operator.Sub = false
takes_bool operator.Mul = false
takes_bool operator.Xor = false
takes_bool operator.Join = false

-- the operator takes values of the type: bits, bool for some, enums where it compares
abbrev pub takes : Infix → Ty → Bool
takes op (ty.Bits w) = true
takes op ty.Bool = takes_bool op
takes op (ty.Enum x) = compares op
takes op ty.Unit = false

-- the first part of a chain fixes what the others are asked for
abbrev pub heads : Infix → ℕ → Option Ty → Judged
heads op at None = is None
heads op at (Some t) = if takes op t then is (Some t) else differs t t at

-- the type of a chain whose parts have the type
abbrev pub chain_type : Infix → Option Ty → Option Ty
chain_type op t = if compares op then Some ty.Bool else t

-- so many parts may stand in a chain: two where it compares, else two or more
abbrev pub is_chain_of : Infix → ℕ → Bool
is_chain_of op n = if compares op then nat_eq n 2 else nat_le 2 n

-- how many expressions
abbrev pub count : Trees → ℕ
count none = 0
count (some a rest) = count rest + 1

-- a sum of widths, which stays where it is once it is past 128
abbrev pub widened : ℕ → ℕ → ℕ
widened total w = if nat_lt 128 total then total else total + w

-- the width of bits; what isn't known has at least one bit
abbrev pub least_width : Option Ty → ℕ
least_width (Some (ty.Bits w)) = w
least_width (Some ty.Unit) = 1
least_width (Some ty.Bool) = 1
least_width (Some (ty.Enum x)) = 1
least_width None = 1

-- the type is known
abbrev pub is_known : Option Ty → Bool
is_known (Some t) = true
is_known None = false

-- bits of so many in all, where each part's width is known
abbrev pub total_type : ℕ → Bool → Option Ty
total_type total true = Some (ty.Bits total)
total_type total false = None

-- joined bits have at most 128
abbrev pub joined : ℕ → Option Ty → ℕ → Bool → Judged
joined at want total all_known = where_holds (nat_le total 128) at want (total_type total all_known)

-- ---- slices

-- no variable, or one
abbrev pub is_same_var : Option Text → Option Text → Bool
is_same_var None None = true
is_same_var (Some x) (Some y) = bytes_eq x y
is_same_var None (Some y) = false
is_same_var (Some x) None = false

-- which numbers a local name stands for in an index
abbrev pub span_sort : Option Sort → Span
span_sort (Some (Counts a b)) = span.Over a b
span_sort (Some (Holds t v)) = span.Missing
span_sort None = span.Missing

-- which numbers the name of an index stands for
abbrev pub span_of : Option Text → List Local → Span
span_of None scope = span.Fixed
span_of (Some x) scope = span_sort (look x scope)

-- no foreach variable
abbrev pub is_missing : Span → Bool
is_missing span.Missing = true
is_missing span.Fixed = false
is_missing (span.Over a b) = false

-- the name of an index that is no foreach variable
abbrev pub missing : Option Text → Span → ℕ → Faults
missing None s at = fine
missing (Some x) span.Missing at = fault (record { at = at; why = Unknown x })
missing (Some x) span.Fixed at = fine
missing (Some x) (span.Over a b) at = fine

-- the index is below the width for each number that its name stands for; the last one is the greatest
abbrev pub is_below : Span → ℕ → ℕ → Bool
is_below span.Fixed plus w = nat_lt plus w
is_below (span.Over a b) plus w = nat_lt b a || nat_lt (plus + b) w
is_below span.Missing plus w = true

-- the same for the width of bits, where it is known
abbrev pub is_inside : Span → ℕ → Option Ty → Bool
is_inside s plus (Some (ty.Bits w)) = is_below s plus w
is_inside s plus (Some ty.Unit) = true
is_inside s plus (Some ty.Bool) = true
is_inside s plus (Some (ty.Enum x)) = true
is_inside s plus None = true

-- both indices have one variable or none, the first isn't below the second one and is at most 127
abbrev pub is_range : Index → Index → Bool
is_range hi lo = is_same_var hi.var lo.var && nat_le lo.plus hi.plus && nat_le hi.plus 127

-- how many bits stand between two indices; of indices that are too far apart, which break a rule, no more than 128
abbrev pub between : Index → Index → ℕ
between hi lo = min (hi.plus - lo.plus) 127 + 1

-- the indices of a slice or an update of bits, which then has this type
abbrev pub sliced : ℕ → Option Ty → Index → Index → Span → Span → Option Ty → Option Ty → Judged
sliced at want hi lo s r of t =
    if is_missing s || is_missing r then is None
    else where_holds (is_range hi lo && is_inside s hi.plus of) at want t

-- the same with the names of the indices
abbrev pub indexed : ℕ → Option Ty → Index → Index → List Local → Option Ty → Option Ty → Judged
indexed at want hi lo scope of t =
    bind (record { type = None; faults = both (missing hi.var (span_of hi.var scope) at) (missing lo.var (span_of lo.var scope) at) })
    (λ _. sliced at want hi lo (span_of hi.var scope) (span_of lo.var scope) of t)

-- ---- widening

-- bits that have such a width may be widened to so many
abbrev pub widens : ℕ → Option Ty → Bool
widens to (Some (ty.Bits w)) = is_width to && nat_le w to
widens to (Some ty.Unit) = is_width to
widens to (Some ty.Bool) = is_width to
widens to (Some (ty.Enum x)) = is_width to
widens to None = is_width to

-- ---- patterns

-- a pattern of a type, where a value of a type is matched; the place is that of the arm's body
abbrev pub pattern_fits : ℕ → Option Ty → Ty → Judged
pattern_fits at None got = is None
pattern_fits at (Some on) got = if is_same_type on got then is None else differs on got at

-- a pattern that breaks a rule is told to have unit
abbrev pub bad_pattern : ℕ → Option Ty → Judged
bad_pattern at on = differs (or_type on ty.Unit) ty.Unit at

-- a literal
abbrev pub literal_fits : ℕ → Option Ty → Bits → Judged
literal_fits at on b = if is_value b then pattern_fits at on (ty.Bits b.width) else bad_pattern at on

-- how wide a part is
abbrev pub part_width : Part → ℕ
part_width (part.Lit b) = b.width
part_width (part.Bind x w) = w
part_width (part.Skip w) = w

-- a part is a value, or has a width from 1 to 128
abbrev pub is_part : Part → Bool
is_part (part.Lit b) = is_value b
is_part (part.Bind x w) = is_width w
is_part (part.Skip w) = is_width w

-- parts of so many bits in all, where each is one; they have at most 128
abbrev pub parts_fit : ℕ → Option Ty → ℕ → Bool → Judged
parts_fit at on total are_parts = if are_parts && nat_le total 128 then pattern_fits at on (ty.Bits total) else bad_pattern at on

-- there is an arm
abbrev pub has_arm : Cases → Bool
has_arm no_case = false
has_arm (case c rest) = true

-- ---- assignments

-- what a local name takes
abbrev pub local_target : Sort → Target
local_target (Holds t true) = target.Takes t
local_target (Holds t false) = target.Refuses
local_target (Counts a b) = target.Refuses

-- what a name of the whole text takes
abbrev pub global_target : Option Item → Target
global_target (Some (item.Register w)) = target.Takes (Some (ty.Bits w))
global_target (Some (item.Member e)) = target.Refuses
global_target (Some item.Enum) = target.Refuses
global_target (Some (item.Function ps r after)) = target.Refuses
global_target None = target.Missing

-- what is asked of a value that is assigned
abbrev pub asked_of : Target → Option Ty
asked_of (target.Takes t) = t
asked_of target.Refuses = None
asked_of target.Missing = None

-- an assignment has unit
abbrev pub assigned : Text → ℕ → Option Ty → Target → Judged
assigned x at want (target.Takes t) = fits at want (Some ty.Unit)
assigned x at want target.Refuses = no_type at want
assigned x at want target.Missing = says at (Unknown x)

-- ---- calls

-- what is asked of the first argument
abbrev pub slot_of : List Slot → Option Slot
slot_of [] = None
slot_of (s ∷ ss) = Some s

-- what is asked of the others
abbrev pub slots_after : List Slot → List Slot
slots_after [] = []
slots_after (s ∷ ss) = ss

-- an argument of which bits are asked
abbrev pub narrowed : Option Slot → ℕ → Option Ty → Judged
narrowed (Some slot.AnyBits) at t = bits_only at t
narrowed (Some (slot.Is q)) at t = is t
narrowed (Some slot.Alike) at t = is t
narrowed None at t = is t

-- a call of a function that isn't complete yet
abbrev pub finished : Bool → Text → ℕ → Judged
finished true f at = is None
finished false f at = says at (Later f)

-- a call whose function gives the type, with so many arguments as it has parameters or not
abbrev pub counted : Bool → ℕ → Option Ty → Option Ty → Judged
counted true at want result = fits at want result
counted false at want result = bind (differs (or_type want (or_type result ty.Unit)) (or_type result ty.Unit) at) (λ _. fits at want result)

-- ---- statements

-- the type of a local: the one that is written, or that of its value
abbrev pub local_type : Option Ty → Option Ty → Option Ty → Option Ty
local_type None asked got = got
local_type (Some t) asked got = asked

-- no statement
abbrev pub is_done : Steps → Bool
is_done done = true
is_done (next s rest) = false

-- what a statement is asked for: the last one what the block is asked for, others unit
abbrev pub step_want : Bool → Option Ty → Option Ty
step_want true want = want
step_want false want = Some ty.Unit

-- the end of a block: one that ends with a declaration or nothing has unit
abbrev pub ended : ℕ → Option Ty → Ending → Judged
ended at want ending.Open = fits at want (Some ty.Unit)
ended at want (ending.Value t) = is t

-- ---- names

-- the type of a name of the whole text: registers and members have one
abbrev pub item_type : Option Item → Option Ty
item_type (Some (item.Register w)) = Some (ty.Bits w)
item_type (Some (item.Member e)) = Some (ty.Enum e)
item_type (Some item.Enum) = None
item_type (Some (item.Function ps r after)) = None
item_type None = None

-- a type of a name, where it has one
abbrev pub named : Text → ℕ → Option Ty → Judged
named x at (Some t) = is (Some t)
named x at None = says at (Unknown x)

-- a type that isn't one: a name that is no enum's, or bits of a width outside 1 to 128
abbrev pub no_such_type : ℕ → Ty → Judged
no_such_type at (ty.Enum x) = says at (Unknown x)
no_such_type at ty.Unit = differs ty.Unit ty.Unit at
no_such_type at ty.Bool = differs ty.Bool ty.Bool at
no_such_type at (ty.Bits w) = differs (ty.Bits w) (ty.Bits w) at

-- a type that is written
abbrev pub type_named : Option Ty → ℕ → Ty → Judged
type_named (Some t) at u = is (Some t)
type_named None at u = no_such_type at u

module _ (globals : List Entry) where
  -- a name that is an expression; a foreach variable isn't one
  abbrev pub read_name : Text → ℕ → Option Sort → Judged
  read_name x at (Some (Holds t v)) = is t
  read_name x at (Some (Counts a b)) = says at (Unknown x)
  read_name x at None = named x at (item_type (find x globals))

  -- a new local has no name of the whole text
  abbrev pub taken : Text → ℕ → Judged
  taken x at = if is_free (find x globals) then is None else says at (Twice x)

  -- what is assigned to a name
  abbrev pub target_of : Option Sort → Text → Target
  target_of (Some s) x = local_target s
  target_of None x = global_target (find x globals)

  -- a type that is written
  abbrev pub written : ℕ → Ty → Judged
  written at t = type_named (known globals t) at t

  -- a type that may be written
  abbrev pub maybe_written : ℕ → Option Ty → Judged
  maybe_written at None = is None
  maybe_written at (Some t) = written at t

  -- the type that is asked of an argument
  abbrev pub asked_slot : Option Slot → Option Ty → Option Ty
  asked_slot (Some (slot.Is q)) one = known globals q
  asked_slot (Some slot.AnyBits) one = None
  asked_slot (Some slot.Alike) one = one
  asked_slot None one = None

  -- the type that a function gives, where its first argument has the other one
  abbrev pub given_type : Option Ty → Option Ty → Option Ty
  given_type (Some r) one = known globals r
  given_type None one = one
