-- The parts of values: bits of vectors, indices, patterns.
use Rattle.std.specs.Prelude.{ℕ, ◌+◌, ◌-◌, Bool, true, ◌&&◌, if◌then◌else◌, nat_eq, nat_lt, List, [], ◌∷◌, Option, Some, None}
use Rattle.bv_bits.specs.declared.Op.TheVariants as op
use Rattle.sail_syntax.specs.Tree.{Text}
use Rattle.sail_syntax.specs.declared.tree.Infix.TheVariants as between
use Rattle.sail_syntax.specs.declared.tree.Index.{Index}
use Rattle.sail_syntax.specs.declared.patterns.Pattern.{Pattern}
use Rattle.sail_syntax.specs.declared.patterns.Pattern.TheVariants as pattern
use Rattle.sail_syntax.specs.declared.patterns.Part.{Part}
use Rattle.sail_syntax.specs.declared.patterns.Part.TheVariants as part
use Rattle.sail_values.specs.declared.value.Value.{Value}
use Rattle.sail_values.specs.declared.value.Value.TheVariants as value
use Rattle.sail_values.specs.declared.value.Slot.{Slot}
use Rattle.sail_values.specs.declared.value.Local.{Local}
use Rattle.sail_values.specs.declared.value.Local.TheVariants as local
use Rattle.sail_values.specs.Values.{operate_one, same, applied}
use Rattle.sail_values.specs.Slots.{look}
use Rattle.sail_names.specs.declared.things.Named.{Named}
use Rattle.sail_names.specs.declared.things.Thing.{Thing}
use Rattle.sail_names.specs.declared.things.Thing.TheVariants as thing
use Rattle.sail_names.specs.Things.{find_thing}

-- ---- indices

-- the number of a foreach variable; 0 of any other local
abbrev pub number_in : Option Local → ℕ
number_in (Some (local.Counts n)) = n
number_in (Some (local.Is v)) = 0
number_in None = 0

-- the number that an index adds to
abbrev pub base_of : Option Text → List Slot → ℕ
base_of (Some x) locals = number_in (look x locals)
base_of None locals = 0

-- the number of a bit
abbrev pub index_at : Index → List Slot → ℕ
index_at i locals = base_of i.var locals + i.plus

-- ---- slices and updates

-- how many bits a value has; 0 where it is no vector
abbrev pub width_in : Value → ℕ
width_in (value.Bits b) = b.width
width_in value.Unit = 0
width_in (value.Truth b) = 0
width_in (value.Member e i) = 0

-- the bits from hi down to lo
abbrev pub sliced : Value → ℕ → ℕ → Value
sliced v hi lo = if nat_lt hi 128 && nat_lt lo 128 then operate_one (op.Extract hi lo) v else value.Unit

-- the bits above one, if there are some, and one part joined to what follows
abbrev pub above : Value → ℕ → Value → Value
above v hi by = if nat_lt (hi + 1) (width_in v) then applied between.Join (sliced v (width_in v - 1) (hi + 1)) by else by

-- the bits below one, if there are some, joined to what is in front of them
abbrev pub below : Value → ℕ → Value → Value
below v lo so_far = if nat_eq lo 0 then so_far else applied between.Join so_far (sliced v (lo - 1) 0)

-- the bits of the first value, those from hi down to lo replaced by the second: the bits above, the new ones and the bits below, from the left
abbrev pub updated : Value → ℕ → ℕ → Value → Value
updated v hi lo by = below v lo (above v hi by)

-- ---- patterns

-- how many bits a part of a pattern takes
abbrev pub part_width : Part → ℕ
part_width (part.Lit b) = b.width
part_width (part.Bind x w) = w
part_width (part.Skip w) = w

-- the highest w of the lowest `left` bits
abbrev pub piece : Value → ℕ → ℕ → Value
piece v left w = sliced v (left - 1) (left - w)

-- whether the bits of a part fit
abbrev pub part_fits : Part → ℕ → Value → Bool
part_fits (part.Lit b) left v = same (value.Bits b) (piece v left b.width)
part_fits (part.Bind x w) left v = true
part_fits (part.Skip w) left v = true

-- whether the lowest `left` bits fit the parts, that of the highest bits first
abbrev pub parts_fit : List Part → ℕ → Value → Bool
parts_fit [] left v = true
parts_fit (p ∷ ps) left v = part_fits p left v && parts_fit ps (left - part_width p) v

-- whether a value fits a name: a member of an enum fits itself alone
abbrev pub name_fits : Option Thing → Value → Bool
name_fits (Some (thing.Member e i)) v = same (value.Member e i) v
name_fits (Some (thing.Register r)) v = true
name_fits (Some (thing.Given g)) v = true
name_fits (Some (thing.Function i)) v = true
name_fits None v = true

-- whether a value fits a pattern
abbrev pub fits : List Named → Pattern → Value → Bool
fits things pattern.Any v = true
fits things (pattern.Name x) v = name_fits (find_thing x things) v
fits things (pattern.Lit b) v = same (value.Bits b) v
fits things (pattern.Truth b) v = same (value.Truth b) v
fits things (pattern.Parts ps) v = parts_fit ps (width_in v) v

-- a local that holds a value
abbrev pub holding : Text → Value → Slot
holding x v = record { name = x; local = local.Is v }

-- the locals behind the one that a part binds
abbrev pub part_bound : Part → ℕ → Value → List Slot → List Slot
part_bound (part.Lit b) left v locals = locals
part_bound (part.Bind x w) left v locals = holding x (piece v left w) ∷ locals
part_bound (part.Skip w) left v locals = locals

-- the locals behind those that the parts bind, the newest in front
abbrev pub parts_bound : List Part → ℕ → Value → List Slot → List Slot
parts_bound [] left v locals = locals
parts_bound (p ∷ ps) left v locals = parts_bound ps (left - part_width p) v (part_bound p left v locals)

-- the locals behind a name: a member of an enum binds nothing
abbrev pub name_bound : Option Thing → Text → Value → List Slot → List Slot
name_bound (Some (thing.Member e i)) x v locals = locals
name_bound (Some (thing.Register r)) x v locals = holding x v ∷ locals
name_bound (Some (thing.Given g)) x v locals = holding x v ∷ locals
name_bound (Some (thing.Function i)) x v locals = holding x v ∷ locals
name_bound None x v locals = holding x v ∷ locals

-- the locals behind those that a pattern binds
abbrev pub pattern_bound : List Named → Pattern → Value → List Slot → List Slot
pattern_bound things pattern.Any v locals = locals
pattern_bound things (pattern.Name x) v locals = name_bound (find_thing x things) x v locals
pattern_bound things (pattern.Lit b) v locals = locals
pattern_bound things (pattern.Truth b) v locals = locals
pattern_bound things (pattern.Parts ps) v locals = parts_bound ps (width_in v) v locals
