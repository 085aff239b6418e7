-- The names of a text stand for accesses of 1, 2, 4, 8 or 16 bytes, and for registers of the text.
use Rattle.std.proofs.Common.{◌≡◌, ℕ, zero, suc, ◌+◌, ◌*◌, ◌<◌, ◌≤◌, true, false, List, [], ◌∷◌, ◌++◌, length, Option, Some, None, Contains, bytes_eq, refl, arith}
use Rattle.std.specs.Prelude.{⊤, map, slice_get, slice_index_or, if◌then◌else◌}
use Rattle.bv_bits.specs.Bits.{IsWidth}
use Rattle.lex_core.specs.declared.name.RegDecl.{RegDecl}
use Rattle.sail_syntax.specs.Tree.{Text}
use Rattle.sail_syntax.specs.Program.{Definition, order, register, enumeration, signature, function, registers_of}
use Rattle.sail_names.specs.declared.things.Named.{Named}
use Rattle.sail_names.specs.declared.things.Thing.{Thing}
use Rattle.sail_names.specs.declared.things.Thing.TheVariants as thing
use Rattle.sail_names.specs.declared.things.Given.{Given}
use Rattle.sail_names.specs.declared.things.Given.TheVariants as given
use Rattle.sail_names.specs.Things.{find_thing, prelude_things, members_from, things_from, things_of}
use Rattle.type_rules.specs.declared.scope.Entry.{Entry}
use Rattle.type_rules.specs.Heights.{Height}
use Rattle.type_rules.specs.IsTyped.{AreTypedDefinitions}
use Rattle.trace_plain.specs.Rules.{IsByteCount, register_width}
use Rattle.sym_rules.specs.Sym.{register_width as declared_width}
use Rattle.sym_shapes.proofs.OverTrees.{IsHandled}

-- ---- accesses

abbrev IsHandledThing : Thing → Type 0
IsHandledThing (thing.Register r) = ⊤
IsHandledThing (thing.Member e i) = ⊤
IsHandledThing (thing.Given g) = IsHandled g
IsHandledThing (thing.Function i) = ⊤

abbrev pub IfHandled : Option Thing → Type 0
IfHandled (Some t) = IsHandledThing t
IfHandled None = ⊤

abbrev pub AreHandled : List Named → Type 0
AreHandled [] = ⊤
AreHandled (n ∷ ns) = IsHandledThing n.thing × AreHandled ns

handled_append : (xs ys : List Named) → AreHandled xs → AreHandled ys → AreHandled (xs ++ ys)
handled_append [] ys h k = k
handled_append (x ∷ xs) ys h k = (h.0, handled_append xs ys h.1 k)

pub found_handled : (x : Text) (ns : List Named) → AreHandled ns → IfHandled (find_thing x ns)
found_handled x [] h = tt
found_handled x (n ∷ ns) h = elim (bytes_eq n.name x) as (λ b. IfHandled (if b then Some n.thing else find_thing x ns)) [ true ↦ h.0 | false ↦ found_handled x ns h.1 ]

members_handled : (e i : ℕ) (ms : List Text) → AreHandled (members_from e i ms)
members_handled e i [] = tt
members_handled e i (m ∷ ms) = (tt, members_handled e (i + 1) ms)

from_handled : (ds : List Definition) (r e i : ℕ) → AreHandled (things_from ds r e i)
from_handled [] r e i = tt
from_handled (order ∷ ds) r e i = from_handled ds (r + 0) (e + 0) (i + 1)
from_handled (register x width at ∷ ds) r e i = (tt, from_handled ds (r + 1) (e + 0) (i + 1))
from_handled (enumeration x members at ∷ ds) r e i = handled_append (members_from e 0 members) (things_from ds (r + 0) (e + 1) (i + 1)) (members_handled e 0 members) (from_handled ds (r + 0) (e + 1) (i + 1))
from_handled (signature x args result at ∷ ds) r e i = from_handled ds (r + 0) (e + 0) (i + 1)
from_handled (function f ∷ ds) r e i = (tt, from_handled ds (r + 0) (e + 0) (i + 1))

prelude_handled : AreHandled prelude_things
unfolding prelude_things
prelude_handled = (tt, (tt, (tt, (tt, (tt, (tt, (tt, (tt, (tt, (tt, ((0, omega (arith), refl), ((1, omega (arith), refl), ((2, omega (arith), refl), ((3, omega (arith), refl), ((4, omega (arith), refl), ((0, omega (arith), refl), ((1, omega (arith), refl), ((2, omega (arith), refl), ((3, omega (arith), refl), ((4, omega (arith), refl), tt))))))))))))))))))))

pub things_handled : (ds : List Definition) → AreHandled (things_of ds)
unfolding things_of
things_handled ds = handled_append prelude_things (things_from ds 0 0 0) prelude_handled (from_handled ds 0 0 0)

-- ---- registers

pub declared_there : (ds : List RegDecl) (r : ℕ) → r < length ds → register_width ds r ≡ Some (slice_index_or (map declared_width ds) r 0)
declared_there [] r h = absurd (omega (arith, h))
declared_there (d ∷ ds) zero h = refl
declared_there (d ∷ ds) (suc r) h = declared_there ds r (omega (arith, h))

abbrev AreWide : List RegDecl → Type 0
AreWide [] = ⊤
AreWide (d ∷ ds) = IsWidth d.width × AreWide ds

wide_at : (ds : List RegDecl) (r : ℕ) → r < length ds → AreWide ds → IsWidth (slice_index_or (map declared_width ds) r 0)
wide_at [] r l h = absurd (omega (arith, l))
wide_at (d ∷ ds) zero l h = h.0
wide_at (d ∷ ds) (suc r) l h = wide_at ds r (omega (arith, l)) h.1

all_wide : (globals : List Entry) (ds : List Definition) (above : List Height) (i : ℕ) → AreTypedDefinitions globals ds above i → AreWide (registers_of ds)
all_wide globals [] above i h = tt
all_wide globals (order ∷ ds) above i h = all_wide globals ds _ _ h.1
all_wide globals (register x width at ∷ ds) above i h = (h.0, all_wide globals ds _ _ h.1)
all_wide globals (enumeration x members at ∷ ds) above i h = all_wide globals ds _ _ h.1
all_wide globals (signature x args result at ∷ ds) above i h = all_wide globals ds _ _ h.1
all_wide globals (function f ∷ ds) above i h = all_wide globals ds _ _ h.1

pub registers_wide : (globals : List Entry) (ds : List Definition) (above : List Height) (i : ℕ) → AreTypedDefinitions globals ds above i → (r : ℕ) → r < length (registers_of ds)
    → IsWidth (slice_index_or (map declared_width (registers_of ds)) r 0)
registers_wide globals ds above i h r low = wide_at (registers_of ds) r low (all_wide globals ds above i h)
