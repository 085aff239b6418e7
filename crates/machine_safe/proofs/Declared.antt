-- A name of a text that stands for a register stands for one that the text declares.
use Rattle.std.proofs.Common.{ℕ, ◌+◌, ◌≤◌, Bool, true, false, List, [], ◌∷◌, ◌++◌, length, Some, arith}
use Rattle.std.specs.Prelude.{bytes_eq, if◌then◌else◌}
use Rattle.std.specs.declared.option.Option.{Option}
use Rattle.sail_syntax.specs.Tree.{Text}
use Rattle.sail_syntax.specs.Program.{Definition, order, register, enumeration, signature, function, registers_of}
use Rattle.sail_names.specs.declared.things.Named.{Named}
use Rattle.sail_names.specs.declared.things.Thing.{Thing}
use Rattle.sail_names.specs.Things.{find_thing, members_from, things_from, things_of, prelude_things}
use Rattle.machine_safe.proofs.SeenParts.{ThingBelow}

abbrev EachBelow : ℕ → List Named → Type 0
EachBelow n [] = Unit {0}
EachBelow n (e ∷ rest) = ThingBelow n (Some e.thing) × EachBelow n rest

each_append : (n : ℕ) (a b : List Named) → EachBelow n a → EachBelow n b → EachBelow n (a ++ b)
each_append n [] b h k = k
each_append n (e ∷ a) b h k = (h.0, each_append n a b h.1 k)

found_by : (n : ℕ) (b : Bool) (t : Thing) (o : Option Thing) → ThingBelow n (Some t) → ThingBelow n o → ThingBelow n (if b then Some t else o)
found_by n true t o here rest = here
found_by n false t o here rest = rest

found_below : (n : ℕ) (things : List Named) (x : Text) → EachBelow n things → ThingBelow n (find_thing x things)
found_below n [] x each = tt
found_below n (e ∷ rest) x each = found_by n (bytes_eq e.name x) e.thing (find_thing x rest) each.0 (found_below n rest x each.1)

members_below : (n e i : ℕ) (ms : List Text) → EachBelow n (members_from e i ms)
members_below n e i [] = tt
members_below n e i (m ∷ ms) = (tt, members_below n e (i + 1) ms)

declared_below : (n r e i : ℕ) (ds : List Definition) → r + length (registers_of ds) ≤ n → EachBelow n (things_from ds r e i)
declared_below n r e i [] few = tt
declared_below n r e i (order ∷ ds) few = declared_below n (r + 0) (e + 0) (i + 1) ds (omega (arith, few))
declared_below n r e i (register x width at ∷ ds) few = ((omega (arith, few)), declared_below n (r + 1) (e + 0) (i + 1) ds (omega (arith, few)))
declared_below n r e i (enumeration x members at ∷ ds) few =
    each_append n (members_from e 0 members) (things_from ds (r + 0) (e + 1) (i + 1)) (members_below n e 0 members)
    (declared_below n (r + 0) (e + 1) (i + 1) ds (omega (arith, few)))
declared_below n r e i (signature x args result at ∷ ds) few = declared_below n (r + 0) (e + 0) (i + 1) ds (omega (arith, few))
declared_below n r e i (function f ∷ ds) few = (tt, declared_below n (r + 0) (e + 0) (i + 1) ds (omega (arith, few)))

prelude_below : (n : ℕ) → EachBelow n prelude_things
unfolding prelude_things
prelude_below n = (tt, (tt, (tt, (tt, (tt, (tt, (tt, (tt, (tt, (tt, (tt, (tt, (tt, (tt, (tt, (tt, (tt, (tt, (tt, (tt, tt))))))))))))))))))))

pub names_below : (defs : List Definition) (x : Text) → ThingBelow (length (registers_of defs)) (find_thing x (things_of defs))
unfolding things_of
names_below defs x =
    let n = length (registers_of defs) in
    found_below n (prelude_things ++ things_from defs 0 0 0) x
    (each_append n prelude_things (things_from defs 0 0 0) (prelude_below n) (declared_below n 0 0 0 defs (omega arith)))
