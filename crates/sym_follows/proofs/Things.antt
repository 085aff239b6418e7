-- What the names of a text stand for: registers that are there, and accesses of some bytes.
use Rattle.std.proofs.Common.{ℕ, ◌+◌, ◌<◌, ◌≤◌, true, false, List, [], ◌∷◌, ◌++◌, length, Option, Some, None, bytes_eq, arith}
use Rattle.std.specs.Prelude.{⊤, map, if◌then◌else◌}
use Rattle.std.proofs.lemmas.List.{length-map}
use Rattle.sail_syntax.specs.Tree.{Text}
use Rattle.sail_syntax.specs.Program.{Definition, order, register, enumeration, signature, function, registers_of}
use Rattle.sail_names.specs.declared.things.Named.{Named}
use Rattle.sail_names.specs.declared.things.Thing.{Thing}
use Rattle.sail_names.specs.declared.things.Thing.TheVariants as thing
use Rattle.sail_names.specs.declared.things.Given.{Given}
use Rattle.sail_names.specs.declared.things.Given.TheVariants as given
use Rattle.sail_names.specs.Things.{find_thing, prelude_things, members_from, things_from, things_of}
use Rattle.sym_rules.specs.Sym.{register_width}

-- an access is of some bytes
abbrev pub HasBytes : Given → Type 0
HasBytes (given.Read n) = 0 < n
HasBytes (given.Write n) = 0 < n
HasBytes g = ⊤

-- where there are so many registers
module _ (many : ℕ) where
  abbrev pub IsProper : Thing → Type 0
  IsProper (thing.Register r) = r < many
  IsProper (thing.Member e i) = ⊤
  IsProper (thing.Given g) = HasBytes g
  IsProper (thing.Function i) = ⊤

  abbrev pub IfProper : Option Thing → Type 0
  IfProper (Some t) = IsProper t
  IfProper None = ⊤

  abbrev pub AreProper : List Named → Type 0
  AreProper [] = ⊤
  AreProper (n ∷ ns) = IsProper n.thing × AreProper ns

  proper_append : (xs ys : List Named) → AreProper xs → AreProper ys → AreProper (xs ++ ys)
  proper_append [] ys h k = k
  proper_append (x ∷ xs) ys h k = (h.0, proper_append xs ys h.1 k)

  pub found_proper : (x : Text) (ns : List Named) → AreProper ns → IfProper (find_thing x ns)
  found_proper x [] h = tt
  found_proper x (n ∷ ns) h = elim (bytes_eq n.name x) as (λ b. IfProper (if b then Some n.thing else find_thing x ns)) [ true ↦ h.0 | false ↦ found_proper x ns h.1 ]

  prelude_proper : AreProper prelude_things
  unfolding prelude_things
  prelude_proper = (
    tt,
    (
      tt,
      (
        tt,
        (
          tt,
          (
            tt,
            (
              tt,
              (
                tt,
                (
                  tt,
                  (
                    tt,
                    (
                      tt,
                      (
                        omega (arith),
                        (
                          omega (arith),
                          (
                            omega (arith),
                            (
                              omega (arith),
                              (
                                omega (arith),
                                (omega (arith), (omega (arith), (omega (arith), (omega (arith), (omega (arith), tt))))),
                              ),
                            ),
                          ),
                        ),
                      ),
                    ),
                  ),
                ),
              ),
            ),
          ),
        ),
      ),
    ),
  )

  members_proper : (e i : ℕ) (ms : List Text) → AreProper (members_from e i ms)
  members_proper e i [] = tt
  members_proper e i (m ∷ ms) = (tt, members_proper e (i + 1) ms)

  from_proper : (ds : List Definition) (r e i : ℕ) → r + length (registers_of ds) ≤ many → AreProper (things_from ds r e i)
  from_proper [] r e i h = tt
  from_proper (order ∷ ds) r e i h = from_proper ds (r + 0) (e + 0) (i + 1) (omega (arith, h))
  from_proper (register x width at ∷ ds) r e i h = (omega (arith, h), from_proper ds (r + 1) (e + 0) (i + 1) (omega (arith, h)))
  from_proper (enumeration x members at ∷ ds) r e i h =
      proper_append (members_from e 0 members) (things_from ds (r + 0) (e + 1) (i + 1)) (members_proper e 0 members) (from_proper ds (r + 0) (e + 1) (i + 1) (omega (arith, h)))
  from_proper (signature x args result at ∷ ds) r e i h = from_proper ds (r + 0) (e + 0) (i + 1) (omega (arith, h))
  from_proper (function f ∷ ds) r e i h = (tt, from_proper ds (r + 0) (e + 0) (i + 1) (omega (arith, h)))

  proper_of : (ds : List Definition) → length (registers_of ds) ≤ many → AreProper (things_of ds)
  unfolding things_of
  proper_of ds h = proper_append prelude_things (things_from ds 0 0 0) prelude_proper (from_proper ds 0 0 0 (omega (arith, h)))

-- the names of a text
pub things_proper : (ds : List Definition) → AreProper (length (map register_width (registers_of ds))) (things_of ds)
things_proper ds = proper_of (length (map register_width (registers_of ds))) ds (omega (arith, length-map (registers_of ds) register_width))
