use Rattle.std.proofs.Common.{◌≡◌, ℕ, ◌+◌, ◌<◌, length, get_or, drop, map, rules, ap, sym, ◌∙◌, arith}
use Rattle.sail_syntax.specs.View.{definition_of}
use Rattle.sail_names.specs.Things.{things_from, registers_in, enums_in}
use Rattle.sail_names.specs.Map.{reached}
use Rattle.sail_names.proofs.MapLemmas.{things_next}
use Rattle.sail_names.proofs.definitions.declare_all.Goals as goal

pub loop-place-preserved : goal.loop-place-preserved
loop-place-preserved c =
    let d = c.index-defs-place.result in
    let defs = c.args.defs.now in
    let i = c.loop-place.place in
    let within : i < length defs = search rules in
    let rest = map definition_of (drop (i + 1) defs) in (
      omega (arith, c.loop-place.invariant.0, c.registers_in-registers.ensures.few),
      omega (arith, c.loop-place.invariant.1, c.enums_in-enums.ensures.few),
      λ x.
          ap (λ n. reached x c.declare.new.things (things_from rest (c.loop-place.registers + n) (c.loop-place.enums + c.enums_in-enums.result) (i + 1))) c.registers_in-registers.ensures.value
          ∙ ap (λ n. reached x c.declare.new.things (things_from rest (c.loop-place.registers + registers_in (definition_of d)) (c.loop-place.enums + n) (i + 1))) c.enums_in-enums.ensures.value
          ∙ things_next defs i c.loop-place.registers c.loop-place.enums d c.loop-place.things c.declare.new.things within c.index-defs-place.is c.in_ok-declare.ensures x
          ∙ c.loop-place.invariant.2 x,
    )
