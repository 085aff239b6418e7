use Rattle.std.proofs.Common.{◌≡◌, true, false, sym, ap, ◌∙◌}
use Rattle.constants_walk.specs.RegisterPlaces.{has}
use Rattle.constants_walk.proofs.Placing.{at_front, none_placed, twice_placed, more_placed, ended_placed, begun_placed, begun_distinct, more_distinct, places_hold}
use Rattle.constants_walk.proofs.register_places.place_registers.Goals as goal

pub loop-named-init : goal.loop-named-init
loop-named-init c =
    record {
      so_far = begun_placed c.args.registers.now c.args.pc c.args.given.now c.new-values.result c.new-values.ensures;
      differ = begun_distinct c.new-values.result c.new-values.ensures;
    }

pub returns-then-has-clause-exact : goal.returns-then-has-clause-exact
returns-then-has-clause-exact c =
    let before : has c.loop-named.values c.in-Some.value.register ≡ true = ap (λ vs. has vs c.in-Some.value.register) (sym c.as_slice.ensures) ∙ sym c.has.ensures ∙ c.if-has.true in
    let front = at_front c.args.registers.now c.args.pc c.args.given.now c.loop-named.named-index c.named-item.result c.loop-named.values _ c.loop-named-test.true c.named-item.is c.loop-named.invariant.so_far in
    sym (twice_placed c.args.registers.now c.args.pc c.named-item.result _ c.loop-named.values c.in-Some.value _ (sym c.place.ensures ∙ c.in-Some.is) before front)

pub returns-in-None-clause-exact : goal.returns-in-None-clause-exact
returns-in-None-clause-exact c =
    let front = at_front c.args.registers.now c.args.pc c.args.given.now c.loop-named.named-index c.named-item.result c.loop-named.values _ c.loop-named-test.true c.named-item.is c.loop-named.invariant.so_far in
    sym (none_placed c.args.registers.now c.args.pc c.named-item.result _ c.loop-named.values _ (sym c.place.ensures ∙ c.in-None.is) front)

pub loop-named-preserved : goal.loop-named-preserved
loop-named-preserved c =
    let before : has c.loop-named.values c.in-Some.value.register ≡ false = ap (λ vs. has vs c.in-Some.value.register) (sym c.as_slice.ensures) ∙ sym c.has.ensures ∙ c.if-has.false in
    let front = at_front c.args.registers.now c.args.pc c.args.given.now c.loop-named.named-index c.named-item.result c.loop-named.values _ c.loop-named-test.true c.named-item.is c.loop-named.invariant.so_far in
    let more = c.in_ok-push-in-Some.ensures.ok in
    record {
      so_far = more_placed c.args.registers.now c.args.pc c.named-item.result _ c.loop-named.values c.push.new.self c.in-Some.value _ (sym c.place.ensures ∙ c.in-Some.is) more front;
      differ = more_distinct c.loop-named.values c.push.new.self c.in-Some.value more c.loop-named.invariant.differ before;
    }

pub returns-clause-exact : goal.returns-clause-exact
returns-clause-exact c =
    sym (ended_placed c.args.registers.now c.args.pc c.args.given.now c.loop-named.named-index c.loop-named.values _ c.loop-named-test.false c.loop-named.invariant.differ c.loop-named.invariant.so_far)

pub returns-clause-placed : goal.returns-clause-placed
returns-clause-placed c = λ bits.
    places_hold c.args.registers.now c.args.pc c.args.given.now c.loop-named.values bits
    (ended_placed c.args.registers.now c.args.pc c.args.given.now c.loop-named.named-index c.loop-named.values _ c.loop-named-test.false c.loop-named.invariant.differ c.loop-named.invariant.so_far)
