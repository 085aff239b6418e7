use Rattle.std.proofs.Common.{◌≡◌, ◌+◌, ◌∙◌, refl, sym, ap, subst, All, map, drop}
use Rattle.state_core.specs.State.{State, widths_of}
use Rattle.constants_walk.specs.RegisterPlaces.{pair_of}
use Rattle.constants_walk.specs.Entry.{Fits}
use Rattle.constants_walk.specs.declared.register_places.PlacedValue.{PlacedValue}
use Rattle.constants_walk.proofs.SetValues.{first_fits, others_fit, is_there, has_width, set_widths, set_rest}
use Rattle.constants_walk.proofs.entry.set_values.Goals as goal

abbrev none : PlacedValue
none = record { register = 0; value = record { width = 0; value = 0 } }

pub set_reg-requires-clause-there : goal.set_reg-requires-clause-there
set_reg-requires-clause-there c =
    is_there c.loop-value.state _ _ refl (first_fits (widths_of c.loop-value.state) c.args.values.now c.loop-value.value-index none c.loop-value-test.true c.loop-value.invariant.fit)

pub set_reg-requires-clause-fits : goal.set_reg-requires-clause-fits
set_reg-requires-clause-fits c =
    (first_fits (widths_of c.loop-value.state) c.args.values.now c.loop-value.value-index none c.loop-value-test.true c.loop-value.invariant.fit).bits

pub set_reg-requires-clause-width : goal.set_reg-requires-clause-width
set_reg-requires-clause-width c =
    has_width c.loop-value.state _ _ refl (first_fits (widths_of c.loop-value.state) c.args.values.now c.loop-value.value-index none c.loop-value-test.true c.loop-value.invariant.fit)

pub loop-value-preserved : goal.loop-value-preserved
loop-value-preserved c =
    let fit = first_fits (widths_of c.loop-value.state) c.args.values.now c.loop-value.value-index none c.loop-value-test.true c.loop-value.invariant.fit in
    let keeps : widths_of c.set_reg.new.self ≡ widths_of c.loop-value.state = set_widths c.loop-value.state c.set_reg.new.self _ _ c.set_reg.ensures refl fit in
    record {
      widths = keeps ∙ c.loop-value.invariant.widths;
      memory = ap (λ (s : State). s.memory) c.set_reg.ensures ∙ c.loop-value.invariant.memory;
      fit = subst (λ ws. All (Fits ws) (map pair_of (drop (c.loop-value.value-index + 1) c.args.values.now))) (sym keeps)
          (others_fit (widths_of c.loop-value.state) c.args.values.now c.loop-value.value-index none c.loop-value-test.true c.loop-value.invariant.fit);
      rest = set_rest c.loop-value.state c.set_reg.new.self c.args.values.now c.loop-value.value-index none _ c.loop-value-test.true c.set_reg.ensures c.loop-value.invariant.rest;
    }
