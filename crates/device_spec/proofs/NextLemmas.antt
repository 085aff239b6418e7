-- The first candidate whose condition holds, one transition at a time.
use Rattle.std.proofs.Common.{◌≡◌, ℕ, suc, arith, ◌+◌, ◌<◌, map, drop, length, get_or, drop-cons, Bool, true, false, ◌&&◌, cond, List, [], ◌∷◌, filter, Option, Some, None, refl, sym, ap, ◌∙◌}
use Rattle.std.proofs.Math.Bool.{true≢false}
use Rattle.std.specs.Prelude.{find}
use Rattle.state_core.specs.declared.kinds.DevEvent.{DevEvent}
use Rattle.device_spec.specs.declared.device.Transition.{Transition}
use Rattle.device_spec.specs.View.{transition_of}
use Rattle.device_spec.specs.Devices.{PlainTransition, chosen, first_holding, holds, is_candidate, led_to, next_by, taken_among}

pub by_none : (q : ℕ) (e : DevEvent) → next_by [] q e ≡ None
unfolding next_by
by_none q e = refl

-- a candidate that doesn't hold is passed over
passed : (value : ℕ) (t : PlainTransition) (ts : List PlainTransition) → holds value t ≡ false
    → led_to (taken_among value (t ∷ ts)) ≡ led_to (taken_among value ts)
passed value t [] h = ap (λ b. led_to (chosen (cond b (Some t) None))) h
passed value t (s ∷ ts) h = ap (λ b. led_to (chosen (cond b (Some t) (first_holding value (s ∷ ts))))) h

pub by_more : (q : ℕ) (e : DevEvent) (t : PlainTransition) (ts : List PlainTransition) → (is_candidate q e t && holds e.value t) ≡ false
    → next_by (t ∷ ts) q e ≡ next_by ts q e
unfolding next_by
by_more q e t ts h = by (is_candidate q e t) refl h
  where
    by : (c : Bool) → is_candidate q e t ≡ c → (c && holds e.value t) ≡ false → led_to (taken_among e.value (filter (is_candidate q e) (t ∷ ts))) ≡ led_to (taken_among e.value (filter (is_candidate q e) ts))
    by true c k =
        ap (λ b. led_to (taken_among e.value (cond b (t ∷ filter (is_candidate q e) ts) (filter (is_candidate q e) ts)))) c
        ∙ passed e.value t (filter (is_candidate q e) ts) k
    by false c k = ap (λ b. led_to (taken_among e.value (cond b (t ∷ filter (is_candidate q e) ts) (filter (is_candidate q e) ts)))) c

pub by_found : (q : ℕ) (e : DevEvent) (t : PlainTransition) (ts : List PlainTransition) → (is_candidate q e t && holds e.value t) ≡ true
    → next_by (t ∷ ts) q e ≡ Some t.to
unfolding next_by
by_found q e t ts h = by (is_candidate q e t) refl h
  where
    by : (c : Bool) → is_candidate q e t ≡ c → (c && holds e.value t) ≡ true → led_to (taken_among e.value (filter (is_candidate q e) (t ∷ ts))) ≡ Some t.to
    by true c k =
        ap (λ b. led_to (taken_among e.value (cond b (t ∷ filter (is_candidate q e) ts) (filter (is_candidate q e) ts)))) c
        ∙ ap (λ b. led_to (chosen (cond b (Some t) (first_holding e.value (filter (is_candidate q e) ts))))) k
    by false c k = absurd (true≢false (sym k))

-- the transition at a place, in front of those behind it
pub at_item : (xs : List Transition) (i : ℕ) (x : Transition) → i < length xs → x ≡ get_or xs i x
    → map transition_of (drop i xs) ≡ transition_of x ∷ map transition_of (drop (i + 1) xs)
at_item xs i x l e =
    let next : suc i ≡ i + 1 = omega arith in
    ap (map transition_of) (drop-cons xs i x l ∙ ap (λ k. get_or xs i x ∷ drop k xs) next) ∙ ap (λ y. transition_of y ∷ map transition_of (drop (i + 1) xs)) (sym e)
