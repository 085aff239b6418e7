-- Events behind others.
use Rattle.std.proofs.Common.{◌≡◌, ℕ, suc, ◌+◌, Bool, true, false, List, [], ◌∷◌, ◌++◌, length, refl, ap, ◌∙◌, arith, Some, None}
use Rattle.std.specs.declared.option.Option.{Option}
use Rattle.state_core.specs.declared.kinds.DevEvent.{DevEvent}
use Rattle.state_core.specs.declared.kinds.Range.{Range}
use Rattle.state_core.specs.Devices.{Taken, goes_to, no_transition, off, Transitions, Judged, device_at, with_state, on_taken, on_device, judge_from, behind}

module _ (k : (ℕ → ℕ) → Judged) where
  of_device : (o : Option ℕ) (i : ℕ) (f g : ℕ → Judged) → ((d : ℕ) → f d ≡ behind (g d) k) → on_device o i f ≡ behind (on_device o i g) k
  of_device None i f g same = refl
  of_device (Some d) i f g same = same d

  of_taken : (t : Taken) (write : Bool) (i : ℕ) (f g : ℕ → Judged) → ((q : ℕ) → f q ≡ behind (g q) k) → on_taken t write i f ≡ behind (on_taken t write i g) k
  of_taken (goes_to q) write i f g same = same q
  of_taken no_transition write i f g same = refl
  of_taken off true i f g same = refl
  of_taken off false i f g same = refl

module _ (next : Transitions) (ranges : List Range) where
  pub judged_behind : (i : ℕ) (states : ℕ → ℕ) (first later : List DevEvent)
      → judge_from next ranges i states (first ++ later) ≡ behind (judge_from next ranges i states first) (λ last. judge_from next ranges (i + length first) last later)
  judged_behind i states [] later = ap (λ j. judge_from next ranges j states later) (let e : i ≡ i + 0 = omega arith in e)
  judged_behind i states (e ∷ first) later =
      of_device (λ last. judge_from next ranges (i + suc (length first)) last later) (device_at ranges e.addr e.bytes) i
      (λ d. on_taken (next d (states d) e) e.write i (λ q. judge_from next ranges (suc i) (with_state states d q) (first ++ later)))
      (λ d. on_taken (next d (states d) e) e.write i (λ q. judge_from next ranges (suc i) (with_state states d q) first))
      (λ d. of_taken (λ last. judge_from next ranges (i + suc (length first)) last later) (next d (states d) e) e.write i
      (λ q. judge_from next ranges (suc i) (with_state states d q) (first ++ later))
      (λ q. judge_from next ranges (suc i) (with_state states d q) first)
      (λ q. judged_behind (suc i) (with_state states d q) first later
      ∙ ap (λ j. behind (judge_from next ranges (suc i) (with_state states d q) first) (λ last. judge_from next ranges j last later))
      (let h : suc i + length first ≡ i + suc (length first) = omega arith in h)))
