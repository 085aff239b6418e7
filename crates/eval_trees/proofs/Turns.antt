-- One turn of a foreach, and the others.
use Rattle.std.proofs.Common.{◌≡◌, ℕ, suc, ◌+◌, ◌-◌, ◌<◌, List, ap, arith}
use Rattle.state_core.specs.World.{World}
use Rattle.sail_values.specs.declared.value.Slot.{Slot}
use Rattle.sail_values.specs.declared.value.Value.{Value}
use Rattle.eval_rules.specs.Flow.{Meaning, after}
use Rattle.eval_rules.specs.Eval.{turns}

pub turns_more : (to i : ℕ) (body : ℕ → Meaning Value) (l : List Slot) (w : World) → i < to + 1 → turns (to + 1 - i) i body l w ≡ after (body i l w) (λ _. turns (to + 1 - (i + 1)) (i + 1) body)
turns_more to i body l w h = let e : to + 1 - i ≡ suc (to + 1 - (i + 1)) = omega arith in ap (λ n. turns n i body l w) e
