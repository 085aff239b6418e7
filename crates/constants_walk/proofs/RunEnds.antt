-- What each end of the walk means, and what the run stands on.
use Rattle.std.proofs.Common.{◌≡◌, ℕ, ◌<◌, List, [], ◌∷◌, length, map, sym, ap, ◌∙◌, arith, All, Some, refl}
use Rattle.std.proofs.lemmas.List.{length-map}
use Rattle.std.proofs.lemmas.List.Elements.{All-head, All-tail, All-cons, All-nil}
use Rattle.bv_bits.specs.Bits.{width_of}
use Rattle.state_core.specs.State.{State, widths_of}
use Rattle.state_core.specs.World.{World, start}
use Rattle.machine_run.specs.Machine.{Machine}
use Rattle.machine_safe.specs.First.{Constants, walk_from}
use Rattle.constants_walk.specs.declared.run_form.RunEnd.{RunEnd}
use Rattle.constants_walk.specs.declared.register_places.PlacedValue.{PlacedValue}
use Rattle.constants_walk.specs.RegisterPlaces.{IsPlaced, pair_of}
use Rattle.constants_walk.specs.Entry.{entry_state}
use Rattle.constants_walk.specs.RunForm.{ended_at, run_end_of, most_instructions}

pub most_is : most_instructions ≡ 4096
unfolding most_instructions
most_is = refl

pub are_there : (s : State) (ws : List ℕ) (pc : ℕ) (vs : List PlacedValue) → widths_of s ≡ ws → All (IsPlaced ws pc) (map pair_of vs)
    → All (λ v. v.register < length s.registers) vs
are_there s ws pc [] is h = All-nil (λ v. v.register < length s.registers)
are_there s ws pc (v ∷ vs) is h =
    let size = length-map s.registers width_of in
    let same : length (widths_of s) ≡ length ws = ap length is in
    let one = (All-head (IsPlaced ws pc) (pair_of v) (map pair_of vs) h).there in
    All-cons (λ v. v.register < length s.registers) v vs (omega (arith, size, same, one))
    (are_there s ws pc vs is (All-tail (IsPlaced ws pc) (pair_of v) (map pair_of vs) h))

pub run_ends : (m : Machine) (c : Constants) (end : RunEnd) (w : World) → w ≡ start (entry_state m c) []
    → (let walked = walk_from m c 0 c.entry_at 4096 w in ended_at m c walked.0 walked.1 ≡ Some end) → run_end_of m c ≡ Some end
unfolding run_end_of
run_ends m c end w is e =
    let walk_in = λ (n : ℕ) (v : World). walk_from m c 0 c.entry_at n v in
    ap (λ n. ended_at m c (walk_in n (start (entry_state m c) [])).0 (walk_in n (start (entry_state m c) [])).1) most_is
    ∙ ap (λ v. ended_at m c (walk_in 4096 v).0 (walk_in 4096 v).1) (sym is) ∙ e
