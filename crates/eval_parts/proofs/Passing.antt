-- What is left after want of memory is passed by the whole, where a part passes it.
use Rattle.std.proofs.Common.{◌≡◌, ℕ, List, refl, sym, ap, subst, ◌∙◌, inl, inr, arith}
use Rattle.std.specs.Prelude.{◌⊎◌, Result, Ok, Err}
use Rattle.std.specs.Result.{IsErr, IsErrAnd}
use Rattle.state_core.specs.Agrees.{IsMoment}
use Rattle.state_core.specs.Memory.{logged}
use Rattle.state_core.specs.World.{World, Got}
use Rattle.state_core.specs.declared.kinds.AccessKind.{AccessKind}
use Rattle.state_core.specs.declared.kinds.MemStop.{MemStop}
use Rattle.state_core.specs.declared.kinds.MemStop.TheVariants as mem
use Rattle.sail_values.specs.declared.value.Stop.{Stop}
use Rattle.sail_values.specs.declared.value.Stop.TheVariants as stop
use Rattle.sail_values.specs.declared.value.Slot.{Slot}
use Rattle.eval_rules.specs.Flow.{Out}
use Rattle.eval_rules.specs.Moments.{accesses, Moment, IsPassed, access_moments}
use Rattle.eval_rules.proofs.Passed.{IsPart}
use Rattle.eval_parts.specs.Worlds.{Agrees, LeavesPassed, StopsPassed, stop_at}

-- an access: the world before it, or the one in which it is noted
access_left : {Y Z : Type 0} (q : Result Y MemStop) (why : MemStop) (place : ℕ) (k : AccessKind) (at n : ℕ) (before world : World) (got : Got Z)
    → q ≡ Err why → IsMoment q k at n before world → StopsPassed (stop_at place why) world before (access_moments (logged k at n before) got)
access_left q (mem.Fault kind) place k at n before world got is m = tt
access_left q mem.NoAnswer place k at n before world got is m = tt
access_left q mem.NoMemory place k at n before world got is m = noted (subst (λ r. IsMoment r k at n before world) is m)
  where
    noted : (world ≡ before) ⊎ (world ≡ logged k at n before) → IsPassed world before (access_moments (logged k at n before) got)
    noted (inl e) = inl e
    noted (inr e) = inr (0, record { did = accesses; world = logged k at n before }, omega arith, refl, sym e)

pub access_passed : {X Y Z : Type 0} (r : Result X Stop) (q : Result Y MemStop) (why : MemStop) (s : Stop) (place : ℕ) (k : AccessKind) (at n : ℕ) (before world : World) (got : Got Z)
    → r ≡ Err s → s ≡ stop_at place why → q ≡ Err why → IsMoment q k at n before world → LeavesPassed r world before (access_moments (logged k at n before) got)
access_passed r q why s place k at n before world got is same was m =
    subst (λ a. LeavesPassed a world before (access_moments (logged k at n before) got)) (sym (is ∙ ap Err same))
    (access_left q why place k at n before world got was m)

-- something is given
pub given_passed : {X : Type 0} (r : Result X Stop) (x : X) (world before : World) (ms : List Moment) → r ≡ Ok x → LeavesPassed r world before ms
given_passed r x world before ms is = subst (λ a. LeavesPassed a world before ms) (sym is) tt

-- an error that is handed on
pub handed_agrees : {X : Type 0} (r : Result X Stop) (why : Stop) (l : List Slot) (world : World) (out : Out X) → IsErr r × IsErrAnd r (λ e. e ≡ why) → Agrees {X = X} (Err why) l world out → Agrees r l world out
handed_agrees (Ok x) why l world out is h = absurd is.1
handed_agrees {X} (Err e) why l world out is h = subst (λ s. Agrees {X = X} (Err s) l world out) (sym is.1) h

-- a world that is passed
pub world_passed : {X : Type 0} (r : Result X Stop) (world before : World) (all : List Moment) → IsPassed world before all → LeavesPassed r world before all
world_passed (Ok x) world before all h = tt
world_passed (Err (stop.Fault kind at)) world before all h = tt
world_passed (Err stop.NoAnswer) world before all h = tt
world_passed (Err stop.NoMemory) world before all h = h

module _ {start before : World} {ms all : List Moment} (part : IsPart start ms before all) where
  -- a part that ends early ends the whole
  pub stop_passed : (why : Stop) (world : World) → StopsPassed why world start ms → StopsPassed why world before all
  stop_passed (stop.Fault kind at) world h = tt
  stop_passed stop.NoAnswer world h = tt
  stop_passed stop.NoMemory world h = part.passed world h

  -- its error is handed on
  pub handed_passed : {X : Type 0} (r : Result X Stop) (why : Stop) (world : World) → IsErr r × IsErrAnd r (λ e. e ≡ why) → StopsPassed why world start ms → LeavesPassed r world before all
  handed_passed (Ok x) why world is h = tt
  handed_passed (Err e) why world is h = subst (λ s. StopsPassed s world before all) (sym is.1) (stop_passed why world h)

  -- the world in which a part begins
  pub start_passed : {X : Type 0} (r : Result X Stop) → LeavesPassed r start before all
  start_passed r = world_passed r start before all (part.passed start (inl refl))

  -- what the last part answers is answered by the whole
  pub result_passed : {X : Type 0} (r : Result X Stop) (world : World) → LeavesPassed r world start ms → LeavesPassed r world before all
  result_passed (Ok x) world h = tt
  result_passed (Err why) world h = stop_passed why world h
