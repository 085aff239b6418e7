-- At most one outcome follows events with such an end.
use Rattle.std.proofs.Common.{◌≡◌, List, [], ◌∷◌, ◌∙◌, sym}
use Rattle.state_core.specs.declared.kinds.Range.{Range}
use Rattle.trace_plain.specs.Trace.{Event, trace, End, done, fail, cases}
use Rattle.trace_plain.specs.Following.{Path, Outcome, Step, goes, halts, blocked, act, AfterStep, AfterEvents, FollowsEnd}
use Rattle.trace_plain.specs.Laws.{IsClosed, FollowsOnce}

-- at most one outcome comes after
IsOnce : (Path → Outcome → Type 0) → Type 0
IsOnce rest = (p : Path) (one two : Outcome) → rest p one → rest p two → one ≡ two

step_once : (s : Step) (rest : Path → Outcome → Type 0) → IsOnce rest → (one two : Outcome) → AfterStep s rest one → AfterStep s rest two → one ≡ two
unfolding IsOnce
step_once (goes p) rest h one two a b = h p one two a b
step_once (halts end) rest h one two a b = a ∙ sym b
step_once blocked rest h one two a b = absurd a

events_once : (ranges : List Range) (es : List Event) (rest : Path → Outcome → Type 0) → IsOnce rest → IsOnce (AfterEvents ranges es rest)
unfolding IsOnce
events_once ranges [] rest h p one two a b = h p one two a b
events_once ranges (e ∷ es) rest h p one two a b = step_once (act ranges e p) (AfterEvents ranges es rest) (events_once ranges es rest h) one two a b

end_once : (ranges : List Range) (end : End) → IsClosed end → IsOnce (FollowsEnd ranges end)
unfolding IsOnce
end_once ranges done closed p one two a b = a ∙ sym b
end_once ranges (fail kind) closed p one two a b = a ∙ sym b
end_once ranges (cases ts) closed p one two a b = absurd closed

pub follows_once : FollowsOnce
unfolding IsOnce
follows_once ranges (trace events end) p one two straight a b = events_once ranges events (FollowsEnd ranges end) (end_once ranges end straight) p one two a b
