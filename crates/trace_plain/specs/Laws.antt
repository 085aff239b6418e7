-- Laws of following.
use Rattle.std.specs.Prelude.{◌≡◌, ◌↔◌, ⊤, List, Contains}
use Rattle.state_core.specs.declared.kinds.Range.{Range}
use Rattle.trace_plain.specs.Trace.{Trace, trace, End, done, fail, cases}
use Rattle.trace_plain.specs.Following.{Path, Outcome, Follows, outcomes}

-- an end without children
abbrev pub IsClosed : End → Type 0
IsClosed done = ⊤
IsClosed (fail kind) = ⊤
IsClosed (cases ts) = ⊥

-- a trace of one path
abbrev pub IsStraight : Trace → Type 0
IsStraight (trace events end) = IsClosed end

-- at most one outcome follows a trace of one path
abbrev pub FollowsOnce : Type 0
FollowsOnce = (ranges : List Range) (t : Trace) (p : Path) (one two : Outcome) → IsStraight t → Follows ranges t p one → Follows ranges t p two → one ≡ two

-- the outcomes that follow a trace are those of the list
abbrev pub FollowsTheList : Type 0
FollowsTheList = (ranges : List Range) (t : Trace) (p : Path) (out : Outcome) → Follows ranges t p out ↔ Contains (outcomes ranges t p) out
