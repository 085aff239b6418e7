-- What follows a trace: the outcomes of its paths from a state of the machine.
use Rattle.std.specs.Prelude.{◌≡◌, ◌⊎◌, ℕ, ◌*◌, Bool, true, false, nat_eq, List, [], ◌∷◌, ◌++◌, slice_set}
use Rattle.bv_bits.specs.declared.Bits.{Bits}
use Rattle.state_core.specs.declared.kinds.FaultKind.{FaultKind}
use Rattle.state_core.specs.declared.kinds.FaultKind.TheVariants as kind
use Rattle.state_core.specs.declared.kinds.Range.{Range}
use Rattle.state_core.specs.State.{register_of}
use Rattle.state_core.specs.World.{World, Got, gets, faults, lacks}
use Rattle.state_core.specs.Memory.{Nothing, load, store}
use Rattle.term_tree.specs.Terms.{Text, Tree, same_bits}
use Rattle.term_tree.specs.Values.{value, values_of}
use Rattle.trace_plain.specs.declared.trace.FailKind.{FailKind}
use Rattle.trace_plain.specs.Trace.{Event, read_reg, write_reg, read_mem, write_mem, assume, need, assume_reg, Trace, trace, End, done, fail, cases, Traces, none, some}
use Rattle.trace_plain.specs.Rules.{var_name}

-- ---- where a path stands

-- the registers that the events so far name, in their order: those of `read_reg`, of `assume_reg`, and of `write_reg`
pub record Seen : Type 0 where
  pub read : List ℕ
  pub assumed : List ℕ
  pub written : List ℕ

-- the values of variables, of which the first of a name and a width counts; the registers seen; and the world
pub record Path : Type 0 where
  pub vars : List (Text × Bits)
  pub seen : Seen
  pub world : World

-- no register
abbrev pub nothing_seen : Seen
nothing_seen = record { read = []; assumed = []; written = [] }

-- a path on which no event was gone through
abbrev pub path_from : List (Text × Bits) → World → Path
path_from vars w = record { vars = vars; seen = nothing_seen; world = w }

-- how a path ends
pub data Ending : Type 0 where
  -- the step is a whole one
  whole : Ending
  -- the trace fails
  failed : (kind : FailKind) → Ending
  -- a fault of the machine
  faulted : (kind : FaultKind) → Ending
  -- a device was read, and no answer is left
  unanswered : Ending

-- how a path ends, the registers seen on it, and the world that is reached
pub record Outcome : Type 0 where
  pub ending : Ending
  pub seen : Seen
  pub world : World

-- the end of a path
abbrev pub ended : Ending → Path → Outcome
ended ending p = record { ending = ending; seen = p.seen; world = p.world }

-- ---- one event

-- what an event makes of a path
pub data Step : Type 0 where
  -- the path goes on
  goes : (p : Path) → Step
  -- it ends here
  halts : (out : Outcome) → Step
  -- it is no path
  blocked : Step

-- the value of a term on a path
abbrev pub value_on : Path → Tree → Bits
value_on p t = value (values_of (record { bits = p.vars; arrays = [] })) t

-- whether a bit is 1
abbrev pub is_one : Bits → Bool
is_one b = nat_eq b.value 1

-- one step or another
abbrev pub step_if : Bool → Step → Step → Step
step_if true one other = one
step_if false one other = other

-- the path with the value of a variable
abbrev pub bind : ℕ → Bits → Path → Path
bind var b p = record p { vars = (var_name var, b) ∷ p.vars }

-- the path in another world
abbrev pub in_world : World → Path → Path
in_world w p = record p { world = w }

-- the path with the register among those that are read, assumed, or written
abbrev pub saw_read : ℕ → Path → Path
saw_read r p = record p { seen = record p.seen { read = p.seen.read ++ r ∷ [] } }

abbrev pub saw_assumed : ℕ → Path → Path
saw_assumed r p = record p { seen = record p.seen { assumed = p.seen.assumed ++ r ∷ [] } }

abbrev pub saw_written : ℕ → Path → Path
saw_written r p = record p { seen = record p.seen { written = p.seen.written ++ r ∷ [] } }

-- the world with a register changed
abbrev pub with_register : ℕ → Bits → World → World
with_register r b w = record w { state = record w.state { registers = slice_set w.state.registers r b } }

-- what a read of n bytes gives becomes the value of a variable
abbrev pub binds_read : ℕ → ℕ → Path → Got ℕ → Step
binds_read var n p (gets x w) = goes (bind var (record { width = 8 * n; value = x }) (in_world w p))
binds_read var n p (faults kind w) = halts (ended (faulted kind) (in_world w p))
binds_read var n p (lacks w) = halts (ended unanswered (in_world w p))

-- a write gives nothing
abbrev pub goes_behind : Path → Got Nothing → Step
goes_behind p (gets x w) = goes (in_world w p)
goes_behind p (faults kind w) = halts (ended (faulted kind) (in_world w p))
goes_behind p (lacks w) = halts (ended unanswered (in_world w p))

-- an event, where the devices have these ranges
abbrev pub act : List Range → Event → Path → Step
act ranges (read_reg r var) p = goes (bind var (register_of p.world.state r) (saw_read r p))
act ranges (write_reg r t) p = goes (in_world (with_register r (value_on p t) p.world) (saw_written r p))
act ranges (read_mem var at n) p = binds_read var n p (load ranges (value_on p at).value n p.world)
act ranges (write_mem at t n) p = goes_behind p (store ranges (value_on p at).value n (value_on p t).value p.world)
act ranges (assume t) p = step_if (is_one (value_on p t)) (goes p) blocked
act ranges (need t) p = step_if (is_one (value_on p t)) (goes p) (halts (ended (faulted kind.AssertFail) p))
act ranges (assume_reg r b) p = step_if (same_bits (register_of p.world.state r) b) (goes (saw_assumed r p)) blocked

-- ---- a trace

-- an outcome is that of a path that goes on so, or ends here
abbrev pub AfterStep : Step → (Path → Outcome → Type 0) → Outcome → Type 0
AfterStep (goes p) rest out = rest p out
AfterStep (halts end) rest out = out ≡ end
AfterStep blocked rest out = ⊥

-- an outcome follows events and what comes after them
abbrev pub AfterEvents : List Range → List Event → (Path → Outcome → Type 0) → Path → Outcome → Type 0
AfterEvents ranges [] rest p out = rest p out
AfterEvents ranges (e ∷ es) rest p out = AfterStep (act ranges e p) (AfterEvents ranges es rest) out

-- an outcome follows a trace, an end, and any of the children
abbrev mutual
  pub Follows : List Range → Trace → Path → Outcome → Type 0
  Follows ranges (trace events end) p out = AfterEvents ranges events (FollowsEnd ranges end) p out

  pub FollowsEnd : List Range → End → Path → Outcome → Type 0
  FollowsEnd ranges done p out = out ≡ ended whole p
  FollowsEnd ranges (fail kind) p out = out ≡ ended (failed kind) p
  FollowsEnd ranges (cases ts) p out = FollowsAny ranges ts p out

  pub FollowsAny : List Range → Traces → Path → Outcome → Type 0
  FollowsAny ranges none p out = ⊥
  FollowsAny ranges (some t ts) p out = Follows ranges t p out ⊎ FollowsAny ranges ts p out

-- ---- the same as a list

-- the outcomes of a path that goes on so, or ends here
abbrev pub after_step : Step → (Path → List Outcome) → List Outcome
after_step (goes p) rest = rest p
after_step (halts end) rest = end ∷ []
after_step blocked rest = []

-- the outcomes of events and what comes after them
abbrev pub after_events : List Range → List Event → (Path → List Outcome) → Path → List Outcome
after_events ranges [] rest p = rest p
after_events ranges (e ∷ es) rest p = after_step (act ranges e p) (after_events ranges es rest)

-- the outcomes that follow a trace, an end, and children
abbrev mutual
  pub outcomes : List Range → Trace → Path → List Outcome
  outcomes ranges (trace events end) p = after_events ranges events (end_outcomes ranges end) p

  pub end_outcomes : List Range → End → Path → List Outcome
  end_outcomes ranges done p = ended whole p ∷ []
  end_outcomes ranges (fail kind) p = ended (failed kind) p ∷ []
  end_outcomes ranges (cases ts) p = all_outcomes ranges ts p

  pub all_outcomes : List Range → Traces → Path → List Outcome
  all_outcomes ranges none p = []
  all_outcomes ranges (some t ts) p = outcomes ranges t p ++ all_outcomes ranges ts p
