-- What an evaluation changes: the state, the answers that are left, and the accesses and device events so far.
use Rattle.std.specs.Prelude.{ℕ, List, [], drop}
use Rattle.state_core.specs.declared.kinds.FaultKind.{FaultKind}
use Rattle.state_core.specs.declared.kinds.Access.{Access}
use Rattle.state_core.specs.declared.kinds.DevEvent.{DevEvent}
use Rattle.state_core.specs.declared.kinds.Answers.{Answers}
use Rattle.state_core.specs.declared.kinds.Log.{Log}
use Rattle.state_core.specs.State.{State}

-- a state, the answers that are left, and what was done so far
pub record World : Type 0 where
  pub state : State
  pub answers : List ℕ
  pub accesses : List Access
  pub events : List DevEvent

-- why an evaluation ends early
pub data Halt : Type 0 where
  -- a fault, and where in the Sail text
  fault : (kind : FaultKind) → (at : ℕ) → Halt
  -- a device was read, and no answer is left
  lacks_answer : Halt

-- a value and the world that is reached, or a fault's kind, or no answer, and the world that is reached
pub data Got (X : Type 0) : Type 0 where
  gets : (x : X) → (world : World) → Got X
  faults : (kind : FaultKind) → (world : World) → Got X
  lacks : (world : World) → Got X

-- the world that is reached
abbrev pub reached : {X : Type 0} → Got X → World
reached (gets x w) = w
reached (faults kind w) = w
reached (lacks w) = w

-- a value that is given has this
abbrev pub IfGets : {X : Type 0} → Got X → (X → Type 0) → Type 0
IfGets (gets x w) P = P x
IfGets (faults kind w) P = Unit {0}
IfGets (lacks w) P = Unit {0}

-- the world that a fault reaches has this
abbrev pub IfFaults : {X : Type 0} → Got X → (World → Type 0) → Type 0
IfFaults (gets x w) P = Unit {0}
IfFaults (faults kind w) P = P w
IfFaults (lacks w) P = Unit {0}

-- the world that the code's parts are
abbrev pub world_of : State → Answers → Log → World
world_of s answers log = record { state = s; answers = drop answers.next answers.list; accesses = log.accesses; events = log.events }

-- the world in which nothing was done yet
abbrev pub start : State → List ℕ → World
start s answers = record { state = s; answers = answers; accesses = []; events = [] }
