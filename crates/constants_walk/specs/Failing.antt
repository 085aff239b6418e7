-- Why an instruction fails: the fault of the Sail text that cuts it short.
use Rattle.std.specs.Prelude.{◌≡◌, ℕ, Option, Some, None}
use Rattle.state_core.specs.declared.kinds.FaultKind.{FaultKind}
use Rattle.state_core.specs.declared.kinds.FaultKind.TheVariants as kind
use Rattle.state_core.specs.World.{Halt, fault, lacks_answer}
use Rattle.eval_words.specs.Instr.{Ended, whole, cut}
use Rattle.constants_walk.specs.declared.failure.Failure.{Failure}
use Rattle.constants_walk.specs.declared.failure.Failure.TheVariants as failure

-- the kind of fault that a failure is
abbrev pub kind_of : Failure → FaultKind
kind_of failure.Match = kind.MatchFail
kind_of failure.Assert = kind.AssertFail
kind_of failure.Exit = kind.Exit

-- the failure that a kind of fault is; a fault of memory or of a device is none
abbrev pub failure_by : FaultKind → Option Failure
failure_by kind.MatchFail = Some failure.Match
failure_by kind.AssertFail = Some failure.Assert
failure_by kind.Exit = Some failure.Exit
failure_by kind.NoByte = None
failure_by kind.BadDevice = None

-- the failure that cuts an instruction short; want of a device's answer is none
abbrev pub failure_why : Halt → Option Failure
failure_why (fault kind at) = failure_by kind
failure_why lacks_answer = None

-- the failure by which an instruction ends; one that is whole has none
abbrev pub failure_of : Ended → Option Failure
failure_of whole = None
failure_of (cut why) = failure_why why

-- the instruction is cut short by this fault, at a place of the Sail text
abbrev pub IsFailure : Failure → Ended → Type 0
IsFailure why e = (at : ℕ) × (e ≡ cut (fault (kind_of why) at))
