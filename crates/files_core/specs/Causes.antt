-- Of what causes the faults of whole reads and whole writes come, over whatever the files and the sink count.
use Rattle.std.specs.Prelude.{ℕ, ⊤, Result, Ok, Err, Vec, IsErrOf}
use Rattle.std.specs.declared.alloc.Global.{Global}
use Rattle.files_core.specs.declared.answers.InFault.{InFault}
use Rattle.files_core.specs.declared.answers.InFault.TheVariants as fault
use Rattle.files_core.specs.declared.answers.OutFault.{OutFault}
use Rattle.files_core.specs.declared.answers.OutFault.TheVariants as out
use Rattle.files_core.specs.declared.files.Files as files
use Rattle.files_core.specs.declared.sink.Sink as sink
use Rattle.files_core.specs.Counts.{Rose}

-- a whole read finds a file missing only where the count of missing answers rose, and fails only where that of faults did
abbrev pub HasCause : {F : Type 0} → Result (Vec ℕ Global) InFault → files.Ghosts F → F → F → Type 0
HasCause (Ok text) counts before after = ⊤
HasCause (Err fault.Missing) counts before after = Rose (counts.missing before) (counts.missing after)
HasCause (Err fault.Failed) counts before after = Rose (counts.faults before) (counts.faults after)
HasCause (Err fault.TooLong) counts before after = ⊤
HasCause (Err fault.NoMemory) counts before after = ⊤

-- a whole write fails only where the count of faults rose
abbrev pub WriteCause : {S : Type 0} → Result Unit OutFault → sink.Ghosts S → S → S → Type 0
WriteCause result counts before after = IsErrOf result out.Failed → Rose (counts.faults before) (counts.faults after)
