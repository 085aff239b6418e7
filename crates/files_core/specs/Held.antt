-- What is held in memory: files and bytes, and the numbers of the reads and writes that are to fail.
use Rattle.std.specs.Prelude.{ℕ, List, length, take, drop, ◌++◌, min, Option, Some, None}
use Rattle.files_core.specs.declared.answers.ReadAnswer.{ReadAnswer}
use Rattle.files_core.specs.declared.answers.ReadAnswer.TheVariants as read
use Rattle.files_core.specs.declared.answers.WriteAnswer.{WriteAnswer}
use Rattle.files_core.specs.declared.answers.WriteAnswer.TheVariants as write
use Rattle.files_core.specs.Counts.{next}
use Rattle.files_core.specs.Reads.{faults_behind, missing_behind}

-- files by name whose reads don't fail, and how often a name wasn't there
pub record Honest : Type 0 where
  pub files : List (List ℕ × List ℕ)
  pub missing : ℕ

-- files by name, the numbers of the reads that fail, how many reads there were, and both counts
pub record Faulty : Type 0 where
  pub files : List (List ℕ × List ℕ)
  pub failing : List ℕ
  pub asked : ℕ
  pub faults : ℕ
  pub missing : ℕ

-- the bytes so far, the most that one write takes, the numbers of the writes that fail, how many writes there were, and the faults
pub record Narrow : Type 0 where
  pub bytes : List ℕ
  pub most : ℕ
  pub failing : List ℕ
  pub asked : ℕ
  pub faults : ℕ

-- a read that doesn't fail gives as many bytes as there are from `at` on and the buffer takes
abbrev pub served : Option (List ℕ) → ℕ → ℕ → ReadAnswer
served None at room = read.Missing
served (Some file) at room = read.Got (min room (length (drop at file)))

-- the files behind a read: one more was asked for, and the answer was counted
abbrev pub after_read : ReadAnswer → Faulty → Faulty
after_read answer held = record held {
  asked = next held.asked;
  faults = faults_behind answer held.faults;
  missing = missing_behind answer held.missing;
}

-- the sink behind a write of a piece that isn't empty: one more was asked for, and the bytes or the fault are there
abbrev pub after_write : WriteAnswer → List ℕ → Narrow → Narrow
after_write (write.Took n) piece sink = record sink { asked = next sink.asked; bytes = sink.bytes ++ take n piece }
after_write write.Failed piece sink = record sink { asked = next sink.asked; faults = next sink.faults }
after_write write.NoMemory piece sink = record sink { asked = next sink.asked }
