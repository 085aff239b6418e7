-- What the answers of writes say.
use Rattle.std.specs.Prelude.{◌≡◌, ℕ, ◌<◌, ◌≤◌, List, length, take, ◌++◌, Option, Some, None, Result, Ok, Err}
use Rattle.files_core.specs.declared.answers.WriteAnswer.{WriteAnswer}
use Rattle.files_core.specs.declared.answers.WriteAnswer.TheVariants as write
use Rattle.files_core.specs.declared.answers.OutFault.{OutFault}
use Rattle.files_core.specs.Counts.{next, Rose}

-- told bytes grow by these, and bytes that aren't told stay untold
abbrev pub Grows : Option (List ℕ) → List ℕ → Option (List ℕ) → Type 0
Grows None piece after = after ≡ None
Grows (Some bytes) piece after = after ≡ Some (bytes ++ piece)

-- of the text all but the rest was written
pub record IsWrittenUpTo (before : Option (List ℕ)) (text rest : List ℕ) (after : Option (List ℕ)) : Type 0 where
  pub written : List ℕ
  pub split : written ++ rest ≡ text
  pub grown : Grows before written after

-- a prefix of the text was written
abbrev pub GrowsByPrefix : Option (List ℕ) → List ℕ → Option (List ℕ) → Type 0
GrowsByPrefix before text after = (rest : List ℕ) × IsWrittenUpTo before text rest after

-- what one write answers: some bytes of the piece where it has any, or none and a fault
abbrev pub IsWriteAnswer : Option (List ℕ) → List ℕ → WriteAnswer → Option (List ℕ) → Type 0
IsWriteAnswer before piece (write.Took n) after = (n ≤ length piece) × (0 < length piece → 0 < n) × Grows before (take n piece) after
IsWriteAnswer before piece write.Failed after = after ≡ before
IsWriteAnswer before piece write.NoMemory after = after ≡ before

-- `Failed` comes only where the count of faults rose
abbrev pub WriteHasCause : WriteAnswer → ℕ → ℕ → Type 0
WriteHasCause (write.Took n) faults faults' = Unit {0}
WriteHasCause write.Failed faults faults' = Rose faults faults'
WriteHasCause write.NoMemory faults faults' = Unit {0}

-- the count of faults behind an answer: one more behind `Failed` alone
abbrev pub faults_behind : WriteAnswer → ℕ → ℕ
faults_behind (write.Took n) faults = faults
faults_behind write.Failed faults = next faults
faults_behind write.NoMemory faults = faults

-- what the write of an empty piece answers: it took none, and the count stands
abbrev pub IsEmptyWrite : WriteAnswer → ℕ → ℕ → Type 0
IsEmptyWrite answer faults faults' = (answer ≡ write.Took 0) × (faults' ≡ faults)

-- what a whole write answers: all of the text was written, or a prefix
abbrev pub IsWholeWrite : Option (List ℕ) → List ℕ → Result Unit OutFault → Option (List ℕ) → Type 0
IsWholeWrite before text (Ok done) after = Grows before text after
IsWholeWrite before text (Err fault) after = GrowsByPrefix before text after
