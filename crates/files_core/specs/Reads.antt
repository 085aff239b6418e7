-- What the answers of reads say.
use Rattle.std.specs.Prelude.{◌≡◌, ℕ, ◌<◌, ◌≤◌, List, length, take, drop, IfSome, IsNone, Option, Some, Result, Ok, Err, Vec, vec_len}
use Rattle.std.specs.declared.alloc.Global.{Global}
use Rattle.files_core.specs.declared.answers.ReadAnswer.{ReadAnswer}
use Rattle.files_core.specs.declared.answers.ReadAnswer.TheVariants as read
use Rattle.files_core.specs.declared.answers.InFault.{InFault}
use Rattle.files_core.specs.declared.answers.InFault.TheVariants as fault
use Rattle.files_core.specs.Counts.{next, Rose}
use Rattle.files_core.specs.Store.{Store, file_of}

-- the first n bytes of the buffer are those of the file from `at`, and n is 0 for a nonempty buffer only at or past the file's end
pub record IsPiece (file : List ℕ) (at n : ℕ) (buffer : List ℕ) : Type 0 where
  pub bytes : take n buffer ≡ take n (drop at file)
  pub inside : n ≤ length (drop at file)
  pub none_at_end : n ≡ 0 → 0 < length buffer → length file ≤ at

-- where the store is told, it has the file of that name, and this holds of its bytes
abbrev pub ToldFile : Option Store → List ℕ → (List ℕ → Type 0) → Type 0
ToldFile store name fact = IfSome store (λ files. (file : List ℕ) × (file_of files name ≡ Some file) × fact file)

-- where the store is told, it hasn't the name
abbrev pub ToldNoFile : Option Store → List ℕ → Type 0
ToldNoFile store name = IfSome store (λ files. IsNone (file_of files name))

-- what one read from `at` answers, and the buffer behind it
abbrev pub IsReadAnswer : Option Store → List ℕ → ℕ → ReadAnswer → List ℕ → Type 0
IsReadAnswer store name at (read.Got n) buffer = (n ≤ length buffer) × ToldFile store name (λ file. IsPiece file at n buffer)
IsReadAnswer store name at read.Missing buffer = ToldNoFile store name
IsReadAnswer store name at read.Failed buffer = Unit {0}
IsReadAnswer store name at read.NoMemory buffer = Unit {0}

-- `Missing` comes only where the count of missing answers rose, `Failed` only where the count of faults did
abbrev pub ReadHasCause : ReadAnswer → ℕ → ℕ → ℕ → ℕ → Type 0
ReadHasCause (read.Got n) missing missing' faults faults' = Unit {0}
ReadHasCause read.Missing missing missing' faults faults' = Rose missing missing'
ReadHasCause read.Failed missing missing' faults faults' = Rose faults faults'
ReadHasCause read.NoMemory missing missing' faults faults' = Unit {0}

-- the count of faults behind an answer: one more behind `Failed` alone
abbrev pub faults_behind : ReadAnswer → ℕ → ℕ
faults_behind (read.Got n) faults = faults
faults_behind read.Missing faults = faults
faults_behind read.Failed faults = next faults
faults_behind read.NoMemory faults = faults

-- the count of missing answers behind an answer: one more behind `Missing` alone
abbrev pub missing_behind : ReadAnswer → ℕ → ℕ
missing_behind (read.Got n) missing = missing
missing_behind read.Missing missing = next missing
missing_behind read.Failed missing = missing
missing_behind read.NoMemory missing = missing

-- what a whole read answers: the told file, which is within the limit; no told file; a told file past the limit
abbrev pub IsWholeAnswer : Option Store → List ℕ → ℕ → Result (Vec ℕ Global) InFault → Type 0
IsWholeAnswer store name limit (Ok text) = (vec_len text ≤ limit) × ToldFile store name (λ file. text.items ≡ file)
IsWholeAnswer store name limit (Err fault.Missing) = ToldNoFile store name
IsWholeAnswer store name limit (Err fault.TooLong) = ToldFile store name (λ file. limit < length file)
IsWholeAnswer store name limit (Err fault.Failed) = Unit {0}
IsWholeAnswer store name limit (Err fault.NoMemory) = Unit {0}

-- the store is told, and has a file of that name that is longer than the limit
pub record ToldLonger (store : Option Store) (name : List ℕ) (limit : ℕ) : Type 0 where
  pub files : Store
  pub told : store ≡ Some files
  pub file : List ℕ
  pub held : file_of files name ≡ Some file
  pub longer : limit < length file

-- the answers that a file past the limit may have
abbrev pub IsAnswerToLonger : Result (Vec ℕ Global) InFault → Type 0
IsAnswerToLonger (Ok text) = ⊥
IsAnswerToLonger (Err fault.Missing) = ⊥
IsAnswerToLonger (Err fault.Failed) = Unit {0}
IsAnswerToLonger (Err fault.TooLong) = Unit {0}
IsAnswerToLonger (Err fault.NoMemory) = Unit {0}
