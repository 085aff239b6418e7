-- The files that the words name, and what each status says.
use Rattle.std.specs.Prelude.{◌≡◌, ◌⊎◌, ◌<◌, ◌≤◌, ℕ, List, [], ◌∷◌, if◌then◌else◌, Option, Some, None, Contains, codes, nat_lt, length}
use Rattle.files_core.specs.declared.files.Files as files
use Rattle.files_core.specs.declared.sink.Sink as sink
use Rattle.files_core.specs.Counts.{Rose}
use Rattle.files_core.specs.Store.{Store, file_of}
use Rattle.files_core.specs.Reads.{ToldNoFile, ToldFile}
use Rattle.files_core.specs.Writes.{Grows, GrowsByPrefix}
use Rattle.command_words.specs.Words.{CommandSaid, trace, check, command_of}
use Rattle.trace_words.specs.Trace.{TraceSaid}
use Rattle.trace_verdict.specs.Verdict.{trace_verdict, IsMisfit}
use Rattle.constants_text.specs.Texts.{on_file_text, on_name_text, usage_text}
use Rattle.lex_core.specs.Classes.{Text}
use Rattle.constants_check.specs.Accepted.{IsAccepted}
use Rattle.constants_check.specs.Verdict.{verdict}
use Rattle.report_text.specs.Outcome.{Said, said_of, status_number}
use Rattle.report_text.specs.declared.numbers.TheConstants.{SAIL_LIMIT, IMAGE_LIMIT, PROOF_LIMIT, TEXT_TOO_LONG, TOO_LARGE}
use Rattle.report_text.specs.Names.{Row}
use Rattle.report_text.specs.declared.outcome.Status.{Status}
use Rattle.report_text.specs.declared.outcome.Status.TheVariants as kind
use Rattle.islaris_cli.specs.declared.top.Halt.{Halt}
use Rattle.islaris_cli.specs.declared.top.Halt.TheVariants as halt

-- ---- the files

-- a file that is read: its name, the most bytes that it may have, and the number of the limit that it passes with more
pub record Source : Type 0 where
  pub name : Text
  pub limit : ℕ
  pub number : ℕ

abbrev pub sail_source : Text → Source
sail_source name = record { name = name; limit = SAIL_LIMIT; number = TEXT_TOO_LONG }

abbrev pub image_source : Text → Source
image_source name = record { name = name; limit = IMAGE_LIMIT; number = TOO_LARGE }

abbrev pub proof_source : Text → Source
proof_source name = record { name = name; limit = PROOF_LIMIT; number = TEXT_TOO_LONG }

-- the files of a check, in the order in which they are read
abbrev pub row_sources : Row → List Source
row_sources row = sail_source row.sail ∷ image_source row.image ∷ proof_source row.proof ∷ []

-- the files of a command, in the order in which they are read
abbrev pub sources : CommandSaid → List Source
sources (check row) = row_sources row
sources (trace t) = sail_source t.sail ∷ []

-- the text was read from the file: it is within the limit, and a told store has it there
pub record IsRead (store : Option Store) (source : Source) (text : Text) : Type 0 where
  pub within : length text ≤ source.limit
  pub told : ToldFile store source.name (λ file. text ≡ file)

-- the three texts were read from the row's files
pub record AreRead (store : Option Store) (row : Row) (sail image proof : Text) : Type 0 where
  pub sail_read : IsRead store (sail_source row.sail) sail
  pub image_read : IsRead store (image_source row.image) image
  pub proof_read : IsRead store (proof_source row.proof) proof

-- what the files count and tell, before and after a call
pub record Reading : Type 0 where
  pub store : Option Store
  pub missing : ℕ
  pub missing' : ℕ
  pub faults : ℕ
  pub faults' : ℕ

abbrev pub reading : {F : Type 0} → files.Ghosts F → F → F → Reading
reading counts before after = record {
  store = counts.store before;
  missing = counts.missing before;
  missing' = counts.missing after;
  faults = counts.faults before;
  faults' = counts.faults after;
}

-- a file that can't be read stops the call, with this status and this text
abbrev pub Stops : Status → Text → Reading → Source → Type 0
Stops kind.Missing text r source =
    Rose r.missing r.missing' × ToldNoFile r.store source.name × (text ≡ on_name_text (codes "missing") source.name)
Stops kind.ReadFault text r source = Rose r.faults r.faults' × (text ≡ on_name_text (codes "read fault") source.name)
Stops kind.Limit text r source =
    ToldFile r.store source.name (λ file. source.limit < length file) × (text ≡ on_file_text (codes "limit") source.number source.name [])
Stops kind.Accepted text r source = ⊥
Stops kind.Refused text r source = ⊥
Stops kind.Words text r source = ⊥
Stops kind.Input text r source = ⊥

-- one of the files stops the call, and those before it were read
abbrev pub StopsAmong : Said → Reading → List Source → Type 0
StopsAmong said r [] = ⊥
StopsAmong said r (source ∷ rest) = Stops said.status said.text r source ⊎ ((read : Text) × IsRead r.store source read × StopsAmong said r rest)

-- ---- the answer

-- the three texts were read, and this is said of them
pub record IsJudged (store : Option Store) (row : Row) (said : Said) : Type 0 where
  pub sail : Text
  pub image : Text
  pub proof : Text
  pub read : AreRead store row sail image proof
  pub judged : verdict row sail image proof ≡ Some said

-- the Sail text was read, and this is said of it
pub record IsTraced (store : Option Store) (t : TraceSaid) (said : Said) : Type 0 where
  pub sail : Text
  pub read : IsRead store (sail_source t.sail) sail
  pub judged : trace_verdict t sail ≡ Some said

-- the texts of the command's files were read, and this is said of them
abbrev pub IsSaid : Option Store → CommandSaid → Said → Type 0
IsSaid store (check row) said = IsJudged store row said
IsSaid store (trace t) said = IsTraced store t said

-- what is said, and why it is the answer: the words are no command, or it is said of the texts of its files, or a file stops the call
abbrev pub Answers : Option CommandSaid → Said → Reading → Type 0
Answers None said r = (said.status ≡ kind.Words) × (said.text ≡ usage_text)
Answers (Some command) said r = IsSaid r.store command said ⊎ StopsAmong said r (sources command)

-- what the sink counts and tells, before and after a call
pub record Writing : Type 0 where
  pub bytes : Option Text
  pub bytes' : Option Text
  pub faults : ℕ
  pub faults' : ℕ

abbrev pub writing : {S : Type 0} → sink.Ghosts S → S → S → Writing
writing counts before after = record {
  bytes = counts.bytes before;
  bytes' = counts.bytes after;
  faults = counts.faults before;
  faults' = counts.faults after;
}

-- an answer was wholly written, and this is its number
pub record Wrote (n : ℕ) (command : Option CommandSaid) (r : Reading) (w : Writing) : Type 0 where
  pub said : Said
  pub why : Answers command said r
  pub number : n ≡ status_number said.status
  pub grown : Grows w.bytes said.text w.bytes'

-- nothing was written, or a prefix of an answer's text
abbrev pub WroteSome : Option CommandSaid → Reading → Writing → Type 0
WroteSome command r w = (w.bytes' ≡ w.bytes) ⊎ ((said : Said) × Answers command said r × GrowsByPrefix w.bytes said.text w.bytes')

-- the number that the call answers, and why: an answer was written, or a write failed and the sink counted it, or memory was wanting
abbrev pub HasCause : ℕ → Option CommandSaid → Reading → Writing → Type 0
HasCause n command r w = Wrote n command r w ⊎ ((n ≡ 6) × Rose w.faults w.faults' × WroteSome command r w) ⊎ ((n ≡ 8) × WroteSome command r w)

-- ---- what single statuses say

-- something is said of the texts of a command's files, and its text was wholly written
pub record Tells (make : Text → Said) (words : List Text) (store : Option Store) (before after : Option Text) : Type 0 where
  pub command : CommandSaid
  pub on_words : command_of words ≡ Some command
  pub text : Text
  pub said : IsSaid store command (make text)
  pub grown : Grows before text after

-- something is said of the three texts of a check, and its text was wholly written
pub record TellsOfCheck (make : Text → Said) (words : List Text) (store : Option Store) (before after : Option Text) : Type 0 where
  pub row : Row
  pub on_row : command_of words ≡ Some (check row)
  pub text : Text
  pub said : IsJudged store row (make text)
  pub grown : Grows before text after

-- the words are those of a check, the three texts are those of its files, the specification that they give is safe, and its report was wholly written
pub record TellsAccepted (words : List Text) (store : Option Store) (before after : Option Text) : Type 0 where
  pub row : Row
  pub on_row : command_of words ≡ Some (check row)
  pub sail : Text
  pub image : Text
  pub proof : Text
  pub report : Text
  pub read : AreRead store row sail image proof
  pub accepted : IsAccepted sail image proof report
  pub grown : Grows before report after

-- the words are those of a trace, and they don't fit the text of its file, which types
pub record AreMisfits (words : List Text) (store : Option Store) : Type 0 where
  pub said : TraceSaid
  pub on_words : command_of words ≡ Some (trace said)
  pub sail : Text
  pub read : IsRead store (sail_source said.sail) sail
  pub misfit : IsMisfit said sail

-- the words are no command, or don't fit, and the usage was wholly written
pub record TellsUsage (words : List Text) (store : Option Store) (before after : Option Text) : Type 0 where
  pub why : (command_of words ≡ None) ⊎ AreMisfits words store
  pub grown : Grows before usage_text after

-- a file is longer than its limit, and that was wholly written
pub record TellsLimit (words : List Text) (store : Option Store) (before after : Option Text) : Type 0 where
  pub command : CommandSaid
  pub on_words : command_of words ≡ Some command
  pub source : Source
  pub among : Contains (sources command) source
  pub longer : ToldFile store source.name (λ file. source.limit < length file)
  pub grown : Grows before (on_file_text (codes "limit") source.number source.name []) after

-- a told store hasn't a name that is among the words, and that was wholly written
pub record TellsMissing (words : List Text) (store : Option Store) (before after : Option Text) : Type 0 where
  pub name : Text
  pub among : Contains words name
  pub absent : ToldNoFile store name
  pub grown : Grows before (on_name_text (codes "missing") name) after

-- a read of a file that is among the words failed, and that was wholly written
pub record TellsReadFault (words : List Text) (before after : Option Text) : Type 0 where
  pub name : Text
  pub among : Contains words name
  pub grown : Grows before (on_name_text (codes "read fault") name) after

-- ---- the exact answer over told files

-- what goes on with a file within its limit, and else what the missing or the long file gives
abbrev pub with_file : Option Text → Source → (Text → Option Said) → Option Said
with_file None source go = Some (record { status = kind.Missing; text = on_name_text (codes "missing") source.name })
with_file (Some file) source go =
    if nat_lt source.limit (length file)
    then Some (record { status = kind.Limit; text = on_file_text (codes "limit") source.number source.name [] })
    else go file

-- the answer over told files: the first file that is missing or too long, or what is said of the texts
abbrev pub answer_over : Store → CommandSaid → Option Said
answer_over files (check row) =
    with_file (file_of files row.sail) (sail_source row.sail) (λ sail.
    with_file (file_of files row.image) (image_source row.image) (λ image.
    with_file (file_of files row.proof) (proof_source row.proof) (λ proof.
    verdict row sail image proof)))
answer_over files (trace t) = with_file (file_of files t.sail) (sail_source t.sail) (λ sail. trace_verdict t sail)

-- the call gives what is said, wholly written
abbrev pub IsWritten : ℕ → Option Said → Writing → Type 0
IsWritten n None w = ⊥
IsWritten n (Some said) w = (n ≡ status_number said.status) × Grows w.bytes said.text w.bytes'

-- so it is where no read and no write fails and memory suffices
abbrev pub IsExact : ℕ → Option Said → Reading → Writing → Type 0
IsExact n said r w = IsWritten n said w ⊎ ((n ≡ 5) × Rose r.faults r.faults') ⊎ ((n ≡ 6) × Rose w.faults w.faults') ⊎ (n ≡ 8)

-- ---- the parts of the call

-- the file stops the call, or memory was wanting
abbrev pub HaltsAt : Halt → Reading → Source → Type 0
HaltsAt (halt.Early a) r source = Stops a.status a.text.items r source
HaltsAt halt.NoMemory r source = Unit {0}

-- one of the files stops the call, or memory was wanting
abbrev pub IsHalt : Halt → Reading → List Source → Type 0
IsHalt (halt.Early a) r among = StopsAmong (said_of a) r among
IsHalt halt.NoMemory r among = Unit {0}

-- the number that writing an answer gives
abbrev pub IsFinished : ℕ → Said → Writing → Type 0
IsFinished n said w =
    ((n ≡ status_number said.status) × Grows w.bytes said.text w.bytes')
    ⊎ ((n ≡ 6) × Rose w.faults w.faults' × GrowsByPrefix w.bytes said.text w.bytes')
    ⊎ ((n ≡ 8) × GrowsByPrefix w.bytes said.text w.bytes')
