-- The words with which lines begin, and those of failures.
use Rattle.std.specs.Prelude.{if◌then◌else◌, List, [], ◌∷◌, Option, Some, None, bytes_eq, codes}
use Rattle.term_tree.specs.Terms.{Text}
use Rattle.trace_plain.specs.declared.trace.FailKind.{FailKind}
use Rattle.trace_plain.specs.declared.trace.FailKind.TheVariants as failure
use Rattle.trace_read.specs.declared.word_tables.Head.{Head}
use Rattle.trace_read.specs.declared.word_tables.Head.TheVariants as head

-- what the first entry of a word stands for
abbrev pub entry_in : {A : Type 0} → List (Text × A) → Text → Option A
entry_in [] x = None
entry_in (p ∷ ps) x = if bytes_eq x p.0 then Some p.1 else entry_in ps x

-- the words of events and ends
abbrev pub heads : List (Text × Head)
heads = (codes "read_reg", head.ReadReg) ∷ (codes "write_reg", head.WriteReg) ∷ (codes "read_mem", head.ReadMem) ∷ (codes "write_mem", head.WriteMem)
    ∷ (codes "assume", head.Assume) ∷ (codes "need", head.Need) ∷ (codes "assume_reg", head.AssumeReg)
    ∷ (codes "done", head.Done) ∷ (codes "fail", head.Fail) ∷ (codes "cases", head.Cases) ∷ []

-- the event or end of a word
unfoldable pub head_of : Text → Option Head
head_of x = entry_in heads x

-- the words of failures
abbrev pub failures : List (Text × FailKind)
failures = (codes "match", failure.Match) ∷ (codes "assert", failure.Assert) ∷ (codes "exit", failure.Exit) ∷ (codes "unsupported", failure.Unsupported)
    ∷ (codes "assumed_written", failure.AssumedWritten) ∷ []

-- the failure of a word
unfoldable pub failure_of : Text → Option FailKind
failure_of x = entry_in failures x
