-- The contract of each function that may add terms.
use Rattle.std.specs.Prelude.{◌≡◌, ◌<◌, ◌≤◌, ⊤, List, Contains, Result, Ok, Err}
use Rattle.term_tree.specs.declared.term.TermFault.{TermFault}
use Rattle.term_tree.specs.declared.term.TermFault.TheVariants as fault
use Rattle.term_tree.specs.Terms.{HIGHEST}
use Rattle.term_arena.specs.Nodes.{Node, Meaning, Keeps}
use Rattle.term_arena.specs.Arena.{height_in}
use Rattle.term_arena.specs.Built.{AddsOnly, IsFull}
use Rattle.term_arena.specs.Said.{Answers, Refuses, Said, behind}

-- one of these is higher than terms may be
pub record IsHigh (wanted : List Meaning) : Type 0 where
  pub high : Meaning
  pub wants : Contains wanted high
  pub above : HIGHEST < height_in high

-- none of these is
pub record AreLow (wanted : List Meaning) : Type 0 where
  pub each : (m : Meaning) → Contains wanted m → height_in m ≤ HIGHEST

-- why there is no answer: a rule refuses, a term is too high, there is no room for one more, or there is no memory
pub data Cause (R : Type 0) : Type 0 where
  by_rule : R → Cause R
  too_high : Cause R
  too_many : Cause R
  no_memory : Cause R

-- the cause of a fault of terms
abbrev pub term_cause : {R : Type 0} → List Node → TermFault → Cause R
term_cause nodes fault.TermTooHigh = too_high
term_cause nodes fault.TooManyTerms = too_many
term_cause nodes fault.NoMemory = no_memory

-- what a cause tells of the definition: its refusal; or one of its terms is too high, or has no room in the list that the
-- call left. Only for want of memory there may be any definition
abbrev pub TellsCause : {R A : Type 0} → List Node → Cause R → Said R A → Type 0
TellsCause new (by_rule why) s = (s.answer ≡ Refuses why) × AreLow s.work
TellsCause new too_high s = IsHigh s.work
TellsCause new too_many s = IsFull new s.work
TellsCause new no_memory s = ⊤

-- what a result tells of the definition: its answer, with no term too high, or a cause
abbrev pub Tells : {R E T A : Type 0} → (E → Cause R) → List Node → (T → A) → Result T E → Said R A → Type 0
Tells why new view (Ok x) s = (s.answer ≡ Answers (view x)) × AreLow s.work
Tells why new view (Err e) s = TellsCause new (why e) s

-- what a call that may add terms keeps, adds and answers; all terms are read over any list that keeps the new one
pub record MakesWith {R E T A : Type 0} (why : List Node → E → Cause R) (old new : List Node) (view : List Node → T → A) (r : Result T E) (said : List Node → Said R A) : Type 0 where
  pub kept : Keeps old new
  pub adds : (last : List Node) → Keeps new last → AddsOnly old new (said last).work
  pub tells : (last : List Node) → Keeps new last → Tells (why last) new (view last) r (said last)

-- the same of a call whose definition no rule refuses
abbrev pub Makes : {T A : Type 0} → List Node → List Node → (List Node → T → A) → Result T TermFault → (List Node → Said ⊥ A) → Type 0
Makes old new view r said = MakesWith term_cause old new view r said

-- what is left of a definition, when part of it is done
pub record Reaches {R A : Type 0} (old new : List Node) (whole rest : List Node → Said R A) : Type 0 where
  pub kept : Keeps old new
  pub done : List Node → List Meaning
  pub adds : (last : List Node) → Keeps new last → AddsOnly old new (done last)
  pub low : (last : List Node) → Keeps new last → AreLow (done last)
  pub same : (last : List Node) → Keeps new last → whole last ≡ behind (done last) (rest last)

-- a definition that answers the same, with these terms and no other ones that may be too high
pub record Covers {R A : Type 0} (s t : Said R A) : Type 0 where
  pub same : s.answer ≡ t.answer
  pub each : (m : Meaning) → Contains s.work m → Contains t.work m
  pub low : AreLow s.work → AreLow t.work
