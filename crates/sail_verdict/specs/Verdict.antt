-- What a Sail text is: the program that it spells, where that types; else what is said of it.
use Rattle.std.specs.Prelude.{◌≡◌, ◌⊎◌, List, Option, Some, None, Result, Ok, Err}
use Rattle.lex_core.specs.Classes.{Text}
use Rattle.sail_syntax.specs.Program.{Definition}
use Rattle.sail_syntax.specs.View.{program_of}
use Rattle.sail_reader.specs.Reading.{read_text}
use Rattle.sail_reader.specs.declared.fault.SailFault.{SailFault}
use Rattle.type_rules.specs.Program.{type_fault}
use Rattle.type_rules.specs.declared.fault.TypeFault.{TypeFault}
use Rattle.sail_fault_text.specs.FaultText.{read_said, type_said}
use Rattle.report_text.specs.Outcome.{Said, said_of}
use Rattle.report_text.specs.declared.outcome.Status.TheVariants as kind
use Rattle.sail_verdict.specs.declared.judging.Judged.{Judged}
use Rattle.sail_verdict.specs.declared.judging.Judged.TheVariants as judged

-- the text spells a program that types
pub record IsTyped (text : Text) (defs : List Definition) : Type 0 where
  pub spelled : read_text text ≡ Ok defs
  pub typed : type_fault defs ≡ None

-- with the program that the text spells, and the first fault of its types
abbrev pub on_types : Text → List Definition → Option TypeFault → Result (List Definition) (Option Said)
on_types file defs None = Ok defs
on_types file defs (Some f) = Err (type_said file f)

-- with the program that the text spells, or its first fault
abbrev pub on_read : Text → Result (List Definition) SailFault → Result (List Definition) (Option Said)
on_read file (Ok defs) = on_types file defs (type_fault defs)
on_read file (Err f) = Err (read_said file f)

-- the program of the text of a file of that name, or what is said of its first fault; nothing only of want of memory, which no text has
abbrev pub sail_verdict : Text → Text → Result (List Definition) (Option Said)
sail_verdict file text = on_read file (read_text text)

-- ---- laws

-- a program that types, or an input with a fault or past a limit, which spells no such program
abbrev pub IsTold : Text → Result (List Definition) (Option Said) → Type 0
IsTold text (Ok defs) = IsTyped text defs
IsTold text (Err None) = ⊥
IsTold text (Err (Some said)) = ((said.status ≡ kind.Input) ⊎ (said.status ≡ kind.Limit)) × ((defs : List Definition) → ¬ IsTyped text defs)

-- ---- the answer of the code

abbrev pub told_by : Judged → Result (List Definition) (Option Said)
told_by (judged.Typed program) = Ok (program_of program)
told_by (judged.Faulty outcome) = Err (Some (said_of outcome))
