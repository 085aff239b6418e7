-- What is said of a Sail text with a fault: bad input or a limit, and one line on the file.
use Rattle.std.specs.Prelude.{ℕ, List, [], ◌∷◌, ◌++◌, codes, Option, Some, None}
use Rattle.std.specs.Fmt.{decimal}
use Rattle.std.specs.List.{concat}
use Rattle.lex_core.specs.Classes.{Text}
use Rattle.lex_core.specs.declared.token.LexFault.{LexFault}
use Rattle.lex_core.specs.declared.token.LexFault.TheVariants as lex
use Rattle.sail_syntax.specs.declared.types.Ty.{Ty}
use Rattle.sail_syntax.specs.declared.types.Ty.TheVariants as ty
use Rattle.sail_reader.specs.declared.fault.SailFault.{SailFault}
use Rattle.sail_reader.specs.declared.fault.SailFault.TheVariants as reading
use Rattle.type_rules.specs.declared.fault.TypeFault.{TypeFault}
use Rattle.type_rules.specs.declared.fault.TypeFault.TheVariants as typing
use Rattle.constants_text.specs.Texts.{on_file_text}
use Rattle.report_text.specs.Outcome.{Said, bad_input, beyond}
use Rattle.report_text.specs.declared.numbers.TheConstants.{TEXT_TOO_LONG, NO_FUNCTION}
use Rattle.sail_fault_text.specs.declared.numbers.TheConstants.{BAD_BYTE, OPEN_COMMENT, OPEN_TEXT, TOO_WIDE, UNEXPECTED, MIXED, TOO_DEEP, TOO_MANY_OF_A_KIND, UNKNOWN, TWICE, TYPE_DIFFERS, NO_PC, LATER, CALL_HEIGHT, BAD_INSTR16}

-- a type: `unit`, `bool`, `bits(8)`, or the name of an enum
abbrev pub type_text : Ty → Text
type_text ty.Unit = codes "unit"
type_text ty.Bool = codes "bool"
type_text (ty.Bits w) = concat (codes "bits(" ∷ decimal w ∷ codes ")" ∷ [])
type_text (ty.Enum x) = x

-- ---- fields of a line, with a blank between them

-- a name and a place
abbrev pub name_at : Text → ℕ → Text
name_at x at = concat (x ∷ codes " " ∷ decimal at ∷ [])

-- the type that is asked for, the one that is there, and a place
abbrev pub types_at : Ty → Ty → ℕ → Text
types_at want got at = concat (type_text want ∷ codes " " ∷ type_text got ∷ codes " " ∷ decimal at ∷ [])

-- ---- lines

-- an input with a fault
abbrev pub input : Text → ℕ → Text → Said
input file number fields = bad_input (on_file_text (codes "input") number file fields)

-- an input that passes a limit
abbrev pub limit : Text → ℕ → Text → Said
limit file number fields = beyond (on_file_text (codes "limit") number file fields)

-- ---- faults; of want of memory nothing is said

-- a text that can't be cut into tokens
abbrev pub lex_said : Text → LexFault → Option Said
lex_said file (lex.BadByte at) = Some (input file BAD_BYTE (decimal at))
lex_said file (lex.OpenComment at) = Some (input file OPEN_COMMENT (decimal at))
lex_said file (lex.OpenText at) = Some (input file OPEN_TEXT (decimal at))
lex_said file (lex.TooWide at) = Some (input file TOO_WIDE (decimal at))
lex_said file lex.NoMemory = None

-- a text that can't be read
abbrev pub read_said : Text → SailFault → Option Said
read_said file (reading.Lex f) = lex_said file f
read_said file (reading.Unexpected at) = Some (input file UNEXPECTED (decimal at))
read_said file (reading.Mixed at) = Some (input file MIXED (decimal at))
read_said file (reading.TooDeep at) = Some (limit file TOO_DEEP (decimal at))
read_said file (reading.TooMany at) = Some (limit file TOO_MANY_OF_A_KIND (decimal at))
read_said file reading.TooLong = Some (limit file TEXT_TOO_LONG [])
read_said file reading.NoMemory = None

-- a text that isn't typed
abbrev pub type_said : Text → TypeFault → Option Said
type_said file (typing.Unknown x at) = Some (input file UNKNOWN (name_at x at))
type_said file (typing.Twice x at) = Some (input file TWICE (name_at x at))
type_said file (typing.TypeDiffers want got at) = Some (input file TYPE_DIFFERS (types_at want got at))
type_said file typing.NoInstr = Some (input file NO_FUNCTION [])
type_said file typing.NoPc = Some (input file NO_PC [])
type_said file (typing.Later x at) = Some (input file LATER (name_at x at))
type_said file (typing.CallHeight x at) = Some (limit file CALL_HEIGHT (name_at x at))
type_said file (typing.BadInstr16 at) = Some (input file BAD_INSTR16 (decimal at))
type_said file typing.NoMemory = None
