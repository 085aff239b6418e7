-- What the code says is what the definition says.
use Rattle.std.proofs.Common.{◌≡◌, List, Some, None, refl, ap, ◌∙◌}
use Rattle.std.specs.Prelude.{Result, Ok, Err}
use Rattle.std.specs.declared.option.Option.{Option}
use Rattle.lex_core.specs.Classes.{Text}
use Rattle.lex_core.specs.Want.{Unless}
use Rattle.sail_syntax.specs.Program.{Definition}
use Rattle.sail_syntax.specs.View.{program_of}
use Rattle.sail_syntax.specs.declared.definitions.Program.{Program}
use Rattle.sail_reader.specs.Reading.{read_text, is_want}
use Rattle.sail_reader.specs.declared.fault.SailFault.{SailFault}
use Rattle.sail_reader.specs.declared.fault.SailFault.TheVariants as reading
use Rattle.type_rules.specs.Program.{type_fault}
use Rattle.type_rules.specs.declared.fault.TypeFault.{TypeFault}
use Rattle.type_rules.specs.declared.fault.TypeFault.TheVariants as typing
use Rattle.sail_typed.specs.Checked.{checked, unless_fault}
use Rattle.sail_typed.specs.Checked as check
use Rattle.sail_fault_text.specs.FaultText.{read_said, type_said}
use Rattle.report_text.specs.Outcome.{Said}
use Rattle.sail_verdict.specs.Verdict.{on_types, on_read, sail_verdict}

abbrev program_in : Program → Result Program TypeFault → Program
program_in other (Ok p) = p
program_in other (Err f) = other

abbrev fault_in : Result Program TypeFault → Option TypeFault
fault_in (Ok p) = None
fault_in (Err f) = Some f

module _ (file : Text) where
  -- what is said of a fault, as the definition has it
  abbrev faulty : Option Said → Result (List Definition) (Option Said)
  faulty o = Err o

  -- a text that can't be read
  told_fault : (r : Result (List Definition) SailFault) (f : SailFault) (said : Said) → Unless (is_want f) (r ≡ Err f) → read_said file f ≡ Some said
      → on_read file r ≡ Err (Some said)
  told_fault r (reading.Lex f) said h e = ap (on_read file) h ∙ ap faulty e
  told_fault r (reading.Unexpected at) said h e = ap (on_read file) h ∙ ap faulty e
  told_fault r (reading.Mixed at) said h e = ap (on_read file) h ∙ ap faulty e
  told_fault r (reading.TooDeep at) said h e = ap (on_read file) h ∙ ap faulty e
  told_fault r (reading.TooMany at) said h e = ap (on_read file) h ∙ ap faulty e
  told_fault r reading.TooLong said h e = ap (on_read file) h ∙ ap faulty e
  told_fault r reading.NoMemory said h e = absurd (cc)

  pub read_told : (text : Text) (f : SailFault) (said : Said) → Unless (is_want f) (read_text text ≡ Err f) → read_said file f ≡ Some said
      → sail_verdict file text ≡ Err (Some said)
  read_told text f said h e = told_fault (read_text text) f said h e

  -- a program that isn't typed
  fault_of : (p : Program) (o : Option TypeFault) (f : TypeFault) → unless_fault p o ≡ Err f → o ≡ Some f
  fault_of p None f h = absurd (cc)
  fault_of p (Some g) f h = ap fault_in h

  with_fault : (p : Program) (f : TypeFault) (said : Said) → type_said file f ≡ Some said → type_fault (program_of p) ≡ Some f
      → on_types file (program_of p) (type_fault (program_of p)) ≡ Err (Some said)
  with_fault p f said e is = ap (on_types file (program_of p)) is ∙ ap faulty e

  told_types : (p : Program) (f : TypeFault) (said : Said) → Unless (check.is_want f) (checked p ≡ Err f) → type_said file f ≡ Some said
      → on_types file (program_of p) (type_fault (program_of p)) ≡ Err (Some said)
  told_types p (typing.Unknown x at) said h e = with_fault p _ said e (fault_of p (type_fault (program_of p)) _ h)
  told_types p (typing.Twice x at) said h e = with_fault p _ said e (fault_of p (type_fault (program_of p)) _ h)
  told_types p (typing.TypeDiffers want got at) said h e = with_fault p _ said e (fault_of p (type_fault (program_of p)) _ h)
  told_types p typing.NoInstr said h e = with_fault p _ said e (fault_of p (type_fault (program_of p)) _ h)
  told_types p typing.NoPc said h e = with_fault p _ said e (fault_of p (type_fault (program_of p)) _ h)
  told_types p (typing.Later x at) said h e = with_fault p _ said e (fault_of p (type_fault (program_of p)) _ h)
  told_types p (typing.CallHeight x at) said h e = with_fault p _ said e (fault_of p (type_fault (program_of p)) _ h)
  told_types p (typing.BadInstr16 at) said h e = with_fault p _ said e (fault_of p (type_fault (program_of p)) _ h)
  told_types p typing.NoMemory said h e = absurd (cc)

  pub types_told : (text : Text) (p : Program) (f : TypeFault) (said : Said) → read_text text ≡ Ok (program_of p) → Unless (check.is_want f) (checked p ≡ Err f)
      → type_said file f ≡ Some said → sail_verdict file text ≡ Err (Some said)
  types_told text p f said is h e = ap (on_read file) is ∙ told_types p f said h e

  -- a program that is typed
  typed_as : (p q : Program) (o : Option TypeFault) → unless_fault p o ≡ Ok q → on_types file (program_of p) o ≡ Ok (program_of q)
  typed_as p q None h = ap (λ (r : Result Program TypeFault). typed_in r) h
    where
      typed_in : Result Program TypeFault → Result (List Definition) (Option Said)
      typed_in r = Ok (program_of (program_in p r))
  typed_as p q (Some g) h = absurd (cc)

  pub typed_told : (text : Text) (p q : Program) → read_text text ≡ Ok (program_of p) → checked p ≡ Ok q → sail_verdict file text ≡ Ok (program_of q)
  typed_told text p q is h = ap (on_read file) is ∙ typed_as p q (type_fault (program_of p)) h
