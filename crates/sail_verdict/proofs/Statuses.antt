-- Each text is a program that types, or an input or a limit is said of it.
use Rattle.std.proofs.Common.{◌≡◌, ◌⊎◌, ℕ, zero, suc, ◌+◌, ◌-◌, Bool, true, false, List, [], ◌∷◌, length, Some, None, refl, sym, ap, ◌∙◌, inl, inr}
use Rattle.std.specs.Prelude.{if◌then◌else◌, nat_le, Result, Ok, Err, is_some, ⊤}
use Rattle.std.specs.declared.option.Option.{Option}
use Rattle.lex_core.specs.Classes.{Text}
use Rattle.lex_core.specs.Lexing.{cut, cut_at, cut_behind, after, front, with_front, Outcome}
use Rattle.lex_core.specs.declared.token.Token.{Token}
use Rattle.lex_core.specs.declared.token.LexFault.{LexFault}
use Rattle.lex_core.specs.declared.token.LexFault.TheVariants as lex
use Rattle.lex_core.specs.declared.piece.Piece.{Piece}
use Rattle.lex_core.specs.declared.piece.Piece.TheVariants as piece
use Rattle.sail_syntax.specs.Program.{Definition}
use Rattle.sail_grammar.specs.Words.{words_of}
use Rattle.sail_grammar.specs.Spelling.{most_bytes}
use Rattle.sail_machine.specs.Run.{read}
use Rattle.sail_machine.specs.Run as run
use Rattle.sail_machine.specs.declared.fault.Flaw.{Flaw}
use Rattle.sail_machine.specs.declared.fault.Flaw.TheVariants as flaw
use Rattle.sail_reader.specs.Reading.{read_text, read_tokens, told, told_by}
use Rattle.sail_reader.specs.declared.fault.SailFault.{SailFault}
use Rattle.sail_reader.specs.declared.fault.SailFault.TheVariants as reading
use Rattle.type_rules.specs.Program.{type_fault, fault_or, entry_fault, program_faults, has_word, may_have_word, instr_of, instr16_of, pc_number, begins_at}
use Rattle.type_rules.specs.Faults.{first, as_told}
use Rattle.type_rules.specs.declared.fault.Fault.{Fault}
use Rattle.type_rules.specs.declared.fault.Why.{Why}
use Rattle.type_rules.specs.declared.fault.Why.TheVariants as why
use Rattle.type_rules.specs.declared.fault.TypeFault.{TypeFault}
use Rattle.type_rules.specs.declared.fault.TypeFault.TheVariants as typing
use Rattle.sail_fault_text.specs.FaultText.{lex_said, read_said, type_said}
use Rattle.report_text.specs.Outcome.{Said}
use Rattle.report_text.specs.declared.outcome.Status.TheVariants as kind
use Rattle.sail_verdict.specs.Verdict.{IsTyped, on_types, on_read, sail_verdict, IsTold}

-- ---- an input or a limit is said

abbrev IsInput : Option Said → Type 0
IsInput None = ⊥
IsInput (Some said) = (said.status ≡ kind.Input) ⊎ (said.status ≡ kind.Limit)

-- of the fault, if there is one
abbrev OfLexFault : Text → Outcome → Type 0
OfLexFault file (Ok ts) = ⊤
OfLexFault file (Err f) = IsInput (lex_said file f)

in_front : (file : Text) (t : Token) (o : Outcome) → OfLexFault file o → OfLexFault file (with_front t o)
in_front file t (Ok ts) h = tt
in_front file t (Err f) h = h

behind_piece : (file : Text) (at : ℕ) (p : Piece) (behind : ℕ → Outcome) → ((n : ℕ) → OfLexFault file (behind n)) → OfLexFault file (after at p behind)
behind_piece file at (piece.Gap n) behind h = h n
behind_piece file at (piece.Token k n) behind h = in_front file _ (behind n) (h n)
behind_piece file at (piece.BadByte n) behind h = inl refl
behind_piece file at piece.OpenComment behind h = inl refl
behind_piece file at piece.OpenText behind h = inl refl
behind_piece file at piece.TooWide behind h = inl refl

cutting : (file : Text) (at left : ℕ) (z : Text) → OfLexFault file (cut_behind at left z)
cutting file at left [] = tt
cutting file at (suc left) (b ∷ z) = cutting file (at + 1) left z
cutting file at zero (b ∷ z) = behind_piece file at (front (b ∷ z)) _ (λ n. cutting file (at + 1) (n - 1) z)

-- the same of a text's fault
abbrev OfFault : Text → Result (List Definition) SailFault → Type 0
OfFault file (Ok ds) = ⊤
OfFault file (Err f) = IsInput (read_said file f)

flaws : (file : Text) (fl : Flaw) (at : ℕ) → IsInput (read_said file (told_by fl at))
flaws file flaw.Unexpected at = inl refl
flaws file flaw.Mixed at = inl refl
flaws file flaw.TooDeep at = inr refl
flaws file flaw.TooMany at = inr refl

outcomes : (file : Text) (o : run.Outcome) → OfFault file (told o)
outcomes file (Ok ds) = tt
outcomes file (Err f) = flaws file f.flaw f.at

of_tokens : (file text : Text) (o : Outcome) → OfLexFault file o → OfFault file (read_tokens text o)
of_tokens file text (Ok ts) h = outcomes file (read (length text) (words_of text ts))
of_tokens file text (Err f) h = h

of_length : (file text : Text) (short : Bool) → OfLexFault file (cut text) → OfFault file (if short then read_tokens text (cut text) else Err reading.TooLong)
of_length file text true h = of_tokens file text (cut text) h
of_length file text false h = inr refl

of_text : (file text : Text) → OfFault file (read_text text)
unfolding cut cut_at
of_text file text = of_length file text (nat_le (length text) most_bytes) (cutting file 0 0 text)

-- the same of a program's fault
abbrev OfTypes : Text → Option TypeFault → Type 0
OfTypes file None = ⊤
OfTypes file (Some f) = IsInput (type_said file f)

places : (file : Text) (at : ℕ) (w : Why) → IsInput (type_said file (as_told at w))
places file at (why.Unknown x) = inl refl
places file at (why.Twice x) = inl refl
places file at (why.Differs want got) = inl refl
places file at (why.Later x) = inl refl
places file at (why.TooHigh x) = inr refl

of_first : (file : Text) (o : Option Fault) (missing : Option TypeFault) → OfTypes file missing → OfTypes file (fault_or o missing)
of_first file None missing h = h
of_first file (Some f) missing h = places file f.at f.why

of_entries : (file : Text) (at : ℕ) (a b c : Bool) → OfTypes file (if a then (if b then (if c then None else Some (typing.BadInstr16 at)) else Some typing.NoPc) else Some typing.NoInstr)
of_entries file at true true true = tt
of_entries file at true true false = inl refl
of_entries file at true false c = inl refl
of_entries file at false b c = inl refl

of_types : (file : Text) (defs : List Definition) → OfTypes file (type_fault defs)
of_types file defs = of_first file (first (program_faults defs)) (entry_fault defs)
    (of_entries file (begins_at (instr16_of defs)) (has_word 32 (instr_of defs)) (is_some (pc_number defs)) (may_have_word 16 (instr16_of defs)))

-- ---- what is told

no_program : (f : SailFault) (defs : List Definition) → Err f ≡ Ok defs → ⊥
no_program f defs is = absurd (cc)

abbrev program_in : List Definition → Result (List Definition) SailFault → List Definition
program_in other (Ok defs) = defs
program_in other (Err f) = other

no_fault : (f : TypeFault) → Some f ≡ None → ⊥
no_fault f is = absurd (cc)

module _ (file text : Text) where
  fault_told : (o : Option Said) → IsInput o → ((defs : List Definition) → ¬ IsTyped text defs) → IsTold text (Err o)
  fault_told None h none = h
  fault_told (Some said) h none = (h, none)

  by_types : (defs : List Definition) (o : Option TypeFault) → read_text text ≡ Ok defs → type_fault defs ≡ o → OfTypes file o → IsTold text (on_types file defs o)
  by_types defs None spelled typed h = record { spelled = spelled; typed = typed }
  by_types defs (Some f) spelled typed h = fault_told (type_said file f) h (λ others t.
      no_fault f (sym typed ∙ ap (λ r. type_fault (program_in defs r)) (sym spelled ∙ t.spelled) ∙ t.typed))

  by_read : (r : Result (List Definition) SailFault) → read_text text ≡ r → OfFault file r → IsTold text (on_read file r)
  by_read (Ok defs) spelled h = by_types defs (type_fault defs) spelled refl (of_types file defs)
  by_read (Err f) spelled h = fault_told (read_said file f) h (λ others t. no_program f others (sym spelled ∙ t.spelled))

pub told_of_each : (file text : Text) → IsTold text (sail_verdict file text)
told_of_each file text = by_read file text (read_text text) refl (of_text file text)
