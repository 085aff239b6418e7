-- What the calls answer of a whole text.
use Rattle.std.proofs.Common.{◌≡◌, ◌≢◌, ◌≤◌, Bool, true, false, List, [], ◌∷◌, length, drop, Result, Ok, Err, refl, sym, ap, subst, ◌∙◌}
use Rattle.std.specs.Prelude.{IfOk, MatchResult}
use Rattle.lex_core.specs.declared.name.RegDecl.{RegDecl}
use Rattle.lex_core.specs.declared.token.LexFault.{LexFault}
use Rattle.lex_core.specs.declared.token.Token.{Token}
use Rattle.lex_core.specs.Lexing as lexing
use Rattle.lex_core.specs.Want.{Unless, Gives}
use Rattle.term_tree.specs.Terms.{Text}
use Rattle.term_print.specs.Words.{lexemes}
use Rattle.trace_plain.specs.declared.trace.PlainTrace.{PlainTrace}
use Rattle.trace_plain.specs.Printable.{AreRegisters, IsPrintable}
use Rattle.trace_plain.specs.Rules.{IsByTheRules}
use Rattle.trace_plain.specs.Trace.{Trace, size}
use Rattle.trace_plain.specs.View.{trace_of}
use Rattle.trace_read.specs.declared.fault.TraceFault.{TraceFault}
use Rattle.trace_read.specs.declared.fault.TraceFault.TheVariants as fault
use Rattle.trace_read.specs.declared.reading.TheConstants.{MOST}
use Rattle.trace_read.specs.Readers.{is_want}
use Rattle.trace_read.specs.Reading.{whole, of_cutting, trace_in}
use Rattle.trace_read.specs.Taking.{Left, Answer, place}
use Rattle.trace_read.proofs.RestLemmas.{left_from}
use Rattle.trace_read.proofs.RuleLemmas.{spelled_by_rules}
use Rattle.trace_read.proofs.SoundLemmas.{read_is_spelled}

-- ---- want of memory is free

pub unless_so : (b : Bool) (A B : Type 0) → (A → B) → Unless b A → Unless b B
unless_so true A B f h = tt
unless_so false A B f h = f h

-- the end of a whole trace
pub ended_gives : (r : Result PlainTrace TraceFault) (w : Answer Trace) (left : Left) (t : PlainTrace)
    → MatchResult r (λ u. (left.words ≡ []) × (trace_of u ≡ trace_of t)) (λ f. (left.words ≢ []) × (f ≡ fault.TraceForm (place left)))
    → (left.words ≡ [] → w ≡ Ok (trace_of t)) → ((left.words ≡ [] → ⊥) → w ≡ Err (fault.TraceForm (place left))) → Gives is_want trace_of w r
ended_gives (Ok u) w left t h ends more = ends h.0 ∙ ap (λ (v : Trace). Ok v) (sym h.1)
ended_gives (Err f) w left t h ends more = subst (λ (g : TraceFault). Unless (is_want g) (w ≡ Err g)) (sym h.1) (more h.0)

-- ---- a whole text

same_words : (registers : List RegDecl) (text : Text) (ts us : List Token) → lexing.cut text ≡ Ok ts → us ≡ ts → whole registers (left_from text us 0) ≡ trace_in registers text
unfolding trace_in
same_words registers text ts us cuts same = ap (λ (l : List Token). whole registers (left_from text l 0)) same ∙ ap (of_cutting registers text) (sym cuts)

pub text_read : (registers : List RegDecl) (text : Text) (ts us : List Token) (r : Result PlainTrace TraceFault) → lexing.cut text ≡ Ok ts → us ≡ ts → Gives is_want trace_of (whole registers (left_from text us 0)) r
    → Gives is_want trace_of (trace_in registers text) r
text_read registers text ts us r cuts same h = subst (λ (w : Answer Trace). Gives is_want trace_of w r) (same_words registers text ts us cuts same) h

text_uncut : (registers : List RegDecl) (text : Text) (f : LexFault) → lexing.cut text ≡ Err f → trace_in registers text ≡ Err (fault.Lex f)
unfolding trace_in
text_uncut registers text f e = ap (of_cutting registers text) e

pub text_fails : (registers : List RegDecl) (text : Text) (f : LexFault) → Unless (lexing.is_want f) (lexing.cut text ≡ Err f) → Unless (lexing.is_want f) (trace_in registers text ≡ Err (fault.Lex f))
text_fails registers text f h = unless_so (lexing.is_want f) (lexing.cut text ≡ Err f) (trace_in registers text ≡ Err (fault.Lex f)) (text_uncut registers text f) h

-- ---- what is read is by the rules

-- what holds of it
pub record IsFineTrace (registers : List RegDecl) (t : Trace) : Type 0 where
  pub rules : IsByTheRules registers t
  pub printable : IsPrintable (length registers) t
  pub few : size t ≤ MOST

fine_trace : (registers : List RegDecl) (text : Text) (t : Trace) → AreRegisters registers → trace_in registers text ≡ Ok t → IsFineTrace registers t
fine_trace registers text t fine e =
    let own = read_is_spelled registers text t e in
    let rules = spelled_by_rules registers text t fine own.0 in
    record { rules = rules.0; printable = rules.1; few = own.1 }

pub read_rules : (registers : List RegDecl) (text : Text) (r : Result PlainTrace TraceFault) → AreRegisters registers → Gives is_want trace_of (trace_in registers text) r → IfOk r (λ t. IsByTheRules registers (trace_of t))
read_rules registers text (Ok t) fine h = (fine_trace registers text (trace_of t) fine h).rules
read_rules registers text (Err f) fine h = tt

pub read_printable : (registers : List RegDecl) (text : Text) (r : Result PlainTrace TraceFault) → AreRegisters registers → Gives is_want trace_of (trace_in registers text) r → IfOk r (λ t. IsPrintable (length registers) (trace_of t))
read_printable registers text (Ok t) fine h = (fine_trace registers text (trace_of t) fine h).printable
read_printable registers text (Err f) fine h = tt

pub read_few : (registers : List RegDecl) (text : Text) (r : Result PlainTrace TraceFault) → AreRegisters registers → Gives is_want trace_of (trace_in registers text) r → IfOk r (λ t. size (trace_of t) ≤ MOST)
read_few registers text (Ok t) fine h = (fine_trace registers text (trace_of t) fine h).few
read_few registers text (Err f) fine h = tt
