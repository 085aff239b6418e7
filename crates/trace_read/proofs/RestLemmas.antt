-- What is left of a text, and the terms that are read from it.
use Rattle.std.proofs.Common.{◌≡◌, ℕ, ◌+◌, ◌≤◌, ◌<◌, Bool, true, false, List, [], ◌∷◌, length, get_or, drop, Result, Ok, Err, refl, sym, ap, subst, ◌∙◌, arith}
use Rattle.std.specs.Prelude.{IsTrue, ◌↔◌, nat_eq}
use Rattle.std.proofs.lemmas.Bool.{eqb-true, eqb-false}
use Rattle.std.proofs.lemmas.List.{drop_all, length-map}
use Rattle.lex_core.specs.declared.token.Kind.TheVariants as kind
use Rattle.lex_core.specs.declared.token.Token.{Token}
use Rattle.lex_core.specs.Want.{Unless}
use Rattle.term_tree.specs.declared.term.TermFault.TheVariants as limit
use Rattle.term_tree.specs.Terms.{Text, Tree}
use Rattle.term_print.specs.Words.{lexeme, lexemes}
use Rattle.term_words.specs.Scopes.{Scope}
use Rattle.term_read.specs.declared.reading.TermReadFault.{TermReadFault}
use Rattle.term_read.specs.declared.reading.TermReadFault.TheVariants as term_fault
use Rattle.term_read.specs.Reading as reading
use Rattle.term_read.specs.Reading.{Outcome, run, wanted, numbered, term_from}
use Rattle.term_read.specs.ReadingView.{Faults}
use Rattle.term_read.proofs.LoopLemmas.{cell}
use Rattle.term_read.proofs.SoundLemmas.{read_is_spelled}
use Rattle.term_read.proofs.SpelledLemmas.{spelled_read}
use Rattle.trace_read.specs.declared.fault.TraceFault.TheVariants as fault
use Rattle.trace_read.specs.Readers.{is_want}
use Rattle.trace_read.specs.Taking.{Left, place_of, first_of, first, of_term, term_read, term}

-- what is left from a token on
abbrev pub left_from : Text → List Token → ℕ → Left
left_from text ts i = record { words = drop i (lexemes text ts); end = length text }

-- ---- the next word

-- its place
pub place_here : (text : Text) (ts : List Token) (i end : ℕ) (t : Token) → i < length ts → place_of (drop i (lexemes text ts)) end ≡ (get_or ts i t).from
place_here text ts i end t l = ap (λ ws. place_of ws end) (cell text ts i t l)

-- there is none
pub place_none : (text : Text) (ts : List Token) (i end : ℕ) → i ≡ length ts → drop i (lexemes text ts) ≡ []
place_none text ts i end e = drop_all i (lexemes text ts) (omega (arith, length-map ts (lexeme text)))

pub is_end : (text : Text) (ts : List Token) (i : ℕ) → i ≤ length ts → IsTrue (nat_eq i (length ts)) ↔ (drop i (lexemes text ts) ≡ [])
is_end text ts i l = (λ h. place_none text ts i 0 (eqb-true i (length ts) h), λ e. go e (nat_eq i (length ts)) refl)
  where
    go : drop i (lexemes text ts) ≡ [] → (b : Bool) → nat_eq i (length ts) ≡ b → b ≡ true
    go e true is = refl
    go e false is =
        let differs = eqb-false i (length ts) is in
        let here = cell text ts i (record { kind = kind.Name; from = 0; to = 0 }) (omega arith) in
        absurd (let both = sym e ∙ here in let none : [] ≡ lexeme text (get_or ts i (record { kind = kind.Name; from = 0; to = 0 })) ∷ drop (i + 1) (lexemes text ts) = both in cc)

-- the next word
pub first_here : (text : Text) (ts : List Token) (i : ℕ) (d : Token) → i < length ts → first (left_from text ts i) ≡ Ok (lexeme text (get_or ts i d), left_from text ts (i + 1))
unfolding first
first_here text ts i d l = ap (λ ws. first_of ws (length text)) (cell text ts i d l)

-- there is no next word
pub first_none : (text : Text) (ts : List Token) (i : ℕ) → i ≡ length ts → first (left_from text ts i) ≡ Err (fault.TraceForm (length text))
unfolding first
first_none text ts i e = ap (λ ws. first_of ws (length text)) (place_none text ts i 0 e)

-- ---- terms

-- a term that is read
pub term_given : (text : Text) (ts : List Token) (from next : ℕ) (scope : Scope) (t : Tree) → term_from text ts from scope ≡ Ok (t, next) → term scope (left_from text ts from) ≡ Ok (t, left_from text ts next)
unfolding term
term_given text ts from next scope t e =
    ap (term_read (length text)) (spelled_read scope (length text) (drop from (lexemes text ts)) (drop next (lexemes text ts)) t (read_is_spelled text ts from next scope t e))

-- a fault
term_fails : (text : Text) (ts : List Token) (from : ℕ) (scope : Scope) (f : TermReadFault) → term_from text ts from scope ≡ Err f → term scope (left_from text ts from) ≡ Err (of_term f)
unfolding term term_from
term_fails text ts from scope f e = go (run scope (length text) [] wanted (drop from (lexemes text ts))) e
  where
    go : (o : Outcome Tree) → numbered (length ts) o ≡ Err f → term_read (length text) o ≡ Err (of_term f)
    go (Ok (t, rest)) h = absurd (cc)
    go (Err g) h = let same : g ≡ f = cc in ap (λ (k : TermReadFault). Err (of_term k)) same

-- the same where want of memory is free
pub term_stops : (text : Text) (ts : List Token) (from : ℕ) (scope : Scope) (f : TermReadFault) → Faults (term_from text ts from scope) f → Unless (is_want (of_term f)) (term scope (left_from text ts from) ≡ Err (of_term f))
term_stops text ts from scope (term_fault.Form at) h = term_fails text ts from scope _ h
term_stops text ts from scope (term_fault.Unbound at) h = term_fails text ts from scope _ h
term_stops text ts from scope (term_fault.WidthDiffers at) h = term_fails text ts from scope _ h
term_stops text ts from scope (term_fault.Term limit.TooManyTerms) h = absurd h
term_stops text ts from scope (term_fault.Term limit.TermTooHigh) h = term_fails text ts from scope _ h
term_stops text ts from scope (term_fault.Term limit.NoMemory) h = tt
