-- The fault of a text is that of its words.
use Rattle.std.proofs.Common.{◌≡◌, ◌≤◌, ◌<◌, ◌⊎◌, inl, inr, ℕ, Bool, true, false, List, length, Result, Ok, Err, refl, sym, ap, ◌∙◌, arith}
use Rattle.std.specs.Prelude.{nat_le, if◌then◌else◌}
use Rattle.std.proofs.lemmas.Bool.Decides.{leb_tells}
use Rattle.lex_core.specs.declared.token.Token.{Token}
use Rattle.lex_core.specs.Lexing.{cut}
use Rattle.sail_syntax.specs.Tree.{Text}
use Rattle.sail_syntax.specs.Program.{Definition}
use Rattle.sail_grammar.specs.Words.{Words, words_of}
use Rattle.sail_grammar.specs.Spelling.{most_bytes}
use Rattle.sail_machine.specs.declared.fault.Fault.{Fault}
use Rattle.sail_machine.specs.declared.fault.Flaw.{Flaw}
use Rattle.sail_machine.specs.declared.fault.Flaw.TheVariants as flaw
use Rattle.sail_machine.specs.Run.{Outcome, read}
use Rattle.sail_reader.specs.declared.fault.SailFault.{SailFault}
use Rattle.sail_reader.specs.declared.fault.SailFault.TheVariants as fault
use Rattle.sail_reader.specs.Reading.{read_text, read_tokens, told, told_by}
use Rattle.sail_faults.proofs.First.{Answer}

abbrev Read : Type 0
Read = Result (List Definition) SailFault

abbrev failed : SailFault → Read
failed f = Err f

abbrev failed_run : Fault → Outcome
failed_run f = Err f

abbrev fault_of : Read → SailFault → SailFault
fault_of (Ok ds) other = other
fault_of (Err f) other = f

-- what a fault says, and where
abbrev flaw_in : SailFault → Flaw → Flaw
flaw_in (fault.Lex e) other = other
flaw_in (fault.Unexpected at) other = flaw.Unexpected
flaw_in (fault.Mixed at) other = flaw.Mixed
flaw_in (fault.TooDeep at) other = flaw.TooDeep
flaw_in (fault.TooMany at) other = flaw.TooMany
flaw_in fault.TooLong other = other
flaw_in fault.NoMemory other = other

abbrev place_in : SailFault → ℕ
place_in (fault.Lex e) = 0
place_in (fault.Unexpected at) = at
place_in (fault.Mixed at) = at
place_in (fault.TooDeep at) = at
place_in (fault.TooMany at) = at
place_in fault.TooLong = 0
place_in fault.NoMemory = 0

flaw_told : (why : Flaw) (at : ℕ) (other : Flaw) → flaw_in (told_by why at) other ≡ why
flaw_told flaw.Unexpected at other = refl
flaw_told flaw.Mixed at other = refl
flaw_told flaw.TooDeep at other = refl
flaw_told flaw.TooMany at other = refl

place_told : (why : Flaw) (at : ℕ) → place_in (told_by why at) ≡ at
place_told flaw.Unexpected at = refl
place_told flaw.Mixed at = refl
place_told flaw.TooDeep at = refl
place_told flaw.TooMany at = refl

abbrev fault_at : Flaw → ℕ → Fault
fault_at why at = record { flaw = why; at = at }

from_told : (o : Outcome) (f : Fault) → told o ≡ failed (told_by f.flaw f.at) → o ≡ failed_run f
from_told (Ok ds) f h = absurd cc
from_told (Err g) f h =
    let same : told_by g.flaw g.at ≡ told_by f.flaw f.at = ap (λ r. fault_of r fault.TooLong) h in
    let why : g.flaw ≡ f.flaw = sym (flaw_told g.flaw g.at g.flaw) ∙ ap (λ t. flaw_in t g.flaw) same ∙ flaw_told f.flaw f.at g.flaw in
    let place : g.at ≡ f.at = sym (place_told g.flaw g.at) ∙ ap place_in same ∙ place_told f.flaw f.at in
    ap failed_run (ap (λ w. fault_at w g.at) why ∙ ap (fault_at f.flaw) place)

first : (b : Bool) (x y : Read) → b ≡ true → (if b then x else y) ≡ x
first true x y h = refl
first false x y h = absurd cc

within : (n m : ℕ) → n ≤ m → ((nat_le n m ≡ true) × (n ≤ m)) ⊎ ((nat_le n m ≡ false) × (m < n)) → nat_le n m ≡ true
within n m h (inl l) = l.0
within n m h (inr l) = absurd (omega (arith, l.1, h))

pub text_fault : ((end : ℕ) (ws : Words) (f : Fault) → read end ws ≡ Err f → Answer end ws f)
    → (text : Text) (ts : List Token) (f : Fault) → length text ≤ most_bytes → cut text ≡ Ok ts → read_text text ≡ Err (told_by f.flaw f.at) → Answer (length text) (words_of text ts) f
text_fault law text ts f short is_cut h =
    let small : nat_le (length text) most_bytes ≡ true = within (length text) most_bytes short (leb_tells (length text) most_bytes) in
    let read_so : read_text text ≡ told (read (length text) (words_of text ts)) = first (nat_le (length text) most_bytes) (read_tokens text (cut text)) (failed fault.TooLong) small ∙ ap (read_tokens text) is_cut in
    law (length text) (words_of text ts) f (from_told (read (length text) (words_of text ts)) f (sym read_so ∙ h))
