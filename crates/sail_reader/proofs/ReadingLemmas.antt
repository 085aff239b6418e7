-- What is read of a text is what it spells.
use Rattle.std.proofs.Common.{◌≡◌, ◌≤◌, ◌<◌, ◌⊎◌, inl, inr, Bool, true, false, if◌then◌else◌, List, [], length, Result, Ok, Err, refl, sym, ap, ◌∙◌, arith}
use Rattle.std.specs.Prelude.{nat_le}
use Rattle.std.proofs.lemmas.Bool.Decides.{leb_tells}
use Rattle.lex_core.specs.declared.token.Token.{Token}
use Rattle.lex_core.specs.declared.token.LexFault.{LexFault}
use Rattle.lex_core.specs.Lexing.{cut}
use Rattle.sail_syntax.specs.Tree.{Text}
use Rattle.sail_syntax.specs.Program.{Definition}
use Rattle.sail_grammar.specs.Words.{words_of}
use Rattle.sail_grammar.specs.Spelling.{IsSpelling, most_bytes}
use Rattle.sail_machine.specs.Run.{Outcome, read}
use Rattle.sail_machine.proofs.Programs.{program_is_read}
use Rattle.sail_machine.proofs.FoundTexts.{program_is_spelled}
use Rattle.sail_reader.specs.declared.fault.SailFault.{SailFault}
use Rattle.sail_reader.specs.declared.fault.SailFault.TheVariants as fault
use Rattle.sail_reader.specs.Reading.{read_text, read_tokens, told}

abbrev Answer : Type 0
Answer = Result (List Definition) SailFault

-- a length within the limit, or beyond it
abbrev Length : Text → Type 0
Length text = ((nat_le (length text) most_bytes ≡ true) × (length text ≤ most_bytes)) ⊎ ((nat_le (length text) most_bytes ≡ false) × (most_bytes < length text))

first : (b : Bool) (x y : Answer) → b ≡ true → (if b then x else y) ≡ x
first true x y h = refl
first false x y h = absurd cc

second : (b : Bool) (x y : Answer) → b ≡ false → (if b then x else y) ≡ y
second true x y h = absurd cc
second false x y h = refl

short_text : (text : Text) → nat_le (length text) most_bytes ≡ true → read_text text ≡ read_tokens text (cut text)
short_text text h = first (nat_le (length text) most_bytes) (read_tokens text (cut text)) (Err fault.TooLong) h

long_text : (text : Text) → nat_le (length text) most_bytes ≡ false → read_text text ≡ Err fault.TooLong
long_text text h = second (nat_le (length text) most_bytes) (read_tokens text (cut text)) (Err fault.TooLong) h

within : (text : Text) → Length text → length text ≤ most_bytes → nat_le (length text) most_bytes ≡ true
within text (inl l) h = l.0
within text (inr l) h = absurd (omega (arith, l.1, h))

pub is_read : (text : Text) (ds : List Definition) → IsSpelling text ds → read_text text ≡ Ok ds
is_read text ds is =
    short_text text (within text (leb_tells (length text) most_bytes) is.short)
    ∙ ap (read_tokens text) is.cut
    ∙ ap told (program_is_read (length text) (words_of text is.tokens) ds is.program)

abbrev given : Answer → List Definition
given (Ok ds) = ds
given (Err f) = []

from_told : (o : Outcome) (ds : List Definition) → told o ≡ Ok ds → o ≡ Ok ds
from_told (Ok es) ds h = let same : es ≡ ds = ap given h in ap Ok same
from_told (Err f) ds h = absurd cc

by_tokens : (text : Text) (ds : List Definition) (c : Result (List Token) LexFault) → cut text ≡ c → length text ≤ most_bytes → read_tokens text c ≡ Ok ds → IsSpelling text ds
by_tokens text ds (Ok ts) same short h =
    record { short = short; tokens = ts; cut = same; program = program_is_spelled (length text) (words_of text ts) ds (from_told (read (length text) (words_of text ts)) ds h) }
by_tokens text ds (Err f) same short h = absurd cc

by_length : (text : Text) (ds : List Definition) → Length text → read_text text ≡ Ok ds → IsSpelling text ds
by_length text ds (inl l) h = by_tokens text ds (cut text) refl l.1 (sym (short_text text l.0) ∙ h)
by_length text ds (inr l) h = absurd (let wrong : Err fault.TooLong ≡ Ok ds = sym (long_text text l.0) ∙ h in cc)

pub is_spelled : (text : Text) (ds : List Definition) → read_text text ≡ Ok ds → IsSpelling text ds
is_spelled text ds h = by_length text ds (leb_tells (length text) most_bytes) h

pub is_one : (text : Text) (ds es : List Definition) → IsSpelling text ds → IsSpelling text es → ds ≡ es
is_one text ds es is other = let same : Ok ds ≡ Ok es = sym (is_read text ds is) ∙ is_read text es other in ap given same
