-- Texts that can be cut, and those that can't.
use Rattle.std.proofs.Common.{◌≡◌, List, Err, Ok, ◌≢◌, refl, ap}
use Rattle.lex_core.specs.declared.token.Token.{Token}
use Rattle.lex_core.specs.declared.token.LexFault.{LexFault}
use Rattle.lex_core.specs.declared.token.LexFault.TheVariants as fault
use Rattle.lex_core.specs.Classes.{Text}
use Rattle.lex_core.specs.Lexing.{Gives, cut}
use Rattle.proof_form.specs.ProofForm.{proof_form, of_cutting, of_tokens}
use Rattle.proof_form.specs.declared.form.ReadProof.TheVariants as read

-- a text that can't be cut is outside the form
pub outside_at_fault : (text : Text) (f : LexFault) → f ≢ fault.NoMemory → Gives (Err f) (cut text) → proof_form text ≡ read.Outside
unfolding proof_form
outside_at_fault text (fault.BadByte at) not h = ap (of_cutting text) h
outside_at_fault text (fault.OpenComment at) not h = ap (of_cutting text) h
outside_at_fault text (fault.OpenText at) not h = ap (of_cutting text) h
outside_at_fault text (fault.TooWide at) not h = ap (of_cutting text) h
outside_at_fault text fault.NoMemory not h = absurd (not refl)

-- a text that can be cut is what its tokens are
pub from_tokens : (text : Text) (ts : List Token) → cut text ≡ Ok ts → proof_form text ≡ of_tokens text ts
unfolding proof_form
from_tokens text ts h = ap (of_cutting text) h
