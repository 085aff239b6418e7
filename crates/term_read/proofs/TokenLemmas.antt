-- The tokens of a text lie in it and have their forms.
use Rattle.std.proofs.Common.{◌≡◌, List, Ok, sym, ◌∙◌}
use Rattle.std.specs.Prelude.{All}
use Rattle.lex_core.specs.declared.token.Token.{Token}
use Rattle.lex_core.specs.Classes.{Text}
use Rattle.lex_core.specs.Forms.{IsTokenOf}
use Rattle.lex_core.specs.Lexing.{cut}
use Rattle.lex_core.proofs.LexingLemmas.{cut_is}
use Rattle.lex_core.proofs.CuttingLemmas.{tokens-each}

-- the tokens of a text have their forms
pub tokens_fit : (text : Text) (ts : List Token) → cut text ≡ Ok ts → All (IsTokenOf text) ts
tokens_fit text ts e = tokens-each text ts (sym (cut_is text) ∙ e)
