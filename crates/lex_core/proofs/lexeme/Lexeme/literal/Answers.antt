use Rattle.lex_core.proofs.FormLemmas.{hex_literal, binary_literal}
use Rattle.lex_core.proofs.lexeme.Lexeme.literal.Goals as goal

pub bits-requires-clause-bytes : goal.bits-requires-clause-bytes
bits-requires-clause-bytes c = hex_literal c.args.self.now.kind c.args.self.now.text.now c.in-Hex.is c.requires.form

pub bits-requires-in-Binary-clause-bytes : goal.bits-requires-in-Binary-clause-bytes
bits-requires-in-Binary-clause-bytes c = binary_literal c.args.self.now.kind c.args.self.now.text.now c.in-Binary.is c.requires.form
