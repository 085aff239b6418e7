use Rattle.std.proofs.Common.{◌∙◌, get_or, Ok, ap, sym, ◌+◌, arith}
use Rattle.lex_core.specs.declared.token.Kind.TheVariants as kind
use Rattle.term_print.specs.Words.{Word}
use Rattle.term_read.proofs.TokenLemmas.{tokens_fit}
use Rattle.trace_read.proofs.RestLemmas.{first_here, left_from}
use Rattle.trace_read.proofs.rest.Rest.first.Goals as goal

pub token_word-word-requires : goal.token_word-word-requires
token_word-word-requires c = tokens_fit c.args.self.text.now c.args.self.tokens.now c.args.self.cutting c.args.self.next _ (omega arith)

pub returns-clause-exact : goal.returns-clause-exact
returns-clause-exact c =
    first_here c.args.self.text.now c.args.self.tokens.now c.args.self.next _ (omega arith)
    ∙ ap (λ (w : Word). Ok (record { word = w; at = (get_or c.args.self.tokens.now c.args.self.next (record { kind = kind.Name; from = 0; to = 0 })).from }, left_from c.args.self.text.now c.args.self.tokens.now (c.args.self.next + 1))) (sym c.token_word-word.ensures.value)
