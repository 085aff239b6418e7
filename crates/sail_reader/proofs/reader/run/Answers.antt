use Rattle.std.proofs.Common.{length, subst, ◌∙◌}
use Rattle.std.proofs.Common.{map}
use Rattle.lex_core.specs.declared.token.Kind.TheVariants as kind
use Rattle.lex_core.specs.declared.token.Token.{Token}
use Rattle.lex_core.specs.Want.{Gives}
use Rattle.sail_grammar.specs.Words.{words_of}
use Rattle.sail_machine.specs.Run.{read}
use Rattle.sail_syntax.specs.View.{definition_of}
use Rattle.sail_reader.specs.Reading.{is_stop, stopped}
use Rattle.sail_reader.proofs.RunLemmas.{Stops, goes_on, stops_at, ends_as, stops_behind, tells, word_is}
use Rattle.sail_reader.proofs.reader.run.Goals as goal

abbrev none : Token
none = record { kind = kind.Name; from = 0; to = 0 }

pub returns-in_err-mode : goal.returns-in_err-mode
returns-in_err-mode c =
    tells (read (length c.args.text.now) (words_of c.args.text.now c.args.tokens.now)) c.from_residual-in_err-mode.result c.in_err-mode.field-0.0 c.from_residual-in_err-mode.ensures
    (subst (λ o. Stops o c.in_err-mode.field-0.0) c.loop-token.invariant
    (stops_at c.args.text.now c.args.tokens.now c.loop-token.token-index none (length c.args.text.now) c.loop-token.stack c.step.new.stack c.loop-token.mode c.in_ok-word.word c.step.result c.in_err-mode.field-0.0 c.loop-token-test.true (word_is c.args.text.now c.args.tokens.now c.loop-token.token-index none c.in_ok-word.word c.lexeme.result.kind c.lexeme.result.text.now c.lexeme.result.at c.in_ok-word.ensures c.lexeme.ensures.kind c.lexeme.ensures.text c.lexeme.ensures.at) c.step.ensures c.in_err-mode.was))

pub loop-token-preserved : goal.loop-token-preserved
loop-token-preserved c =
    goes_on c.args.text.now c.args.tokens.now c.loop-token.token-index none (length c.args.text.now) c.loop-token.stack c.step.new.stack c.loop-token.mode c.in_ok-mode.mode c.in_ok-word.word c.step.result c.loop-token-test.true (word_is c.args.text.now c.args.tokens.now c.loop-token.token-index none c.in_ok-word.word c.lexeme.result.kind c.lexeme.result.text.now c.lexeme.result.at c.in_ok-word.ensures c.lexeme.ensures.kind c.lexeme.ensures.text c.lexeme.ensures.at) c.step.ensures c.in_ok-mode.was
    ∙ c.loop-token.invariant

pub returns-in_err-last : goal.returns-in_err-last
returns-in_err-last c =
    tells (read (length c.args.text.now) (words_of c.args.text.now c.args.tokens.now)) c.from_residual-in_err-last.result c.in_err-last.field-0.0 c.from_residual-in_err-last.ensures
    (subst (λ o. Stops o c.in_err-last.field-0.0) c.loop-token.invariant
    (stops_behind c.args.text.now c.args.tokens.now c.loop-token.token-index (length c.args.text.now) c.loop-token.stack c.last.new.stack c.loop-token.mode c.last.result c.in_err-last.field-0.0 c.loop-token-test.false c.last.ensures c.in_err-last.was))

pub returns : goal.returns
returns c =
    subst (λ o. Gives is_stop (map definition_of) (stopped o) c.given.result)
    (ends_as c.args.text.now c.args.tokens.now c.loop-token.token-index (length c.args.text.now) c.loop-token.stack c.last.new.stack c.loop-token.mode c.in_ok-last.field-0 c.last.result c.loop-token-test.false c.last.ensures c.in_ok-last.was ∙ c.loop-token.invariant)
    c.given.ensures
