use Rattle.std.proofs.Common.{◌≡◌, ◌+◌, List, [], length, drop, Ok, Err, sym, ap, subst, ◌∙◌, arith}
use Rattle.lex_core.specs.declared.token.Kind.TheVariants as kind
use Rattle.term_print.specs.Words.{lexemes}
use Rattle.term_read.specs.Reading.{Frame, wanted, run}
use Rattle.term_read.specs.ReadingView.{frames_of, HoldTerms}
use Rattle.term_read.specs.declared.term_reading.Turn.TheVariants as own
use Rattle.term_read.proofs.LoopLemmas.{goes_on, ends_here, fails_here, stops_here}
use Rattle.term_read.proofs.TokenLemmas.{tokens_fit}
use Rattle.term_read.proofs.ReadDivisionLemmas.{read_whole}
use Rattle.term_read.proofs.reading.term_among.Goals as goal

pub loop-number-init : goal.loop-number-init
loop-number-init c =
    let e = c.requires.none in
    (subst HoldTerms (sym e) tt, tt, ap (λ (k : List Frame). run c.args.scope.now (length c.args.text.now) k wanted (drop c.args.from (lexemes c.args.text.now c.args.tokens.now))) e)

pub token_word-requires : goal.token_word-requires
token_word-requires c = tokens_fit c.args.text.now c.args.tokens.now c.requires.tokens c.loop-number.number _ (omega arith)

pub loop-number-preserved : goal.loop-number-preserved
loop-number-preserved c =
    let is : c.step.result ≡ Ok (own.Goes c.in-Ok-Goes.next) = cc (c.in-Ok-Goes.is, c.in-Ok-Goes.field-0-is) in
    goes_on c.args.text.now c.args.tokens.now c.args.from c.args.scope.now _ _ c.loop-number.number _ _ c.in-Ok-Goes.next _ c.step.result (omega arith) c.token_word.ensures.value is c.step.ensures.turn c.step.ensures.fine c.loop-number.invariant.2

pub returns-in-Ok-Ends-clause-exact : goal.returns-in-Ok-Ends-clause-exact
returns-in-Ok-Ends-clause-exact c =
    let is : c.step.result ≡ Ok (own.Ends c.in-Ok-Ends.term) = cc (c.in-Ok-Ends.is, c.in-Ok-Ends.field-0-is) in
    ends_here c.args.text.now c.args.tokens.now c.args.from c.args.scope.now _ _ c.loop-number.number _ _ c.in-Ok-Ends.term _ c.step.result (omega arith) c.token_word.ensures.value is c.step.ensures.turn c.loop-number.invariant.2

pub returns-in-Err-clause-exact : goal.returns-in-Err-clause-exact
returns-in-Err-clause-exact c =
    let is : c.step.result ≡ Err c.in-Err.fault = cc (c.in-Err.is) in
    fails_here c.args.text.now c.args.tokens.now c.args.from c.args.scope.now _ _ c.loop-number.number _ _ c.in-Err.fault _ c.step.result (omega arith) c.token_word.ensures.value is c.step.ensures.turn c.loop-number.invariant.2

pub returns-clause-exact : goal.returns-clause-exact
returns-clause-exact c = stops_here c.args.text.now c.args.tokens.now c.args.from c.args.scope.now _ _ c.loop-number.number (record { kind = kind.Name; from = 0; to = 0 }) (omega arith) c.loop-number.invariant.2

pub returns-in-Ok-Ends-clause-no_division : goal.returns-in-Ok-Ends-clause-no_division
returns-in-Ok-Ends-clause-no_division c =
    let is : c.step.result ≡ Ok (own.Ends c.in-Ok-Ends.term) = cc (c.in-Ok-Ends.is, c.in-Ok-Ends.field-0-is) in
    read_whole c.args.text.now c.args.tokens.now c.args.from (c.loop-number.number + 1) c.args.scope.now _ (ends_here c.args.text.now c.args.tokens.now c.args.from c.args.scope.now _ _ c.loop-number.number _ _ c.in-Ok-Ends.term _ c.step.result (omega arith) c.token_word.ensures.value is c.step.ensures.turn c.loop-number.invariant.2)
