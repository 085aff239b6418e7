use Rattle.std.proofs.Common.{◌≡◌, ◌+◌, List, [], length, drop, Ok, Err, sym, ap, subst, ◌∙◌, arith}
use Rattle.lex_core.specs.declared.token.Kind.TheVariants as kind
use Rattle.term_print.specs.Words.{lexemes}
use Rattle.term_read.specs.Reading.{ArrayFrame, array_wanted, array_run}
use Rattle.term_read.specs.ReadingView.{array_frames_of, HoldArrays}
use Rattle.term_read.specs.declared.array_reading.ArrayTurn.TheVariants as own
use Rattle.term_read.proofs.LoopLemmas.{array_goes_on, array_ends_here, array_fails_here, array_stops_here}
use Rattle.term_read.proofs.TokenLemmas.{tokens_fit}
use Rattle.term_read.proofs.ReadDivisionLemmas.{array_read_whole}
use Rattle.term_read.proofs.reading.array_among.Goals as goal

pub loop-number-init : goal.loop-number-init
loop-number-init c =
    let e = c.requires.none in
    (subst HoldArrays (sym e) tt, tt, ap (λ (k : List ArrayFrame). array_run c.args.scope.now (length c.args.text.now) k array_wanted (drop c.args.from (lexemes c.args.text.now c.args.tokens.now))) e)

pub token_word-requires : goal.token_word-requires
token_word-requires c = tokens_fit c.args.text.now c.args.tokens.now c.requires.tokens c.loop-number.number _ (omega arith)

pub loop-number-preserved : goal.loop-number-preserved
loop-number-preserved c =
    let is : c.array_step.result ≡ Ok (own.Goes c.in-Ok-Goes.next) = cc (c.in-Ok-Goes.is, c.in-Ok-Goes.field-0-is) in
    array_goes_on c.args.text.now c.args.tokens.now c.args.from c.args.scope.now _ _ c.loop-number.number _ _ c.in-Ok-Goes.next _ c.array_step.result (omega arith) c.token_word.ensures.value is c.array_step.ensures.turn c.array_step.ensures.fine c.loop-number.invariant.2

pub returns-in-Ok-Ends-clause-exact : goal.returns-in-Ok-Ends-clause-exact
returns-in-Ok-Ends-clause-exact c =
    let is : c.array_step.result ≡ Ok (own.Ends c.in-Ok-Ends.array) = cc (c.in-Ok-Ends.is, c.in-Ok-Ends.field-0-is) in
    array_ends_here c.args.text.now c.args.tokens.now c.args.from c.args.scope.now _ _ c.loop-number.number _ _ c.in-Ok-Ends.array _ c.array_step.result (omega arith) c.token_word.ensures.value is c.array_step.ensures.turn c.loop-number.invariant.2

pub returns-in-Err-clause-exact : goal.returns-in-Err-clause-exact
returns-in-Err-clause-exact c =
    let is : c.array_step.result ≡ Err c.in-Err.fault = cc (c.in-Err.is) in
    array_fails_here c.args.text.now c.args.tokens.now c.args.from c.args.scope.now _ _ c.loop-number.number _ _ c.in-Err.fault _ c.array_step.result (omega arith) c.token_word.ensures.value is c.array_step.ensures.turn c.loop-number.invariant.2

pub returns-clause-exact : goal.returns-clause-exact
returns-clause-exact c = array_stops_here c.args.text.now c.args.tokens.now c.args.from c.args.scope.now _ _ c.loop-number.number (record { kind = kind.Name; from = 0; to = 0 }) (omega arith) c.loop-number.invariant.2

pub returns-in-Ok-Ends-clause-no_division : goal.returns-in-Ok-Ends-clause-no_division
returns-in-Ok-Ends-clause-no_division c =
    let is : c.array_step.result ≡ Ok (own.Ends c.in-Ok-Ends.array) = cc (c.in-Ok-Ends.is, c.in-Ok-Ends.field-0-is) in
    array_read_whole c.args.text.now c.args.tokens.now c.args.from (c.loop-number.number + 1) c.args.scope.now _ (array_ends_here c.args.text.now c.args.tokens.now c.args.from c.args.scope.now _ _ c.loop-number.number _ _ c.in-Ok-Ends.array _ c.array_step.result (omega arith) c.token_word.ensures.value is c.array_step.ensures.turn c.loop-number.invariant.2)
