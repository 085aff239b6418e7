use Rattle.std.proofs.Common.{◌≡◌, ◌<◌, length, arith}
use Rattle.std.proofs.lemmas.List.{length-map}
use Rattle.proof_words.specs.ProofFormWords.{lexeme}
use Rattle.proof_words.specs.ProofFormReaders.{left}
use Rattle.proof_form.proofs.ProofFormItems.{items_on, items_more, items_fit, items_stop, items_end}
use Rattle.proof_form.proofs.rules.items.Goals as goal

pub returns-in-Err-clause-exact : goal.returns-in-Err-clause-exact
returns-in-Err-clause-exact c =
    let count = length-map c.loop-behind.behind.tokens.now (lexeme c.loop-behind.behind.text.now) in
    let left_some : 0 < length c.loop-behind.behind.tokens.now = grind arith in
    let some : 0 < length (left c.loop-behind.behind) = omega (arith, count, left_some) in
    items_stop (λ x. (x.0, left x.1)) (left c.loop-behind.behind) c.loop-behind.values _ c.in-Err.stop some c.in-Err.ensures.exact c.loop-behind.invariant.so_far

pub loop-behind-smaller : goal.loop-behind-smaller
loop-behind-smaller c = (items_on (left c.loop-behind.behind) (c.in-Ok.value, left c.in-Ok.next) c.in-Ok.ensures.exact).1

pub loop-behind-preserved : goal.loop-behind-preserved
loop-behind-preserved c =
    record {
      so_far = items_more (left c.loop-behind.behind) c.loop-behind.values c.push.new.self (c.in-Ok.value, left c.in-Ok.next) _ c.in-Ok.ensures.exact c.in_ok-push-in-Ok.ensures.ok c.loop-behind.invariant.so_far;
      fit = items_fit c.loop-behind.values c.push.new.self c.in-Ok.value c.in_ok-push-in-Ok.ensures.ok c.loop-behind.invariant.fit c.in-Ok.ensures.fits;
    }

pub returns-clause-exact : goal.returns-clause-exact
returns-clause-exact c =
    let count = length-map c.loop-behind.behind.tokens.now (lexeme c.loop-behind.behind.text.now) in
    let left_none : length c.loop-behind.behind.tokens.now ≡ 0 = grind arith in
    let none : length (left c.loop-behind.behind) ≡ 0 = omega (arith, count, left_none) in
    items_end (left c.loop-behind.behind) c.loop-behind.values _ none c.loop-behind.invariant.so_far
