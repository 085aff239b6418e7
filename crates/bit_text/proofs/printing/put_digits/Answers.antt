use Rattle.std.proofs.Common.{◌++◌, ◌∷◌, [], arith, rules, ◌≡◌}
use Rattle.bit_text.proofs.DigitLemmas.{digit_written}
use Rattle.bit_text.proofs.printing.put_digits.Goals as goal

pub loop-left-preserved : goal.loop-left-preserved
loop-left-preserved c =
    let written : c.push.new.self.items ≡ c.loop-left.out.items ++ c.digit_at.result ∷ [] = search rules in
    (omega arith, digit_written c.args.each c.loop-left.left c.args.value c.digit_at.result c.loop-left.out.items c.push.new.self.items _ c.loop-left-test.true c.digit_at.ensures written c.loop-left.invariant.1)
