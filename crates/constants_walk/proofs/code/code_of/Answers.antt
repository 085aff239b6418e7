use Rattle.std.proofs.Common.{◌-◌, ◌+◌, ap, sym, ◌∙◌}
use Rattle.constants_walk.specs.Conditions.{bytes_in}
use Rattle.constants_walk.proofs.CodeLemmas.{with_rest, begins, code_is, goes_on}
use Rattle.constants_walk.proofs.code.code_of.Goals as goal

pub loop-at-init : goal.loop-at-init
loop-at-init c =
    ap (λ code. with_rest code (bytes_in c.args.image.now.memory c.args.lo (c.args.hi - c.args.lo))) c.new-code.ensures
    ∙ begins (bytes_in c.args.image.now.memory c.args.lo (c.args.hi - c.args.lo))
    ∙ sym (code_is c.args.image.now.memory c.args.lo c.args.hi c.ranges.hi.fits)

pub loop-at-preserved : goal.loop-at-preserved
loop-at-preserved c =
    ap (λ code. with_rest code (bytes_in c.args.image.now.memory (c.loop-at.at + 1) (c.args.hi - (c.loop-at.at + 1)))) c.in_ok-push-in-Some.ensures.ok
    ∙ goes_on c.args.image.now.memory c.loop-at.at c.args.hi c.loop-at.code c.in-Some.byte _ c.loop-at-test.true c.in-Some.ensures c.loop-at.invariant
