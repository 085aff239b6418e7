use Rattle.std.proofs.Common.{◌≡◌, ◌||◌, ◌==◌, true, arith}
use Rattle.std.proofs.lemmas.Bool.Decides.{nat_tests}
use Rattle.constants_walk.specs.RegisterPlaces.{has}
use Rattle.constants_walk.proofs.Covering.{passed_over}
use Rattle.constants_walk.proofs.conditions.covers.Goals as goal
use Rattle.constants_walk.proofs.conditions.covers.Goals.{else-register-pc-via-then-register-pc+else-not-has, else-register-pc-via-else-register-pc}

pub loop-register-preserved : goal.loop-register-preserved
loop-register-preserved c =
    let i = c.loop-register.register in
    let passes : (i == c.args.pc || has c.args.values.now i) ≡ true =
    elim c.else-register-pc.branch [
      | else-register-pc-via-then-register-pc+else-not-has w ↦ grind (arith, nat_tests, w.has.ensures, w.if-not-has.false)
      | else-register-pc-via-else-register-pc w ↦ grind (arith, nat_tests, w.if-register-pc.false)
    ] in
    passed_over (λ k. k == c.args.pc || has c.args.values.now k) i c.args.registers _ c.loop-register-test.true passes c.loop-register.invariant
