use Rattle.std.proofs.Common.{ℕ, ◌*◌, ◌^◌, ◌<◌, ◌≤◌, arith, rules}
use Rattle.std.proofs.Math.Pow.{pow_mono}
use Rattle.state_core.proofs.Digits.{digit}
use Rattle.state_core.proofs.bytes.+number.Goals as goal

fits : (n : ℕ) → n ≤ 16 → 2 ^ (8 * n) ≤ 2 ^ 128
fits n few = pow_mono {i = 8 * n} {j = 128} (omega (arith, few))

pub overflow_mul-result : goal.overflow_mul-result
overflow_mul-result t c =
    let low = digit c.args.count 0 c.in_ok-rest.rest (omega (arith, c.if-count-eq0.false)) (omega arith) c.in_ok-rest.ensures.fits in
    let high = fits c.args.count c.requires.few in omega (arith, low, high)

pub overflow_add-result : goal.overflow_add-result
overflow_add-result t c =
    let low = digit c.args.count c.from-2.result c.in_ok-rest.rest (omega (arith, c.if-count-eq0.false)) (let e = c.from-2.ensures in let f : c.in_ok-byte.byte < 256 = search rules in omega (arith, e, f)) c.in_ok-rest.ensures.fits in
    let high = fits c.args.count c.requires.few in omega (arith, low, high)

pub returns-clause-fits : goal.returns-clause-fits
returns-clause-fits t c = digit c.args.count c.from-2.result c.in_ok-rest.rest (omega (arith, c.if-count-eq0.false)) (let e = c.from-2.ensures in let f : c.in_ok-byte.byte < 256 = search rules in omega (arith, e, f)) c.in_ok-rest.ensures.fits
