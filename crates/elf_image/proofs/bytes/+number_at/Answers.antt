use Rattle.std.proofs.Common.{◌≡◌, ℕ, ◌+◌, ◌-◌, ◌*◌, ◌^◌, ◌<◌, ◌≤◌, arith, rules, sym, subst}
use Rattle.std.proofs.lemmas.Nat.{pow-add}
use Rattle.std.proofs.Math.Pow.{pow_mono}
use Rattle.elf_image.proofs.bytes.+number_at.Goals as goal

-- one more byte
digit : (n b rest : ℕ) → 0 < n → b < 256 → rest < 2 ^ (8 * (n - 1)) → b + 256 * rest < 2 ^ (8 * n)
digit n b rest some byte low =
    let split : 8 * n ≡ 8 + 8 * (n - 1) = omega arith in
    let power : 2 ^ (8 + 8 * (n - 1)) ≡ 256 * 2 ^ (8 * (n - 1)) = pow-add 2 8 (8 * (n - 1)) in
    subst (λ (e : ℕ). b + 256 * rest < 2 ^ e) (sym split) (subst (λ (x : ℕ). b + 256 * rest < x) (sym power) (omega (arith, byte, low)))

fits : (n : ℕ) → n ≤ 16 → 2 ^ (8 * n) ≤ 2 ^ 128
fits n few = pow_mono {i = 8 * n} {j = 128} (omega (arith, few))

pub overflow_mul-result : goal.overflow_mul-result
overflow_mul-result t c =
    let low = digit c.args.count 0 c.in_ok-rest.rest (omega (arith, c.if-count-eq0.false)) (omega arith) c.in_ok-rest.ensures.fits in
    let high = fits c.args.count c.requires.few in omega (arith, low, high)

pub overflow_add-result : goal.overflow_add-result
overflow_add-result t c =
    let low = digit c.args.count c.from-2.result c.in_ok-rest.rest (omega (arith, c.if-count-eq0.false)) (let e = c.from-2.ensures in let f : c.in_ok-byte.byte < 256 = search rules in omega (arith, e, f)) c.in_ok-rest.ensures.fits in
    let high = fits c.args.count c.requires.few in omega (arith, low, high)

pub returns-clause-fits : goal.returns-clause-fits
returns-clause-fits t c = digit c.args.count c.from-2.result c.in_ok-rest.rest (omega (arith, c.if-count-eq0.false)) (let e = c.from-2.ensures in let f : c.in_ok-byte.byte < 256 = search rules in omega (arith, e, f)) c.in_ok-rest.ensures.fits
