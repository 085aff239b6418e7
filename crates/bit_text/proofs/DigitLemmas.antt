-- Digits that are written one by one.
use Rattle.std.proofs.Common.{◌≡◌, ℕ, zero, suc, ◌-◌, ◌*◌, ◌%◌, ◌/◌, ◌^◌, ◌≤◌, ◌<◌, List, [], ◌∷◌, ◌++◌, append_assoc, ap, ◌∙◌, arith}
use Rattle.std.proofs.Math.Nat.{pow-le-pow_right, div-eq_of_lt}
use Rattle.bit_text.specs.Texts.{digit, last_digits}

-- two to a power of at most four
pub small_power : (each : ℕ) → each ≤ 4 → (1 ≤ 2 ^ each) × (2 ^ each ≤ 16) × (1 * 2 ^ each % 340282366920938463463374607431768211456 ≡ 2 ^ each)
small_power each h =
    let two : 0 < 2 = omega arith in
    let none : 0 ≤ each = omega arith in
    let low : 2 ^ 0 ≤ 2 ^ each = pow-le-pow_right two none in
    let high : 2 ^ each ≤ 2 ^ 4 = pow-le-pow_right two h in
    (low, high, omega arith)

-- a digit is below 16
pub digit_small : (each x : ℕ) → each ≤ 4 → x % (1 * 2 ^ each % 340282366920938463463374607431768211456) < 16
digit_small each x h =
    let p = small_power each h in
    let below : x % 2 ^ each < 2 ^ each = omega arith in
    rw p.2 (omega (arith, below, p.1))

-- a digit is that of the definition
pub digit_is : (each x d : ℕ) → each ≤ 4 → d ≡ digit (x % (1 * 2 ^ each % 340282366920938463463374607431768211456)) → d ≡ digit (x % 2 ^ each)
digit_is each x d few e = e ∙ ap (λ m. digit (x % m)) (small_power each few).2

-- above the highest bit stand zeros
pub none_above : (x low each : ℕ) → x < 2 ^ 128 → 128 ≤ low → each ≤ 4 → x / 2 ^ low % 2 ^ each ≡ 0
none_above x low each h l few =
    let two : 0 < 2 = omega arith in
    let high : 2 ^ 128 ≤ 2 ^ low = pow-le-pow_right two l in
    let below : x < 2 ^ low = omega (arith, high, h) in
    let some = (small_power each few).0 in
    rw (div-eq_of_lt below) (omega (arith, some))

-- one digit more
pub digit_written : (each left x d : ℕ) (out new all : List ℕ) → 0 < left → d ≡ digit (x / 2 ^ (each * (left - 1)) % 2 ^ each)
    → new ≡ out ++ d ∷ [] → out ++ last_digits each left x ≡ all → new ++ last_digits each (left - 1) x ≡ all
digit_written each zero x d out new all some e written so_far = absurd (omega arith)
digit_written each (suc n) x d out new all some e written so_far =
    let back : suc n - 1 ≡ n = omega arith in
    let same : d ≡ digit (x / 2 ^ (each * n) % 2 ^ each) = e ∙ ap (λ k. digit (x / 2 ^ (each * k) % 2 ^ each)) back in
    ap (λ k. new ++ last_digits each k x) back ∙ ap (λ l. l ++ last_digits each n x) (written ∙ ap (λ b. out ++ b ∷ []) same) ∙ append_assoc out _ _ ∙ so_far
