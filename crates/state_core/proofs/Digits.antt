-- Numbers of several bytes fit in them.
use Rattle.std.proofs.Common.{◌≡◌, ℕ, zero, suc, ◌+◌, ◌-◌, ◌*◌, ◌^◌, ◌<◌, arith, refl, sym, subst, Some, None}
use Rattle.std.specs.declared.option.Option.{Option}
use Rattle.std.specs.Prelude.{IfSome, option_and_then}
use Rattle.std.specs.FinMap.{get}
use Rattle.std.proofs.lemmas.Nat.{pow-add}
use Rattle.state_core.specs.State.{Memory, IsMemory}
use Rattle.state_core.specs.Memory.{number_at}

-- one more byte
pub digit : (n b rest : ℕ) → 0 < n → b < 256 → rest < 2 ^ (8 * (n - 1)) → b + 256 * rest < 2 ^ (8 * n)
digit n b rest some byte low =
    let split : 8 * n ≡ 8 + 8 * (n - 1) = omega arith in
    let power : 2 ^ (8 + 8 * (n - 1)) ≡ 256 * 2 ^ (8 * (n - 1)) = pow-add 2 8 (8 * (n - 1)) in
    subst (λ (e : ℕ). b + 256 * rest < 2 ^ e) (sym split) (subst (λ (x : ℕ). b + 256 * rest < x) (sym power) (omega (arith, byte, low)))

one_more : (n b rest : ℕ) → b < 256 → rest < 2 ^ (8 * n) → b + 256 * rest < 2 ^ (8 * suc n)
one_more n b rest byte low =
    let e : n ≡ suc n - 1 = omega arith in
    digit (suc n) b rest (omega arith) byte (subst (λ (i : ℕ). rest < 2 ^ (8 * i)) e low)

both_below : (n : ℕ) (o r : Option ℕ) → IfSome o (λ b. b < 256) → IfSome r (λ x. x < 2 ^ (8 * n))
    → IfSome (option_and_then (λ b. option_and_then (λ rest. Some (b + 256 * rest)) r) o) (λ x. x < 2 ^ (8 * suc n))
both_below n None r byte low = tt
both_below n (Some b) None byte low = tt
both_below n (Some b) (Some rest) byte low = one_more n b rest byte low

byte_below : (m : Memory) (at : ℕ) (o : Option ℕ) → IsMemory m → get m at ≡ o → IfSome o (λ b. b < 256)
byte_below m at None h is = tt
byte_below m at (Some b) h is = let e = h.bytes at b is in omega (arith, e)

-- a number in memory fits in its bytes
pub number_below : (m : Memory) (at n : ℕ) → IsMemory m → IfSome (number_at m at n) (λ x. x < 2 ^ (8 * n))
number_below m at zero h = omega arith
number_below m at (suc n) h = both_below n (get m at) (number_at m (at + 1) n) (byte_below m at (get m at) h refl) (number_below m (at + 1) n h)
