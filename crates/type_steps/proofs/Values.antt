-- Values of 128 bits.
use Rattle.std.proofs.Common.{◌≡◌, ◌<◌, ◌≤◌, ◌^◌, ◌*◌, ℕ, Bool, true, false, refl, arith, nat_lt}

-- a word of 128 bits is below 2^128
pub all_of : (v : ℕ) → v < 2 ^ 128 → nat_lt v (2 ^ 128) ≡ true
all_of v h = grind (arith, h)
