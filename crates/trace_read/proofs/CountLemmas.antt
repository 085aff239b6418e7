-- Numbers of bytes.
use Rattle.std.proofs.Common.{◌≡◌, ℕ, ◌≤◌, true, arith}
use Rattle.std.proofs.lemmas.Bool.Decides.{nat_tests}
use Rattle.trace_read.specs.Words.{is_byte_count}

pub few_bytes : (n : ℕ) → is_byte_count n ≡ true → n ≤ 16
few_bytes n h = grind (arith, nat_tests)
