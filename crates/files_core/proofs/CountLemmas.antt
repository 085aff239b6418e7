-- What `Rose` says of counts that stop at the end of u64.
use Rattle.std.proofs.Common.{◌≡◌, ℕ, ◌-◌, ◌^◌, ◌<◌, ◌≤◌, ◌⊎◌, inl, inr, arith}
use Rattle.std.proofs.lemmas.Bool.{cases_lt}
use Rattle.files_core.specs.Counts.{IsCount, Rose}

rose_at : (before now : ℕ) → IsCount now → Rose before now → (before < now) ⊎ (now ≤ before) → (before < now) ⊎ (now ≡ 2 ^ 64 - 1)
rose_at before now most rose (inl more) = inl more
rose_at before now most rose (inr less) = inr (omega (arith, most, rose, less))

pub rose_says : (before now : ℕ) → IsCount now → Rose before now → (before < now) ⊎ (now ≡ 2 ^ 64 - 1)
rose_says before now most rose = rose_at before now most rose (cases_lt before now)

pub rose_if : (before now : ℕ) → (before < now) ⊎ (now ≡ 2 ^ 64 - 1) → Rose before now
rose_if before now (inl more) = omega (arith, more)
rose_if before now (inr at_end) = omega (arith, at_end)
