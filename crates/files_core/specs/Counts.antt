-- Counts that never fall and stop at the end of u64.
use Rattle.std.specs.Prelude.{ℕ, ◌+◌, ◌-◌, ◌^◌, ◌≤◌, min}

-- the count after one more
abbrev pub next : ℕ → ℕ
next count = min (count + 1) (2 ^ 64 - 1)

-- a count is at most the end of u64
abbrev pub IsCount : ℕ → Type 0
IsCount count = count ≤ 2 ^ 64 - 1

-- the count rose, or stands at its end
abbrev pub Rose : ℕ → ℕ → Type 0
Rose before now = next before ≤ now
