-- Bytes that are there stay there.
use Rattle.std.proofs.Common.{◌≡◌, ℕ, zero, suc, ◌+◌, ◌-◌, ◌*◌, ◌<◌, Bool, true, false, refl, sym, cond, Some, None, subst, arith}
use Rattle.std.specs.declared.option.Option.{Option}
use Rattle.std.specs.Prelude.{IsSome, option_and_then}
use Rattle.std.specs.Ordering.{nat_cmp, eq_by_cmp}
use Rattle.std.proofs.lemmas.Cmp.{nat_cmp_total}
use Rattle.std.specs.FinMap.{get, insert, get-insert}
use Rattle.state_core.specs.State.{Memory}
use Rattle.state_core.specs.Memory.{number_at}

-- a byte and the bytes after it
record Both (o r : Option ℕ) : Type 0 where
  pub first : IsSome o
  pub rest : IsSome r

split : (o r : Option ℕ) → IsSome (option_and_then (λ b. option_and_then (λ rest. Some (b + 256 * rest)) r) o) → Both o r
split (Some b) (Some n) h = record { first = refl; rest = refl }
split (Some b) None h = cc
split None r h = cc

join : (o r : Option ℕ) → IsSome o → IsSome r → IsSome (option_and_then (λ b. option_and_then (λ rest. Some (b + 256 * rest)) r) o)
join (Some b) (Some n) g h = refl
join (Some b) None g h = cc
join None r g h = cc

either : (c : Bool) (v : ℕ) (o : Option ℕ) → IsSome o → IsSome (cond c (Some v) o)
either true v o h = refl
either false v o h = h

-- another byte is written
pub kept : (m : Memory) (k v at n : ℕ) → IsSome (number_at m at n) → IsSome (number_at (insert m k v) at n)
kept m k v at zero h = refl
kept m k v at (suc n) h =
    let both = split (get m at) (number_at m (at + 1) n) h in
    join (get (insert m k v) at) (number_at (insert m k v) (at + 1) n)
    (subst (λ o. IsSome o) (sym (get-insert nat_cmp_total m k v at)) (either (eq_by_cmp nat_cmp at k) v (get m at) both.first))
    (kept m k v (at + 1) n both.rest)

-- the first byte is there
pub first_there : (m : Memory) (at n : ℕ) → 0 < n → IsSome (number_at m at n) → IsSome (get m at)
first_there m at zero some h = absurd (omega (arith, some))
first_there m at (suc n) some h = (split (get m at) (number_at m (at + 1) n) h).first

-- and so are the others, after the first one is overwritten
pub rest_there : (m : Memory) (k v at n : ℕ) → 0 < n → IsSome (number_at m at n) → IsSome (number_at (insert m k v) (at + 1) (n - 1))
rest_there m k v at zero some h = absurd (omega (arith, some))
rest_there m k v at (suc n) some h =
    let e : suc n - 1 ≡ n = omega arith in
    subst (λ (i : ℕ). IsSome (number_at (insert m k v) (at + 1) i)) (sym e) (kept m k v (at + 1) n (split (get m at) (number_at m (at + 1) n) h).rest)
