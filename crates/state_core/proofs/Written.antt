-- What a write of several bytes leaves.
use Rattle.std.proofs.Common.{◌≡◌, ◌≢◌, ℕ, zero, suc, ◌+◌, ◌*◌, ◌/◌, ◌%◌, ◌^◌, ◌<◌, ◌≤◌, ◌⊎◌, inl, inr, Bool, true, false, refl, sym, ap, ◌∙◌, cond, Some, None, subst, arith, eqb-true, eq-eqb}
use Rattle.std.specs.declared.option.Option.{Option}
use Rattle.std.specs.Prelude.{nat_le, ◌==◌, IsSome, is_some, if◌then◌else◌, option_and_then}
use Rattle.std.specs.Ordering.{nat_cmp}
use Rattle.std.specs.Cmp.{unsigned_tied}
use Rattle.std.proofs.lemmas.Cmp.{nat_cmp_total}
use Rattle.std.proofs.lemmas.Bool.{ne_eqb, leb-true, leb-false}
use Rattle.std.proofs.lemmas.Nat.{pow-add}
use Rattle.std.proofs.lemmas.Option.{same_Some}
use Rattle.std.specs.FinMap.{get, insert, empty, get-insert, get-empty}
use Rattle.state_core.specs.State.{Memory, IsMemory}
use Rattle.state_core.specs.Memory.{number_at, with_number, written}
use Rattle.state_core.specs.Laws.{IsWrite}
use Rattle.state_core.proofs.Present.{first_there, kept}

-- ---- one byte

got : (m : Memory) (k v q : ℕ) → get (insert m k v) q ≡ cond (q == k) (Some v) (get m q)
got m k v q = get-insert nat_cmp_total m k v q ∙ ap (λ b. cond b (Some v) (get m q)) (unsigned_tied q k)

put_there : (m : Memory) (k v : ℕ) → get (insert m k v) k ≡ Some v
put_there m k v = got m k v k ∙ ap (λ b. cond b (Some v) (get m k)) (eq-eqb k k refl)

put_elsewhere : (m : Memory) (k v q : ℕ) → q ≢ k → get (insert m k v) q ≡ get m q
put_elsewhere m k v q other = got m k v q ∙ ap (λ b. cond b (Some v) (get m q)) (ne_eqb q k other)

place_by : (m : Memory) (k v q : ℕ) (b : Bool) → (q == k) ≡ b → IsSome (get m k) → is_some (cond b (Some v) (get m q)) ≡ is_some (get m q)
place_by m k v q true e there = sym (ap (λ x. is_some (get m x)) (eqb-true q k e) ∙ there)
place_by m k v q false e there = refl

put_place : (m : Memory) (k v q : ℕ) → IsSome (get m k) → is_some (get (insert m k v) q) ≡ is_some (get m q)
put_place m k v q there = ap is_some (got m k v q) ∙ place_by m k v q (q == k) refl there

-- ---- bytes at addresses

pub empty_memory : IsMemory empty
empty_memory = record { addresses = λ a b e. none (sym (get-empty nat_cmp a) ∙ e); bytes = λ a b e. none (sym (get-empty nat_cmp a) ∙ e) }
  where
    none : {X : Type 0} {b : ℕ} → None ≡ Some b → X
    none e = absurd (let h : false ≡ true = ap is_some e in cc)

module _ (m : Memory) (k v : ℕ) (whole : IsMemory m) (low : k < 2 ^ 64) (byte : v < 2 ^ 8) where
  address_by : (a b : ℕ) (c : Bool) → (a == k) ≡ c → cond c (Some v) (get m a) ≡ Some b → a < 2 ^ 64
  address_by a b true is e = subst (λ (x : ℕ). x < 2 ^ 64) (sym (eqb-true a k is)) low
  address_by a b false is e = whole.addresses a b e

  byte_by : (a b : ℕ) (c : Bool) → cond c (Some v) (get m a) ≡ Some b → b < 2 ^ 8
  byte_by a b true e = subst (λ (x : ℕ). x < 2 ^ 8) (same_Some v b e) byte
  byte_by a b false e = whole.bytes a b e

  pub insert_memory : IsMemory (insert m k v)
  insert_memory = record {
    addresses = λ a b e. address_by a b (a == k) refl (sym (got m k v a) ∙ e);
    bytes = λ a b e. byte_by a b (a == k) (sym (got m k v a) ∙ e);
  }

pub number_memory : (m : Memory) (at n value : ℕ) → IsMemory m → at + n ≤ 2 ^ 64 → IsMemory (with_number m at n value)
number_memory m at zero value whole room = whole
number_memory m at (suc n) value whole room =
    number_memory (insert m at (value % 256)) (at + 1) n (value / 256) (insert_memory m at (value % 256) whole (omega (arith, room)) (omega arith)) (omega (arith, room))

-- ---- several bytes

pub elsewhere : (m : Memory) (at n value a : ℕ) → (a < at) ⊎ (at + n ≤ a) → get (with_number m at n value) a ≡ get m a
elsewhere m at zero value a out = refl
elsewhere m at (suc n) value a (inl below) =
    elsewhere (insert m at (value % 256)) (at + 1) n (value / 256) a (inl (omega (arith, below)))
    ∙ put_elsewhere m at (value % 256) a (λ e. absurd (omega (arith, e, below)))
elsewhere m at (suc n) value a (inr behind) =
    elsewhere (insert m at (value % 256)) (at + 1) n (value / 256) a (inr (omega (arith, behind)))
    ∙ put_elsewhere m at (value % 256) a (λ e. absurd (omega (arith, e, behind)))

rest_below : (n value : ℕ) → value < 2 ^ (8 * suc n) → value / 256 < 2 ^ (8 * n)
rest_below n value low =
    let split : 8 * suc n ≡ 8 + 8 * n = omega arith in
    let power : 2 ^ (8 + 8 * n) ≡ 256 * 2 ^ (8 * n) = pow-add 2 8 (8 * n) in
    let e : value < 256 * 2 ^ (8 * n) = subst (λ (x : ℕ). value < x) power (subst (λ (i : ℕ). value < 2 ^ i) split low) in omega (arith, e)

pub back : (m : Memory) (at n value : ℕ) → value < 2 ^ (8 * n) → number_at (with_number m at n value) at n ≡ Some value
back m at zero value low = ap Some (let e : 0 ≡ value = omega (arith, low) in e)
back m at (suc n) value low =
    let m1 = insert m at (value % 256) in
    let first : get (with_number m1 (at + 1) n (value / 256)) at ≡ Some (value % 256) = elsewhere m1 (at + 1) n (value / 256) at (inl (omega arith)) ∙ put_there m at (value % 256) in
    let rest = back m1 (at + 1) n (value / 256) (rest_below n value low) in
    ap (option_and_then (λ b. option_and_then (λ r. Some (b + 256 * r)) (number_at (with_number m1 (at + 1) n (value / 256)) (at + 1) n))) first
    ∙ ap (option_and_then (λ r. Some (value % 256 + 256 * r))) rest
    ∙ ap Some (let e : value % 256 + 256 * (value / 256) ≡ value = omega arith in e)

tail_there : (o r : Option ℕ) → IsSome (option_and_then (λ b. option_and_then (λ rest. Some (b + 256 * rest)) r) o) → IsSome r
tail_there (Some b) (Some n) h = refl
tail_there (Some b) None h = cc
tail_there None r h = cc

pub places_stay : (m : Memory) (at n value a : ℕ) → IsSome (number_at m at n) → is_some (get (with_number m at n value) a) ≡ is_some (get m a)
places_stay m at zero value a there = refl
places_stay m at (suc n) value a there =
    places_stay (insert m at (value % 256)) (at + 1) n (value / 256) a
    (kept m at (value % 256) (at + 1) n (tail_there (get m at) (number_at m (at + 1) n) there))
    ∙ put_place m at (value % 256) a (first_there m at (suc n) (omega arith) there)

-- ---- a write

pub record There (m : Memory) (at n value : ℕ) (after : Memory) : Type 0 where
  pub room : at + n ≤ 2 ^ 64
  pub there : IsSome (number_at m at n)
  pub is : with_number m at n value ≡ after

there_by : (m : Memory) (at n value : ℕ) (after : Memory) (b : Bool) (o : Option ℕ) → nat_le (at + n) (2 ^ 64) ≡ b → number_at m at n ≡ o
    → (if is_some (if b then o else None) then Some (with_number m at n value) else None) ≡ Some after → There m at n value after
there_by m at n value after true (Some x) room number e =
    record { room = leb-true (at + n) (2 ^ 64) room; there = ap is_some number; is = same_Some (with_number m at n value) after e }
there_by m at n value after true None room number e = absurd (let h : false ≡ true = ap is_some e in cc)
there_by m at n value after false o room number e = absurd (let h : false ≡ true = ap is_some e in cc)

pub written_there : (m : Memory) (at n value : ℕ) (after : Memory) → written m at n value ≡ Some after → There m at n value after
written_there m at n value after e = there_by m at n value after (nat_le (at + n) (2 ^ 64)) (number_at m at n) refl refl e

read_by : (m : Memory) (at n : ℕ) (b : Bool) → nat_le (at + n) (2 ^ 64) ≡ b → at + n ≤ 2 ^ 64 → (if b then number_at m at n else None) ≡ number_at m at n
read_by m at n true e room = refl
read_by m at n false e room = absurd (let f = leb-false (at + n) (2 ^ 64) e in omega (arith, f, room))

pub write_is : (m after : Memory) (at n value : ℕ) → written m at n value ≡ Some after → IsWrite m at n value after
write_is m after at n value e =
    let h = written_there m at n value after e in
    record {
      reads_back = λ low. read_by after at n (nat_le (at + n) (2 ^ 64)) refl h.room ∙ subst (λ x. number_at x at n ≡ Some value) h.is (back m at n value low);
      others = λ a out. subst (λ x. get x a ≡ get m a) h.is (elsewhere m at n value a out);
      places = λ a. subst (λ x. is_some (get x a) ≡ is_some (get m a)) h.is (places_stay m at n value a h.there);
    }

pub write_memory : (m after : Memory) (at n value : ℕ) → IsMemory m → written m at n value ≡ Some after → IsMemory after
write_memory m after at n value whole e =
    let h = written_there m at n value after e in subst (λ x. IsMemory x) h.is (number_memory m at n value whole h.room)
