-- The parts of a specification over constants.
use Rattle.std.proofs.Common.{◌≡◌, ◌≢◌, ℕ, zero, suc, ◌+◌, ◌-◌, ◌<◌, ◌≤◌, List, [], ◌∷◌, ◌++◌, length, refl, sym, ap, ◌∙◌, subst, arith, All, Contains, map}
use Rattle.std.specs.Prelude.{slice_index_or, AllPairs}
use Rattle.std.proofs.lemmas.List.Elements.{All-head, All-tail, All-cons, All-nil}
use Rattle.bv_bits.specs.declared.Bits.{Bits}
use Rattle.state_core.specs.Claims.{Part, byte, register, device, bytes_from, all_parts, IsDisjoint}
use Rattle.machine_safe.specs.First.{values_are}
use Rattle.std.proofs.lemmas.List.Kept.{AllPairs-cons}

-- the registers of values, as parts
abbrev pub registers_in : List (ℕ × Bits) → List Part
registers_in [] = []
registers_in (v ∷ vs) = register v.0 ∷ registers_in vs

pub parts_are : (vs : List (ℕ × Bits)) → all_parts (values_are vs) ≡ registers_in vs
parts_are [] = refl
parts_are (v ∷ vs) = ap (λ ps. register v.0 ∷ ps) (parts_are vs)

-- a byte among bytes
pub byte_at : (n lo i : ℕ) → i < n → slice_index_or (bytes_from lo n) i (byte (lo + i)) ≡ byte (lo + i)
byte_at zero lo i below = absurd (omega (arith, below))
byte_at (suc n) lo zero below = ap byte (let e : lo ≡ lo + 0 = omega arith in e)
byte_at (suc n) lo (suc i) below =
    let e : lo + suc i ≡ (lo + 1) + i = omega arith in
    subst (λ k. slice_index_or (bytes_from (lo + 1) n) i (byte k) ≡ byte k) (sym e) (byte_at n (lo + 1) i (omega (arith, below)))

pub length-bytes : (n lo : ℕ) → length (bytes_from lo n) ≡ n
length-bytes zero lo = refl
length-bytes (suc n) lo = ap suc (length-bytes n (lo + 1))

pub byte_in : (n lo a : ℕ) → lo ≤ a → a < lo + n → Contains (bytes_from lo n) (byte a)
byte_in n lo a low below =
    let e : lo + (a - lo) ≡ a = omega (arith, low) in (
      a - lo,
      (let l = length-bytes n lo in omega (arith, l, low, below)),
      subst (λ k. slice_index_or (bytes_from lo n) (a - lo) (byte k) ≡ byte k) e (byte_at n lo (a - lo) (omega (arith, low, below))),
    )

pub bytes_in : (n lo a k : ℕ) → lo ≤ a → a + k ≤ lo + n → All (Contains (bytes_from lo n)) (bytes_from a k)
bytes_in n lo a zero low below = All-nil (Contains (bytes_from lo n))
bytes_in n lo a (suc k) low below =
    All-cons (Contains (bytes_from lo n)) (byte a) (bytes_from (a + 1) k) (byte_in n lo a low (omega (arith, below)))
    (bytes_in n lo (a + 1) k (omega (arith, low)) (omega (arith, below)))

-- a register among registers
pub register_among : (vs : List (ℕ × Bits)) (r i : ℕ) → i < length (map (λ v. v.0) vs) → slice_index_or (map (λ v. v.0) vs) i r ≡ r
    → (i < length (registers_in vs)) × (slice_index_or (registers_in vs) i (register r) ≡ register r)
register_among [] r i below is = absurd (omega (arith, below))
register_among (v ∷ vs) r zero below is = ((omega arith), ap register is)
register_among (v ∷ vs) r (suc i) below is =
    let h = register_among vs r i (omega (arith, below)) is in ((let f = h.0 in omega (arith, f)), h.1)

pub register_contained : (vs : List (ℕ × Bits)) (r : ℕ) → Contains (map (λ v. v.0) vs) r → Contains (registers_in vs) (register r)
register_contained vs r h = let g = register_among vs r h.0 h.1 h.2 in (h.0, g.0, g.1)

-- ---- parts that differ

abbrev is_byte : Part → ℕ
is_byte (byte a) = 0
is_byte (register r) = 1
is_byte (device d) = 2

abbrev number : Part → ℕ
number (byte a) = a
number (register r) = r
number (device d) = d

differ_by : (x y : Part) (f : Part → ℕ) → f x ≢ f y → x ≢ y
differ_by x y f h e = h (ap f e)

-- pairs of a list with one more in front
pub pairs_head : {X : Type 0} (R : X → X → Type 0) (x : X) (xs : List X) → AllPairs R (x ∷ xs) → All (λ y. R x y) xs
pairs_head R x xs h k d below = h 0 (suc k) d (omega arith) (omega (arith, below))

pub pairs_tail : {X : Type 0} (R : X → X → Type 0) (x : X) (xs : List X) → AllPairs R (x ∷ xs) → AllPairs R xs
pairs_tail R x xs h i j d less below = h (suc i) (suc j) d (omega (arith, less)) (omega (arith, below))

-- registers that differ by their numbers
register_fresh : (r : ℕ) (vs : List (ℕ × Bits)) → All (λ n. r ≢ n) (map (λ v. v.0) vs) → All (λ y. register r ≢ y) (registers_in vs)
register_fresh r [] h = All-nil (λ y. register r ≢ y)
register_fresh r (v ∷ vs) h =
    All-cons (λ y. register r ≢ y) (register v.0) (registers_in vs)
    (differ_by (register r) (register v.0) number (All-head (λ n. r ≢ n) v.0 (map (λ v. v.0) vs) h))
    (register_fresh r vs (All-tail (λ n. r ≢ n) v.0 (map (λ v. v.0) vs) h))

pub registers_differ : (vs : List (ℕ × Bits)) → AllPairs ◌≢◌ (map (λ v. v.0) vs) → IsDisjoint (registers_in vs)
registers_differ [] h = λ i j d less below. absurd (omega arith)
registers_differ (v ∷ vs) h =
    AllPairs-cons ◌≢◌ (register v.0) (registers_in vs) (register_fresh v.0 vs (pairs_head ◌≢◌ v.0 (map (λ v. v.0) vs) h))
    (registers_differ vs (pairs_tail ◌≢◌ v.0 (map (λ v. v.0) vs) h))

-- a byte below other bytes, and a byte before registers
byte_fresh : (n lo a : ℕ) → a < lo → (vs : List (ℕ × Bits)) → All (λ y. byte a ≢ y) (bytes_from lo n ++ registers_in vs)
byte_fresh zero lo a less [] = All-nil (λ y. byte a ≢ y)
byte_fresh zero lo a less (v ∷ vs) =
    All-cons (λ y. byte a ≢ y) (register v.0) (registers_in vs) (differ_by (byte a) (register v.0) is_byte (λ e. absurd (omega (arith, e))))
    (byte_fresh zero lo a less vs)
byte_fresh (suc n) lo a less vs =
    All-cons (λ y. byte a ≢ y) (byte lo) (bytes_from (lo + 1) n ++ registers_in vs) (differ_by (byte a) (byte lo) number (λ e. absurd (omega (arith, e, less))))
    (byte_fresh n (lo + 1) a (omega (arith, less)) vs)

pub parts_differ : (n lo : ℕ) (vs : List (ℕ × Bits)) → AllPairs ◌≢◌ (map (λ v. v.0) vs) → IsDisjoint (bytes_from lo n ++ registers_in vs)
parts_differ zero lo vs h = registers_differ vs h
parts_differ (suc n) lo vs h =
    AllPairs-cons ◌≢◌ (byte lo) (bytes_from (lo + 1) n ++ registers_in vs) (byte_fresh n (lo + 1) lo (omega arith) vs) (parts_differ n (lo + 1) vs h)

-- ---- registers are no bytes

byte_alone : (n lo i : ℕ) (d : Part) → i < length (bytes_from lo n ++ []) → is_byte (slice_index_or (bytes_from lo n ++ []) i d) ≡ 0
byte_alone zero lo i d below = absurd (omega (arith, below))
byte_alone (suc n) lo zero d below = refl
byte_alone (suc n) lo (suc i) d below = byte_alone n (lo + 1) i d (omega (arith, below))

register_free : (n lo r : ℕ) → Contains (bytes_from lo n ++ []) (register r) → ⊥
register_free n lo r h =
    let e : 0 ≡ 1 = sym (byte_alone n lo h.0 (register r) h.1) ∙ ap is_byte h.2 in absurd (omega (arith, e))

pub registers_free : (n lo : ℕ) (vs : List (ℕ × Bits)) → All (λ p. Contains (bytes_from lo n ++ []) p → ⊥) (registers_in vs)
registers_free n lo [] = All-nil (λ p. Contains (bytes_from lo n ++ []) p → ⊥)
registers_free n lo (v ∷ vs) =
    All-cons (λ p. Contains (bytes_from lo n ++ []) p → ⊥) (register v.0) (registers_in vs) (register_free n lo v.0) (registers_free n lo vs)
