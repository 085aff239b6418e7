-- Literals of clauses by their index.
use Rattle.std.proofs.Common.{◌≡◌, ℕ, zero, suc, ◌+◌, ◌-◌, ◌<◌, ◌≤◌, ◌≢◌, cond, min, eqb, ℤ, pos, negsuc, List, [], ◌∷◌, ◌++◌, length, take, drop, map, Option, Some, None, refl, ap, sym, ◌∙◌, subst, arith}
use Rattle.std.specs.Prelude.{slice_get, option_map, option_and_then}
use Rattle.std.specs.List.{range_with_len}
use Rattle.std.proofs.lemmas.List.{length-append, length-drop, length-take}
use Rattle.std.proofs.lemmas.List.FromFn.{length-map-range_with_len}
use Rattle.std.proofs.lemmas.Option.{slice_get_past}
use Rattle.clause_core.specs.declared.Lit.{Lit}
use Rattle.clause_core.proofs.ListLemmas.{slice_get_take, slice_get_front}
use Rattle.axiom_rules.specs.Parts.{bit_of, row_clause, any_clause, last_first}

-- ---- the output first

slice_get_drop : (xs : List Lit) (n k : ℕ) → slice_get (drop n xs) k ≡ slice_get xs (n + k)
slice_get_drop [] zero k = refl
slice_get_drop [] (suc n) k = refl
slice_get_drop (x ∷ xs) zero k = let same : k ≡ 0 + k = omega arith in ap (slice_get (x ∷ xs)) same
slice_get_drop (x ∷ xs) (suc n) k =
    let same : suc (n + k) ≡ suc n + k = omega arith in
    slice_get_drop xs n k ∙ ap (slice_get (x ∷ xs)) same

slice_get_behind : (xs ys : List Lit) (k : ℕ) → slice_get (xs ++ ys) (length xs + k) ≡ slice_get ys k
slice_get_behind [] ys k = let same : 0 + k ≡ k = omega arith in ap (slice_get ys) same
slice_get_behind (x ∷ xs) ys k =
    let same : suc (length xs) + k ≡ suc (length xs + k) = omega arith in
    ap (slice_get (x ∷ xs ++ ys)) same ∙ slice_get_behind xs ys k

pub last_first_length : (c : List Lit) → length (last_first c) ≡ length c
last_first_length c =
    let m = length c - 1 in
    omega (arith, length-append (drop m c) (take m c), length-drop m c, length-take m c)

first_at : (c : List Lit) → 0 < length c → slice_get (last_first c) 0 ≡ slice_get c (length c - 1)
first_at c h =
    let m = length c - 1 in
    let some : 0 < length (drop m c) = omega (arith, length-drop m c) in
    let same : m + 0 ≡ m = omega arith in
    slice_get_front (drop m c) (take m c) 0 some ∙ slice_get_drop c m 0 ∙ ap (slice_get c) same

rest_at : (c : List Lit) (k : ℕ) → k + 1 < length c → slice_get (last_first c) (k + 1) ≡ slice_get c k
rest_at c k h =
    let m = length c - 1 in
    let place : k + 1 ≡ length (drop m c) + k = omega (arith, length-drop m c) in
    let less : k < m = omega arith in
    ap (slice_get (last_first c)) place ∙ slice_get_behind (drop m c) (take m c) k ∙ slice_get_take c m k less

-- a row's clause, by how long it is
module _ (o : Option (List Lit)) (n : ℕ) (long : Some n ≡ option_map length o) where
  pub output_at : 0 < n → option_and_then (λ c. slice_get c (n - 1)) o ≡ option_and_then (λ c. slice_get c 0) (option_map last_first o)
  output_at h = by o long
    where
      by : (o : Option (List Lit)) → Some n ≡ option_map length o → option_and_then (λ c. slice_get c (n - 1)) o ≡ option_and_then (λ c. slice_get c 0) (option_map last_first o)
      by None e = cc
      by (Some c) e =
          let same : n ≡ length c = cc in
          let some : 0 < length c = omega arith in
          ap (λ (k : ℕ). slice_get c (k - 1)) same ∙ sym (first_at c some)

  pub others_at : (index : ℕ) → index < n → index ≢ 0 → option_and_then (λ c. slice_get c (index - 1)) o ≡ option_and_then (λ c. slice_get c index) (option_map last_first o)
  others_at index h ne = by o long
    where
      by : (o : Option (List Lit)) → Some n ≡ option_map length o → option_and_then (λ c. slice_get c (index - 1)) o ≡ option_and_then (λ c. slice_get c index) (option_map last_first o)
      by None e = cc
      by (Some c) e =
          let same : n ≡ length c = cc in
          let below : index - 1 + 1 < length c = omega arith in
          let place : index - 1 + 1 ≡ index = omega arith in
          sym (rest_at c (index - 1) below) ∙ ap (slice_get (last_first c)) place

  pub past_at : (index : ℕ) → n ≤ index → None ≡ option_and_then (λ c. slice_get c index) (option_map last_first o)
  past_at index h = by o long
    where
      by : (o : Option (List Lit)) → Some n ≡ option_map length o → None ≡ option_and_then (λ c. slice_get c index) (option_map last_first o)
      by None e = refl
      by (Some c) e =
          let same : n ≡ length c = cc in
          sym (slice_get_past (last_first c) index (omega (arith, last_first_length c)))

pub no_row : (o : Option (List Lit)) (index : ℕ) → None ≡ option_map length o → None ≡ option_and_then (λ c. slice_get c index) (option_map last_first o)
no_row None index e = refl
no_row (Some c) index e = cc

pub same_lengths : (o : Option (List Lit)) → option_map length o ≡ option_map length (option_map last_first o)
same_lengths None = refl
same_lengths (Some c) = ap Some (sym (last_first_length c))

-- ---- the bits of a layer

range_at : (f : ℕ → Lit) (w a k : ℕ) → k < w → slice_get (map f (range_with_len a w)) k ≡ Some (f (a + k))
range_at f zero a k h = absurd (omega arith)
range_at f (suc w) a zero h = let same : a ≡ a + 0 = omega arith in ap (λ n. Some (f n)) same
range_at f (suc w) a (suc k) h =
    let less : k < w = omega arith in
    let same : a + 1 + k ≡ a + suc k = omega arith in
    range_at f w (a + 1) k less ∙ ap (λ n. Some (f n)) same

range_past : (f : ℕ → Lit) (w a k : ℕ) → w ≤ k → slice_get (map f (range_with_len a w)) k ≡ None
range_past f zero a k h = refl
range_past f (suc w) a zero h = absurd (omega arith)
range_past f (suc w) a (suc k) h = let more : w ≤ k = omega arith in range_past f w (a + 1) k more

pub any_at : (o : Lit) (t w n : ℕ) (p : Lit) → (n ≡ 0 → ⊥) → n ≤ w → p ≡ bit_of t 1 (n - 1) → Some p ≡ slice_get (any_clause o t w) n
any_at o t w zero p ne h e = absurd (ne refl)
any_at o t w (suc k) p ne h e =
    let less : k < w = omega arith in
    let same : suc k - 1 ≡ 0 + k = omega arith in
    ap Some e ∙ ap (λ m. Some (bit_of t 1 m)) same ∙ sym (range_at (bit_of t 1) w 0 k less)

pub any_past : (o : Lit) (t w n : ℕ) → w < n → None ≡ slice_get (any_clause o t w) n
any_past o t w zero h = absurd (omega arith)
any_past o t w (suc k) h = let more : w ≤ k = omega arith in sym (range_past (bit_of t 1) w 0 k more)

pub any_length : (o : Lit) (t w : ℕ) → w + 1 ≡ length (any_clause o t w)
any_length o t w = omega (arith, length-map-range_with_len (bit_of t 1) 0 w)

-- ---- rows

pub row_small : (row : List ℤ) (places : List Lit) → length (row_clause row places) ≤ length places
row_small [] places = omega arith
row_small (s ∷ row) [] = omega arith
row_small (pos zero ∷ row) (p ∷ places) = omega (arith, row_small row places)
row_small (pos (suc n) ∷ row) (p ∷ places) = omega (arith, row_small row places)
row_small (negsuc n ∷ row) (p ∷ places) = omega (arith, row_small row places)
