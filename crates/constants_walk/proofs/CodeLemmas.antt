-- The bytes of the code in a memory.
use Rattle.std.proofs.Common.{◌≡◌, ◌≤◌, ◌<◌, ◌^◌, ℕ, zero, suc, ◌+◌, ◌*◌, ◌-◌, Bool, true, false, List, [], ◌∷◌, ◌++◌, length, refl, sym, ap, ◌∙◌, subst, arith, Some, None}
use Rattle.std.specs.Prelude.{if◌then◌else◌, nat_le}
use Rattle.std.specs.Option.{option_map, option_and_then}
use Rattle.std.specs.declared.option.Option.{Option}
use Rattle.std.specs.FinMap.{get}
use Rattle.std.proofs.lemmas.Bool.{leb-true}
use Rattle.std.proofs.lemmas.Bool.Decides.{nat_tests}
use Rattle.std.proofs.lemmas.Option.{same_Some}
use Rattle.std.proofs.lemmas.List.{append-nil, append_assoc}
use Rattle.state_core.specs.State.{Memory}
use Rattle.state_core.specs.Claims.{HasBytes}
use Rattle.state_core.specs.Memory.{read_number, number_at}
use Rattle.constants_walk.specs.Conditions.{bytes_in, code_in}
use Rattle.read_rules.proofs.SmallLemmas.{bind_some, mapped}

-- ---- one byte

one_byte : (o : Option ℕ) → option_and_then (λ b. option_and_then (λ rest. Some (b + 256 * rest)) (Some 0)) o ≡ o
one_byte None = refl
one_byte (Some b) = ap (λ (n : ℕ). Some n) (omega arith)

-- a number of one byte is that byte
pub byte_read : (m : Memory) (at : ℕ) → at < 2 ^ 64 → read_number m at 1 ≡ get m at
byte_read m at below =
    let low : nat_le (at + 1) (2 ^ 64) ≡ true = grind (arith, nat_tests, below) in
    ap (λ b. if b then number_at m at 1 else None) low ∙ one_byte (get m at)

-- ---- what the bytes are

when_some : {A : Type 0} (b : Bool) (o : Option A) (x : A) → (if b then o else None) ≡ Some x → (b ≡ true) × (o ≡ Some x)
when_some true o x h = (refl, h)
when_some false o x h = absurd (cc)

length_in : (m : Memory) (at n : ℕ) (code : List ℕ) → bytes_in m at n ≡ Some code → length code ≡ n
length_in m at zero code e = sym (ap length (same_Some [] code e))
length_in m at (suc n) code e =
    let b = bind_some (get m at) _ code e in
    let rest = mapped (λ bytes. b.0 ∷ bytes) (bytes_in m (at + 1) n) code b.2 in
    sym (ap length rest.2) ∙ ap (λ k. suc k) (length_in m (at + 1) n rest.0 rest.1)

there_in : (m : Memory) (at n : ℕ) (code : List ℕ) → bytes_in m at n ≡ Some code → HasBytes m at code
there_in m at zero code e = subst (HasBytes m at) (same_Some [] code e) tt
there_in m at (suc n) code e =
    let b = bind_some (get m at) _ code e in
    let rest = mapped (λ bytes. b.0 ∷ bytes) (bytes_in m (at + 1) n) code b.2 in
    subst (HasBytes m at) rest.2 (b.1, there_in m (at + 1) n rest.0 rest.1)

-- a code that is there: it ends where it is to end, no byte passes the last address, and the memory has its bytes
pub record IsCode (m : Memory) (lo hi : ℕ) (code : List ℕ) : Type 0 where
  pub size : lo ≤ hi → lo + length code ≡ hi
  pub ends : hi ≤ 2 ^ 64
  pub there : HasBytes m lo code

pub is_code : (m : Memory) (lo hi : ℕ) (code : List ℕ) → code_in m lo hi ≡ Some code → IsCode m lo hi code
unfolding code_in
is_code m lo hi code e =
    let h = when_some (nat_le hi (2 ^ 64)) (bytes_in m lo (hi - lo)) code e in
    let size = length_in m lo (hi - lo) code h.1 in
    record { size = λ l. omega (arith, l, size); ends = leb-true hi (2 ^ 64) h.0; there = there_in m lo (hi - lo) code h.1 }

-- ---- the bytes one after the other

-- these bytes, and those that are left
abbrev pub with_rest : List ℕ → Option (List ℕ) → Option (List ℕ)
with_rest code o = option_map (λ rest. code ++ rest) o

pub begins : (o : Option (List ℕ)) → with_rest [] o ≡ o
begins None = refl
begins (Some rest) = refl

pub code_is : (m : Memory) (lo hi : ℕ) → hi < 2 ^ 64 → code_in m lo hi ≡ bytes_in m lo (hi - lo)
unfolding code_in
code_is m lo hi below =
    let low : nat_le hi (2 ^ 64) ≡ true = grind (arith, nat_tests, below) in
    ap (λ b. if b then bytes_in m lo (hi - lo) else None) low

pub ends : (m : Memory) (at hi : ℕ) (code : List ℕ) (whole : Option (List ℕ)) → hi ≤ at → with_rest code (bytes_in m at (hi - at)) ≡ whole → Some code ≡ whole
ends m at hi code whole l h =
    let e : hi - at ≡ 0 = omega (arith, l) in
    ap (λ (c : List ℕ). Some c) (sym (append-nil code)) ∙ ap (λ n. with_rest code (bytes_in m at n)) (sym e) ∙ h

one_more : (code : List ℕ) (b : ℕ) (o : Option (List ℕ)) → with_rest (code ++ b ∷ []) o ≡ with_rest code (option_map (λ bytes. b ∷ bytes) o)
one_more code b None = refl
one_more code b (Some rest) = ap (λ (c : List ℕ). Some c) (append_assoc code (b ∷ []) rest)

pub goes_on : (m : Memory) (at hi : ℕ) (code : List ℕ) (b : ℕ) (whole : Option (List ℕ)) → at < hi → Some b ≡ get m at
    → with_rest code (bytes_in m at (hi - at)) ≡ whole → with_rest (code ++ b ∷ []) (bytes_in m (at + 1) (hi - (at + 1))) ≡ whole
goes_on m at hi code b whole l is h =
    let e : hi - at ≡ suc (hi - (at + 1)) = omega (arith, l) in
    one_more code b (bytes_in m (at + 1) (hi - (at + 1)))
    ∙ ap (λ (o : Option ℕ). with_rest code (option_and_then (λ b. option_map (λ bytes. b ∷ bytes) (bytes_in m (at + 1) (hi - (at + 1)))) o)) is
    ∙ ap (λ n. with_rest code (bytes_in m at n)) (sym e) ∙ h

pub stops : (m : Memory) (at hi : ℕ) (code : List ℕ) (whole : Option (List ℕ)) → at < hi → None ≡ get m at
    → with_rest code (bytes_in m at (hi - at)) ≡ whole → None ≡ whole
stops m at hi code whole l is h =
    let e : hi - at ≡ suc (hi - (at + 1)) = omega (arith, l) in
    ap (λ (o : Option ℕ). with_rest code (option_and_then (λ b. option_map (λ bytes. b ∷ bytes) (bytes_in m (at + 1) (hi - (at + 1)))) o)) is
    ∙ ap (λ n. with_rest code (bytes_in m at n)) (sym e) ∙ h
