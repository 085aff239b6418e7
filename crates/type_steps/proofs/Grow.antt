-- Locals on top of others.
use Rattle.std.proofs.Common.{◌≡◌, ℕ, suc, ◌+◌, ◌-◌, ◌≤◌, List, [], ◌∷◌, length, drop, refl, ap, sym, ◌∙◌, arith}
use Rattle.std.proofs.lemmas.List.{drop-drop}
use Rattle.type_rules.specs.declared.scope.Local.{Local}
use Rattle.type_steps.specs.Grown.{Grown}

pub grown_same : (l : List Local) → Grown l l
grown_same l = let e : length l - length l ≡ 0 = omega arith in record { more = omega arith; back = ap (λ n. drop n l) e }

pub grown_more : (l l' : List Local) (d : Local) → Grown l l' → Grown l (d ∷ l')
grown_more l l' d h =
    let m : length l ≤ length l' = h.more in
    let e : length (d ∷ l') - length l ≡ suc (length l' - length l) = omega arith in
    record { more = omega arith; back = ap (λ n. drop n (d ∷ l')) e ∙ h.back }

pub kept_back : (l l' : List Local) (n : ℕ) → n ≡ length l → Grown l l' → drop (length l' - n) l' ≡ l
kept_back l l' n e h = ap (λ k. drop (length l' - k) l') e ∙ h.back

pub kept_one : (l : List Local) (d : Local) (n : ℕ) → n ≡ length l → drop (length (d ∷ l) - n) (d ∷ l) ≡ l
kept_one l d n e = kept_back l (d ∷ l) n e (grown_more l l d (grown_same l))

pub grown_after : (a b c : List Local) → Grown a b → Grown b c → Grown a c
grown_after a b c g h =
    let m : length a ≤ length b = g.more in
    let n : length b ≤ length c = h.more in
    let e : length c - length a ≡ (length c - length b) + (length b - length a) = omega arith in
    record {
      more = omega arith;
      back = ap (λ k. drop k c) e ∙ sym (drop-drop (length b - length a) (length c - length b) c) ∙ ap (drop (length b - length a)) h.back ∙ g.back;
    }
