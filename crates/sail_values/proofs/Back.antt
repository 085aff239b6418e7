-- A search from the newest slot back.
use Rattle.std.proofs.Common.{◌≡◌, ℕ, ◌+◌, ◌-◌, ◌<◌, List, [], ◌∷◌, ◌++◌, length, get_or, take, drop, reverse, sym, ap, ◌∙◌, arith, length-drop, append_assoc}
use Rattle.std.proofs.lemmas.List.{take_more, drop_more, reverse-append, length-reverse, take-append-drop}
use Rattle.std.proofs.Math.Seq.{drop-append_seam, set-append_seam}
use Rattle.std.proofs.Math.ListN.{set}
use Rattle.std.proofs.lemmas.List.{length-take}

-- one more of the oldest
pub back : {X : Type 0} (xs : List X) (i : ℕ) (d : X) → i < length xs → reverse (take (i + 1) xs) ≡ get_or xs i d ∷ reverse (take i xs)
back xs i d h = ap reverse (take_more xs i d h) ∙ reverse-append (take i xs) (get_or xs i d ∷ [])

pub front : {X : Type 0} (xs : List X) (i : ℕ) (d : X) → i < length xs → reverse (drop i xs) ≡ reverse (drop (i + 1) xs) ++ get_or xs i d ∷ []
front xs i d h = ap reverse (drop_more xs i d h) ∙ reverse-append (get_or xs i d ∷ []) (drop (i + 1) xs)

pub kept : {X : Type 0} (xs : List X) (n : ℕ) → reverse (take n xs) ≡ drop (length (reverse xs) - n) (reverse xs)
kept xs n =
    let e : reverse xs ≡ reverse (drop n xs) ++ reverse (take n xs) = ap reverse (sym (take-append-drop n xs)) ∙ reverse-append (take n xs) (drop n xs) in
    let k : length (reverse xs) - n ≡ length (reverse (drop n xs)) = omega (arith, length-reverse xs, length-reverse (drop n xs), length-drop n xs) in
    sym (ap (λ m. drop m (reverse xs)) k ∙ ap (drop (length (reverse (drop n xs)))) e ∙ drop-append_seam (reverse (drop n xs)) (reverse (take n xs)))

pub set_back : {X : Type 0} (xs : List X) (i : ℕ) (d y : X) → i < length xs → reverse (set xs i y) ≡ reverse (drop (i + 1) xs) ++ (y ∷ reverse (take i xs))
set_back xs i d y h =
    let g = get_or xs i d in let rest = drop (i + 1) xs in
    let n : i ≡ length (take i xs) = omega (arith, length-take i xs) in
    let e = sym (take-append-drop i xs) ∙ ap (λ t. take i xs ++ t) (drop_more xs i d h) in
    let s = ap (λ s. set s i y) e ∙ ap (λ k. set (take i xs ++ g ∷ rest) k y) n ∙ set-append_seam (take i xs) g rest y in
    ap reverse s ∙ reverse-append (take i xs) (y ∷ rest) ∙ ap (λ t. t ++ reverse (take i xs)) (reverse-append (y ∷ []) rest) ∙ append_assoc (reverse rest) (y ∷ []) (reverse (take i xs))
