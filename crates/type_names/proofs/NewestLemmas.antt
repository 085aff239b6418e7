-- The newest locals of their names.
use Rattle.std.proofs.Common.{◌≡◌, ℕ, suc, ◌-◌, ◌<◌, Bool, true, false, List, [], ◌∷◌, ◌++◌, length, get_or, drop, reverse, Option, Some, None, refl, sym, ap, ◌∙◌, subst, true≢false, arith}
use Rattle.std.specs.Prelude.{map, bytes_eq, if◌then◌else◌, Result, Ok, Err, OnOk, OnErr, IsSome}
use Rattle.std.specs.Cmp.Lexicographic.{bytes_decides}
use Rattle.std.proofs.lemmas.List.{get_or_push, get_or_append_left, length-reverse, reverse-append}
use Rattle.sail_syntax.specs.Tree.{Text}
use Rattle.type_rules.specs.Names.{look}
use Rattle.type_rules.specs.declared.scope.Sort.{Sort}
use Rattle.type_rules.specs.declared.scope.Local.{Local}
use Rattle.type_names.specs.declared.locals.Kept.{Kept}
use Rattle.type_names.specs.Borrowed.{local_of, sort_of}
use Rattle.type_names.specs.Newest.{newest_place, AreChained}

-- what can only fail where a name isn't there
pub sure : {T E : Type 0} (r : Result T E) (P : Type 0) (o : Option ℕ) → IsSome o → OnErr r (o ≡ None) → OnOk r P → P
sure (Ok x) P o there h p = p
sure (Err e) P o there h p = absurd (true≢false (sym (subst IsSome h there)))

-- what contracts see of locals
abbrev pub seen : List Kept → List Local
seen l = map (λ k. local_of k.local) l

-- what the place of the newest of a name tells of what the name stands for
abbrev Tells : Option Sort → List Kept → Option ℕ → Type 0
Tells v l None = v ≡ None
Tells v l (Some i) = (i < length l) × ((d : Kept) → v ≡ Some (sort_of (get_or (reverse l) i d).local.sort))

one_newer : (k : Kept) (older : List Kept) (v : Option Sort) (o : Option ℕ) → Tells v older o → Tells v (k ∷ older) o
one_newer k older v None h = h
one_newer k older v (Some i) h =
    let b : i < length older = h.0 in
    let w : i < length (reverse older) = omega (arith, length-reverse older) in
    (omega arith, λ d. h.1 d ∙ ap (λ (n : Kept). Some (sort_of n.local.sort)) (sym (get_or_append_left (reverse older) (k ∷ []) d i w) ∙ ap (λ (l : List Kept). get_or l i d) (sym (reverse-append (k ∷ []) older))))

tells : (x : Text) (l : List Kept) → Tells (look x (seen l)) l (newest_place x l)
tells x [] = refl
tells x (k ∷ older) = step (bytes_eq k.local.name.now x) (tells x older)
  where
    step : (b : Bool) → Tells (look x (seen older)) older (newest_place x older)
        → Tells (if b then Some (sort_of k.local.sort) else look x (seen older)) (k ∷ older) (if b then Some (length older) else newest_place x older)
    step true h =
        let z : length older < length (k ∷ older) = omega arith in
        (z, λ d. ap (λ (n : Kept). Some (sort_of n.local.sort)) (sym (get_or_push (reverse older) k d (length older) (length-reverse older)) ∙ ap (λ (l : List Kept). get_or l (length older) d) (sym (reverse-append (k ∷ []) older))))
    step false h = one_newer k older (look x (seen older)) (newest_place x older) h

-- it is there, and stands there
pub found_within : (x : Text) (l : List Kept) (i : ℕ) → newest_place x l ≡ Some i → i < length l
found_within x l i h = (subst (Tells (look x (seen l)) l) h (tells x l)).0

pub found : (x : Text) (l : List Kept) (i : ℕ) (d : Kept) → newest_place x l ≡ Some i → look x (seen l) ≡ Some (sort_of (get_or (reverse l) i d).local.sort)
found x l i d h = (subst (Tells (look x (seen l)) l) h (tells x l)).1 d

pub not_found : (x : Text) (l : List Kept) → newest_place x l ≡ None → look x (seen l) ≡ None
not_found x l h = subst (Tells (look x (seen l)) l) h (tells x l)

-- the newest in front
pub newest_first : (all older : List Kept) (k : Kept) → all ≡ older ++ k ∷ [] → reverse all ≡ k ∷ reverse older
newest_first all older k h = ap reverse h ∙ reverse-append older (k ∷ [])

-- the newest is there
pub newest_there : (k : Kept) (older : List Kept) → IsSome (newest_place k.local.name.now (k ∷ older))
newest_there k older =
    let same : bytes_eq k.local.name.now k.local.name.now ≡ true = (bytes_decides k.local.name.now k.local.name.now).1 refl in
    subst (λ b. IsSome (if b then Some (length older) else newest_place k.local.name.now older)) (sym same) refl

-- the places without the newest
pub left : (f g : Text → Option ℕ) (k : Kept) (older : List Kept) → ((x : Text) → f x ≡ newest_place x (k ∷ older)) → AreChained (k ∷ older)
    → ((x : Text) → g x ≡ (if bytes_eq k.local.name.now x then k.hides else f x)) → (x : Text) → g x ≡ newest_place x older
left f g k older finds chained h x = h x ∙ ap (λ o. if bytes_eq k.local.name.now x then k.hides else o) (finds x) ∙ step (bytes_eq k.local.name.now x) refl
  where
    step : (b : Bool) → bytes_eq k.local.name.now x ≡ b → (if b then k.hides else (if b then Some (length older) else newest_place x older)) ≡ newest_place x older
    step true e = chained.0 ∙ ap (λ l. newest_place l older) ((bytes_decides k.local.name.now x).0 e)
    step false e = refl

-- one that is left
pub one_left : (depth : ℕ) (before after : List Local) → depth < length before → after ≡ drop 1 before → drop (length after - depth) after ≡ drop (length before - depth) before
one_left depth [] after h e = absurd (omega arith)
one_left depth (d ∷ rest) after h e =
    let n : suc (length rest - depth) ≡ length (d ∷ rest) - depth = omega arith in
    ap (λ (l : List Local). drop (length l - depth) l) e ∙ ap (λ m. drop m (d ∷ rest)) n
