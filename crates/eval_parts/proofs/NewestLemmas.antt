-- The newest locals of their names.
use Rattle.std.proofs.Common.{◌≡◌, ℕ, suc, ◌-◌, ◌<◌, Bool, true, false, List, [], ◌∷◌, ◌++◌, length, get_or, drop, reverse, Option, Some, None, refl, sym, ap, ◌∙◌, subst, arith}
use Rattle.std.specs.Prelude.{map, bytes_eq, if◌then◌else◌, IsSome}
use Rattle.std.specs.Cmp.Lexicographic.{bytes_decides}
use Rattle.std.proofs.lemmas.List.{get_or_push, get_or_append_left, length-reverse, reverse-append}
use Rattle.std.proofs.lemmas.List.{set-append_left, reverse-reverse}
use Rattle.std.proofs.Math.ListN.{set}
use Rattle.std.proofs.Math.Seq.{set-append_seam}
use Rattle.sail_syntax.specs.Tree.{Text}
use Rattle.sail_values.specs.declared.value.Slot.{Slot}
use Rattle.sail_values.specs.declared.value.Local.{Local}
use Rattle.sail_values.specs.Slots.{look, put, has}
use Rattle.eval_parts.specs.declared.locals.Kept.{Kept}
use Rattle.eval_parts.specs.Newest.{slot_of, newest_place, AreChained}

-- what contracts see of locals
abbrev pub seen : List Kept → List Slot
seen l = map slot_of l

-- what the place of the newest of a name tells of what the name stands for
abbrev Tells : Option Local → List Kept → Option ℕ → Type 0
Tells v l None = v ≡ None
Tells v l (Some i) = (i < length l) × ((d : Kept) → v ≡ Some (get_or (reverse l) i d).local)

one_newer : (k : Kept) (older : List Kept) (v : Option Local) (o : Option ℕ) → Tells v older o → Tells v (k ∷ older) o
one_newer k older v None h = h
one_newer k older v (Some i) h =
    let b : i < length older = h.0 in
    let w : i < length (reverse older) = omega (arith, length-reverse older) in
    (omega arith, λ d. h.1 d ∙ ap (λ (n : Kept). Some n.local) (sym (get_or_append_left (reverse older) (k ∷ []) d i w) ∙ ap (λ (l : List Kept). get_or l i d) (sym (reverse-append (k ∷ []) older))))

tells : (x : Text) (l : List Kept) → Tells (look x (seen l)) l (newest_place x l)
tells x [] = refl
tells x (k ∷ older) = step (bytes_eq k.name.now x) (tells x older)
  where
    step : (b : Bool) → Tells (look x (seen older)) older (newest_place x older)
        → Tells (if b then Some k.local else look x (seen older)) (k ∷ older) (if b then Some (length older) else newest_place x older)
    step true h =
        let z : length older < length (k ∷ older) = omega arith in
        (z, λ d. ap (λ (n : Kept). Some n.local) (sym (get_or_push (reverse older) k d (length older) (length-reverse older)) ∙ ap (λ (l : List Kept). get_or l (length older) d) (sym (reverse-append (k ∷ []) older))))
    step false h = one_newer k older (look x (seen older)) (newest_place x older) h

-- it is there, and stands there
pub found_within : (x : Text) (l : List Kept) (i : ℕ) → newest_place x l ≡ Some i → i < length l
found_within x l i h = (subst (Tells (look x (seen l)) l) h (tells x l)).0

pub found : (x : Text) (l : List Kept) (i : ℕ) (d : Kept) → newest_place x l ≡ Some i → look x (seen l) ≡ Some (get_or (reverse l) i d).local
found x l i d h = (subst (Tells (look x (seen l)) l) h (tells x l)).1 d

pub not_found : (x : Text) (l : List Kept) → newest_place x l ≡ None → look x (seen l) ≡ None
not_found x l h = subst (Tells (look x (seen l)) l) h (tells x l)

-- the newest in front
pub newest_first : (all older : List Kept) (k : Kept) → all ≡ older ++ k ∷ [] → reverse all ≡ k ∷ reverse older
newest_first all older k h = ap reverse h ∙ reverse-append older (k ∷ [])

-- the newest is there
pub newest_there : (k : Kept) (older : List Kept) → IsSome (newest_place k.name.now (k ∷ older))
newest_there k older =
    let same : bytes_eq k.name.now k.name.now ≡ true = (bytes_decides k.name.now k.name.now).1 refl in
    subst (λ b. IsSome (if b then Some (length older) else newest_place k.name.now older)) (sym same) refl

-- the places without the newest
pub left : (f g : Text → Option ℕ) (k : Kept) (older : List Kept) → ((x : Text) → f x ≡ newest_place x (k ∷ older)) → AreChained (k ∷ older)
    → ((x : Text) → g x ≡ (if bytes_eq k.name.now x then k.hides else f x)) → (x : Text) → g x ≡ newest_place x older
left f g k older finds chained h x = h x ∙ ap (λ o. if bytes_eq k.name.now x then k.hides else o) (finds x) ∙ step (bytes_eq k.name.now x) refl
  where
    step : (b : Bool) → bytes_eq k.name.now x ≡ b → (if b then k.hides else (if b then Some (length older) else newest_place x older)) ≡ newest_place x older
    step true e = chained.0 ∙ ap (λ l. newest_place l older) ((bytes_decides k.name.now x).0 e)
    step false e = refl

-- one that is left
pub one_left : (depth : ℕ) (before after : List Slot) → depth < length before → after ≡ drop 1 before → drop (length after - depth) after ≡ drop (length before - depth) before
one_left depth [] after h e = absurd (omega arith)
one_left depth (d ∷ rest) after h e =
    let n : suc (length rest - depth) ≡ length (d ∷ rest) - depth = omega arith in
    ap (λ (l : List Slot). drop (length l - depth) l) e ∙ ap (λ m. drop m (d ∷ rest)) n

-- ---- another value

some_same : {i j : ℕ} → Some i ≡ Some j → j ≡ i
some_same h = sym (ap (λ o. elim o [ None ↦ 0 | Some n ↦ n ]) h)

abbrev pub with_local : Local → Kept → Kept
with_local v k = record k { local = v }

-- an older one gets another value
older_set : (k : Kept) (older : List Kept) (i : ℕ) (n : Kept) → i < length older → reverse (set (reverse (k ∷ older)) i n) ≡ k ∷ reverse (set (reverse older) i n)
older_set k older i n h =
    let w : i < length (reverse older) = omega (arith, length-reverse older) in
    ap (λ l. reverse (set l i n)) (reverse-append (k ∷ []) older) ∙ ap reverse (set-append_left (reverse older) (k ∷ []) i n w) ∙ reverse-append (set (reverse older) i n) (k ∷ [])

-- the newest gets another value
newest_set : (k : Kept) (older : List Kept) (n : Kept) → reverse (set (reverse (k ∷ older)) (length older) n) ≡ n ∷ older
newest_set k older n =
    ap (λ l. reverse (set l (length older) n)) (reverse-append (k ∷ []) older)
    ∙ ap (λ m. reverse (set (reverse older ++ k ∷ []) m n)) (sym (length-reverse older))
    ∙ ap reverse (set-append_seam (reverse older) k [] n) ∙ reverse-append (reverse older) (n ∷ []) ∙ ap (λ l. n ∷ l) (reverse-reverse older)

-- the one at a place, counted from the oldest
newest_at_seam : (k : Kept) (older : List Kept) (d : Kept) → get_or (reverse (k ∷ older)) (length older) d ≡ k
newest_at_seam k older d = ap (λ l. get_or l (length older) d) (reverse-append (k ∷ []) older) ∙ get_or_push (reverse older) k d (length older) (length-reverse older)

older_at : (k : Kept) (older : List Kept) (i : ℕ) (d : Kept) → i < length older → get_or (reverse (k ∷ older)) i d ≡ get_or (reverse older) i d
older_at k older i d h =
    let w : i < length (reverse older) = omega (arith, length-reverse older) in
    ap (λ l. get_or l i d) (reverse-append (k ∷ []) older) ∙ get_or_append_left (reverse older) (k ∷ []) d i w

-- what holds once the newest of a name has another value
pub record IsPut (x : Text) (v : Local) (l m : List Kept) : Type 0 where
  pub written : seen m ≡ put x v (seen l)
  pub there : has x (seen l) ≡ true
  pub places : (y : Text) → newest_place y m ≡ newest_place y l
  pub many : length m ≡ length l
  pub chained : AreChained l → AreChained m

put_newest : (x : Text) (v : Local) (k : Kept) (older : List Kept) → bytes_eq k.name.now x ≡ true → IsPut x v (k ∷ older) (with_local v k ∷ older)
put_newest x v k older e = record {
  written = ap (λ b. if b then slot_of (with_local v k) ∷ seen older else slot_of k ∷ put x v (seen older)) (sym e);
  there = ap (λ b. if b then true else has x (seen older)) e;
  places = λ y. refl;
  many = refl;
  chained = λ c. c;
}

put_older : (x : Text) (v : Local) (k : Kept) (older m : List Kept) → bytes_eq k.name.now x ≡ false → IsPut x v older m → IsPut x v (k ∷ older) (k ∷ m)
put_older x v k older m e h = record {
  written = ap (λ r. slot_of k ∷ r) h.written ∙ ap (λ b. if b then record (slot_of k) { local = v } ∷ seen older else slot_of k ∷ put x v (seen older)) (sym e);
  there = ap (λ b. if b then true else has x (seen older)) e ∙ h.there;
  places = λ y. ap (λ n. if bytes_eq k.name.now y then Some n else newest_place y m) h.many ∙ ap (λ o. if bytes_eq k.name.now y then Some (length older) else o) (h.places y);
  many = ap suc h.many;
  chained = λ c. (c.0 ∙ sym (h.places k.name.now), h.chained c.1);
}

pub is_put : (x : Text) (v : Local) (l : List Kept) (i : ℕ) (d : Kept) → newest_place x l ≡ Some i
    → IsPut x v l (reverse (set (reverse l) i (with_local v (get_or (reverse l) i d))))
is_put x v [] i d h = absurd (cc)
is_put x v (k ∷ older) i d h = step (bytes_eq k.name.now x) refl (λ at. is_put x v older i d at)
  where
    step : (b : Bool) → bytes_eq k.name.now x ≡ b
        → (newest_place x older ≡ Some i → IsPut x v older (reverse (set (reverse older) i (with_local v (get_or (reverse older) i d)))))
        → IsPut x v (k ∷ older) (reverse (set (reverse (k ∷ older)) i (with_local v (get_or (reverse (k ∷ older)) i d))))
    step true e ih =
        let same : i ≡ length older = some_same (sym (ap (λ b. if b then Some (length older) else newest_place x older) e) ∙ h) in
        subst (λ m. IsPut x v (k ∷ older) m)
        (sym (ap (λ n. reverse (set (reverse (k ∷ older)) n (with_local v (get_or (reverse (k ∷ older)) n d)))) same
        ∙ ap (λ n. reverse (set (reverse (k ∷ older)) (length older) (with_local v n))) (newest_at_seam k older d) ∙ newest_set k older (with_local v k)))
        (put_newest x v k older e)
    step false e ih =
        let at : newest_place x older ≡ Some i = sym (ap (λ b. if b then Some (length older) else newest_place x older) e) ∙ h in
        let within : i < length older = found_within x older i at in
        subst (λ m. IsPut x v (k ∷ older) m)
        (sym (ap (λ n. reverse (set (reverse (k ∷ older)) i (with_local v n))) (older_at k older i d within) ∙ older_set k older i (with_local v (get_or (reverse older) i d)) within))
        (put_older x v k older (reverse (set (reverse older) i (with_local v (get_or (reverse older) i d)))) e (ih at))

-- none of the name
pub not_put : (x : Text) (v : Local) (l : List Kept) → newest_place x l ≡ None → (put x v (seen l) ≡ seen l) × (has x (seen l) ≡ false)
not_put x v [] h = (refl, refl)
not_put x v (k ∷ older) h = step (bytes_eq k.name.now x) h (not_put x v older)
  where
    step : (b : Bool) → (if b then Some (length older) else newest_place x older) ≡ None → (newest_place x older ≡ None → (put x v (seen older) ≡ seen older) × (has x (seen older) ≡ false))
        → ((if b then record (slot_of k) { local = v } ∷ seen older else slot_of k ∷ put x v (seen older)) ≡ slot_of k ∷ seen older) × ((if b then true else has x (seen older)) ≡ false)
    step true e ih = absurd (cc)
    step false e ih = (ap (λ r. slot_of k ∷ r) (ih e).0, (ih e).1)

-- the same of locals with the oldest first
pub put_in_items : (x : Text) (v : Local) (items : List Kept) (i : ℕ) (r : Kept) → newest_place x (reverse items) ≡ Some i → r ≡ get_or items i r
    → IsPut x v (reverse items) (reverse (set items i (with_local v r)))
put_in_items x v items i r h e =
    subst (λ m. IsPut x v (reverse items) m)
    (ap (λ l. reverse (set l i (with_local v (get_or l i r)))) (reverse-reverse items) ∙ ap (λ n. reverse (set items i (with_local v n))) (sym e))
    (is_put x v (reverse items) i r h)
