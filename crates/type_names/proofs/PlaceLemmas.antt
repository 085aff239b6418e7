-- Maps from names to places.
use Rattle.std.proofs.Common.{◌≡◌, ℕ, ◌+◌, ◌<◌, Bool, true, false, List, [], ◌∷◌, ◌++◌, length, get_or, Option, Some, None, refl, sym, ap, ◌∙◌, subst, true≢false, add-one, arith}
use Rattle.std.specs.Prelude.{bytes_eq, if◌then◌else◌, is_some}
use Rattle.std.specs.BTreeMap.{BTreeMap, UpdatesBy, get_by}
use Rattle.std.specs.Cmp.{eq_by_cmp_equiv}
use Rattle.std.specs.Cmp.Lexicographic.{slice_cmp, nat_list_cmp_total, nat_list_eq_equiv, bytes_decides}
use Rattle.std.specs.Map.{lookup, IsKeyTest, AreApart, KeepsOthers}
use Rattle.std.specs.Ordering.{is_eq, nat_cmp}
use Rattle.std.proofs.lemmas.Map.Text.{is_eq-slice_cmp}
use Rattle.sail_syntax.specs.Tree.{Text}
use Rattle.type_rules.specs.Names.{find}
use Rattle.type_rules.specs.declared.scope.Entry.{Entry}
use Rattle.type_rules.specs.declared.scope.Item.{Item}
use Rattle.std.specs.Global.{Vec}
use Rattle.type_names.specs.Places.{place_at, or_place, place_for, first_place, later}

-- names that compare alike with a key are alike
apart : (bs cs ks : Text) → bytes_eq bs cs ≡ false → is_eq (slice_cmp nat_cmp bs ks) ≡ true → is_eq (slice_cmp nat_cmp cs ks) ≡ false
apart bs cs ks n y =
    is_eq-slice_cmp cs ks ∙ nat_list_eq_equiv.symm cs ks ∙ sym (nat_list_eq_equiv.congr bs ks cs (sym (is_eq-slice_cmp bs ks) ∙ y)) ∙ n

module _ {K : Type 0} (eq : K → K → Bool) (test : K → Bool) where
  others : {X : Type 0} (old new : List (K × X)) → KeepsOthers eq test old new → (other : K → Bool) → IsKeyTest eq other → AreApart test other → lookup other new ≡ lookup other old
  unfolding KeepsOthers
  others old new h = h

-- what a map has at each name once it was changed at one, where keys are read as names
pub updated : {K X : Type 0} (read : K → Text) (bs : Text) (m n : BTreeMap K X) (w : Option X)
    → UpdatesBy (λ x y. slice_cmp nat_cmp (read x) (read y)) (λ k. slice_cmp nat_cmp bs (read k)) m n w
    → (cs : Text) → get_by (λ k. slice_cmp nat_cmp cs (read k)) n ≡ (if bytes_eq bs cs then w else get_by (λ k. slice_cmp nat_cmp cs (read k)) m)
updated read bs m n w h cs = step (bytes_eq bs cs) refl
  where
    step : (b : Bool) → bytes_eq bs cs ≡ b → get_by (λ k. slice_cmp nat_cmp cs (read k)) n ≡ (if b then w else get_by (λ k. slice_cmp nat_cmp cs (read k)) m)
    step true e = subst (λ l. get_by (λ k. slice_cmp nat_cmp l (read k)) n ≡ w) ((bytes_decides bs cs).0 e) h.1
    step false e = others _ _ _ _ h.3 _ (λ x y. (eq_by_cmp_equiv nat_list_cmp_total).congr cs (read x) (read y)) (λ k. apart bs cs (read k) e)

none_or : (o : Option ℕ) → o ≡ or_place o None
none_or None = refl
none_or (Some i) = refl

pub isnt_there : (o : Option ℕ) → is_some o ≡ false → o ≡ None
isnt_there None h = refl
isnt_there (Some i) h = absurd (true≢false h)

-- a name that wasn't there has its place
pub kept : (m n : BTreeMap (Vec ℕ) ℕ) (bs : Text) (place : ℕ) → place_at bs m ≡ None
    → UpdatesBy (λ x y. slice_cmp nat_cmp x.items y.items) (λ k. slice_cmp nat_cmp bs k.items) m n (Some place)
    → (x : Text) → place_at x n ≡ or_place (place_at x m) (place_for bs place x)
kept m n bs place none h x = updated (λ k. k.items) bs m n (Some place) h x ∙ step (bytes_eq bs x) refl
  where
    step : (b : Bool) → bytes_eq bs x ≡ b → (if b then Some place else place_at x m) ≡ or_place (place_at x m) (if b then Some place else None)
    step true e = ap (λ o. or_place o (Some place)) (sym (subst (λ l. place_at l m ≡ None) ((bytes_decides bs x).0 e) none))
    step false e = none_or (place_at x m)

-- the first of a name, where one entry more stands behind the others
pub first_behind : (x : Text) (es : List Entry) (e : Entry) → first_place x (es ++ e ∷ []) ≡ or_place (first_place x es) (place_for e.name (length es) x)
first_behind x [] e = refl
first_behind x (d ∷ rest) e = step (bytes_eq d.name x) (first_behind x rest e)
  where
    later_or : (o p : Option ℕ) → later (or_place o p) ≡ or_place (later o) (later p)
    later_or None p = refl
    later_or (Some i) p = refl

    later_for : (b : Bool) (n : ℕ) → later (if b then Some n else None) ≡ (if b then Some (n + 1) else None)
    later_for true n = refl
    later_for false n = refl

    step : (b : Bool) → first_place x (rest ++ e ∷ []) ≡ or_place (first_place x rest) (place_for e.name (length rest) x)
        → (if b then Some 0 else later (first_place x (rest ++ e ∷ []))) ≡ or_place (if b then Some 0 else later (first_place x rest)) (place_for e.name (length (d ∷ rest)) x)
    step true h = refl
    step false h =
        let more : length rest + 1 ≡ length (d ∷ rest) = omega arith in
        ap later h ∙ later_or (first_place x rest) (place_for e.name (length rest) x)
        ∙ ap (or_place (later (first_place x rest))) (later_for (bytes_eq e.name x) (length rest))
        ∙ ap (λ n. or_place (later (first_place x rest)) (place_for e.name n x)) more

-- what the place of the first entry of a name tells of what the name stands for
abbrev Tells : Option Item → List Entry → Option ℕ → Type 0
Tells v es None = v ≡ None
Tells v es (Some i) = (i < length es) × ((d : Entry) → v ≡ Some (get_or es i d).item)

one_later : (e : Entry) (rest : List Entry) (v : Option Item) (o : Option ℕ) → Tells v rest o → Tells v (e ∷ rest) (later o)
one_later e rest v None h = h
one_later e rest v (Some i) h =
    let b : i < length rest = h.0 in
    (omega arith, λ d. h.1 d ∙ (let q : Some (get_or rest i d).item ≡ Some (get_or (e ∷ rest) (i + 1) d).item = rw add-one refl in q))

tells : (x : Text) (es : List Entry) → Tells (find x es) es (first_place x es)
tells x [] = refl
tells x (e ∷ rest) = step (bytes_eq e.name x) (tells x rest)
  where
    step : (b : Bool) → Tells (find x rest) rest (first_place x rest)
        → Tells (if b then Some e.item else find x rest) (e ∷ rest) (if b then Some 0 else later (first_place x rest))
    step true h = let z : 0 < length (e ∷ rest) = omega arith in (z, λ d. refl)
    step false h = one_later e rest (find x rest) (first_place x rest) h

-- it is there, and stands there
pub found_within : (x : Text) (es : List Entry) (i : ℕ) → first_place x es ≡ Some i → i < length es
found_within x es i h = (subst (Tells (find x es) es) h (tells x es)).0

pub found : (x : Text) (es : List Entry) (i : ℕ) (d : Entry) → first_place x es ≡ Some i → find x es ≡ Some (get_or es i d).item
found x es i d h = (subst (Tells (find x es) es) h (tells x es)).1 d

pub not_found : (x : Text) (es : List Entry) → first_place x es ≡ None → find x es ≡ None
not_found x es h = subst (Tells (find x es) es) h (tells x es)
