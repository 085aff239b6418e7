-- The least pair of segments that shares an address.
use Rattle.std.proofs.Common.{◌≡◌, ◌≢◌, ℕ, zero, suc, ◌+◌, ◌-◌, ◌<◌, ◌≤◌, ◌⊎◌, inl, inr, ⊎_elim, Bool, true, false, not, ◌&&◌, cond, eqb, ltb, List, [], ◌∷◌, length, get_or, refl, sym, ap, ◌∙◌, arith, subst, Some, None, Option}
use Rattle.std.specs.Prelude.{All, AllPairs, Contains}
use Rattle.std.specs.List.{swap}
use Rattle.std.specs.List.Sorted.{IsPermutation}
use Rattle.std.proofs.lemmas.Bool.{cases_eq, cases_lt, cases_order, cases_Bool, cond-true, cond-false, and_left, and_right, and_from, not_from_true, not_from_false, eq-eqb, ne_eqb, false_from_ne_true, true≢false}
use Rattle.std.proofs.lemmas.List.{get_or_default}
use Rattle.std.proofs.lemmas.List.Edits.{Swapped, swapped_from_swap, length-swap}
use Rattle.std.proofs.lemmas.List.Elements.{All-head, All-tail, All-cons, All-nil, All-contains, All-weaker, Contains-get_or}
use Rattle.std.proofs.lemmas.List.Sorted.{IsPermutation-keeps, IsPermutation-sym, Contains-permutation, length_permutation}
use Rattle.elf_image.specs.declared.segment.Segment.{Segment}
use Rattle.elf_image.specs.Segments.{end, Covers}
use Rattle.elf_image.specs.Overlaps.{shares, first_sharing, pair_or, least_overlap}
use Rattle.elf_image.specs.Sweep.{TakesPart, IsLeast, first_other}
use Rattle.elf_image.proofs.SegmentLemmas.{IsApart, IsRow, row_apart}
use Rattle.elf_image.proofs.SweepLemmas.{share_parts, share_back, share_from, share_address, no_share, Rises, AreSome}

-- ---- numbers that differ stay different in another order

abbrev pub NumbersDiffer : List Segment → Type 0
NumbersDiffer ss = (i j : ℕ) (d : Segment) → i < length ss → j < length ss → i ≢ j → (get_or ss i d).number ≢ (get_or ss j d).number

abbrev pub NumbersRise : List Segment → Type 0
NumbersRise ss = AllPairs (λ (s t : Segment). s.number < t.number) ss

abbrev From : ℕ → ℕ → ℕ → ℕ → Type 0
From a b m k = ((m ≡ a) × (k ≡ b)) ⊎ (((m ≡ b) × (k ≡ a)) ⊎ ((m ≢ a) × (m ≢ b) × (k ≡ m)))

origin : (f g : ℕ → Segment) (a b m : ℕ) → Swapped f g a b → (m ≡ a) ⊎ (m ≢ a) → (m ≡ b) ⊎ (m ≢ b) → (k : ℕ) × From a b m k × (g m ≡ f k)
origin f g a b m s (inl e) y = (b, inl (e, refl), ap g e ∙ s.0)
origin f g a b m s (inr n) (inl e) = (a, inr (inl (e, refl)), ap g e ∙ s.1)
origin f g a b m s (inr n) (inr o) = (m, inr (inr (n, o, refl)), s.2 m n o)

differ_swapped : (ss : List Segment) (a b : ℕ) → a < length ss → b < length ss → NumbersDiffer ss → NumbersDiffer (swap ss a b)
differ_swapped ss a b p q h i j d k l n e =
    let len = length-swap ss a b in
    let s = swapped_from_swap ss (swap ss a b) a b d p q refl in
    let x = origin _ _ a b i s (cases_eq i a) (cases_eq i b) in
    let y = origin _ _ a b j s (cases_eq j a) (cases_eq j b) in
    let away : x.0 ≢ y.0 = λ same. n (omega (arith, x.1, y.1, same)) in
    h x.0 y.0 d (omega (arith, x.1, k, len)) (omega (arith, y.1, l, len)) away
    (ap (λ (t : Segment). t.number) (sym x.2) ∙ e ∙ ap (λ (t : Segment). t.number) y.2)

differ_rising : (ss : List Segment) → NumbersRise ss → NumbersDiffer ss
differ_rising ss h i j d k l n e =
    ⊎_elim (λ same. n same) (λ other. ⊎_elim (λ b. let r = h i j d b l in omega (arith, r, e)) (λ b. let r = h j i d b k in omega (arith, r, e)) other) (cases_order i j)

pub differ_permuted : (xs ys : List Segment) → IsPermutation xs ys → NumbersRise xs → NumbersDiffer ys
differ_permuted xs ys p h = IsPermutation-keeps xs NumbersDiffer (differ_rising xs h) (λ l i j a b. differ_swapped l i j a b) ys p

-- ---- a list's head and the others

at_head : (s : Segment) (ss : List Segment) → Contains (s ∷ ss) s
at_head s ss = (0, omega arith, refl)

at_tail : (s t : Segment) (ss : List Segment) → Contains ss t → Contains (s ∷ ss) t
at_tail s t ss c = (suc c.0, let h = c.1 in omega (arith, h), c.2)

head_below : (s t : Segment) (ss : List Segment) → NumbersRise (s ∷ ss) → Contains ss t → s.number < t.number
head_below s t ss h c =
    let r = h 0 (suc c.0) t (omega arith) (let l = c.1 in omega (arith, l)) in
    subst (λ (x : Segment). s.number < x.number) c.2 r

rest_rises : (s : Segment) (ss : List Segment) → NumbersRise (s ∷ ss) → NumbersRise ss
rest_rises s ss h = λ i j d l m. h (suc i) (suc j) d (omega (arith, l)) (omega (arith, m))

in_rest : (s t : Segment) (ss : List Segment) → Contains (s ∷ ss) t → (s ≡ t) ⊎ Contains ss t
in_rest s t ss (zero, below, is) = inl is
in_rest s t ss (suc k, below, is) = inr (k, omega (arith, below), is)

-- ---- no pair

none_sharing : (s : Segment) (ts : List Segment) → ((t : Segment) → Contains ts t → shares s t ≡ true → ⊥) → first_sharing s ts ≡ None
none_sharing s [] h = refl
none_sharing s (t ∷ ts) h =
    cond-false (shares s t) (Some t) (first_sharing s ts) (false_from_ne_true (shares s t) (h t (at_head t ts)))
    ∙ none_sharing s ts (λ u c. h u (at_tail t u ts c))

pub none_from_apart : (ss : List Segment) → NumbersRise ss → IsApart ss → least_overlap ss ≡ None
none_from_apart [] rise apart = refl
none_from_apart (s ∷ ss) rise apart =
    ap (λ (o : Option Segment). pair_or s o (least_overlap ss))
    (none_sharing s ss (λ t c h.
    let a = share_address s t h in
    let same = apart s t a.0 (at_head s ss) (at_tail s t ss c) a.1 a.2 in
    let less = head_below s t ss rise c in
    let e : s.number ≡ t.number = ap (λ (x : Segment). x.number) same in
    absurd (omega (arith, less, e))))
    ∙ none_from_apart ss (rest_rises s ss rise) (λ x y q a b k l. apart x y q (at_tail s x ss a) (at_tail s y ss b) k l)

-- segments by rising addresses of which none takes part are a row
pub row_from_none : (ss : List Segment) → Rises ss → AreSome ss → ((m : ℕ) → m < length ss → ¬ TakesPart ss m) → IsRow ss
row_from_none ss rises some none i j d l m =
    ⊎_elim (λ h. absurd (none i (omega (arith, l, m)) (record {
      other = j;
      below = m;
      differs = λ e. absurd (omega (arith, l, e));
      share = λ e.
          let order = rises i j e (omega (arith, l)) m in
          let size = some i e (omega (arith, l, m)) in
          let size' = some j e m in
          let same : end (get_or ss i d) ≡ end (get_or ss i e) = ap (λ (x : Segment). end x) (get_or_default ss i d e (omega (arith, l, m))) in
          let same' : (get_or ss j d).addr ≡ (get_or ss j e).addr = ap (λ (x : Segment). x.addr) (get_or_default ss j d e m) in
          share_from (get_or ss i e) (get_or ss j e) (omega (arith, size)) (omega (arith, order, size')) (omega (arith, same, same', h)) (omega (arith, size'));
    })))
    (λ h. h)
    (cases_lt (get_or ss j d).addr (end (get_or ss i d)))

-- ---- the least pair

-- the segment of another number that shares an address is found
pub other_there : (s t : Segment) (ss : List Segment) → Contains ss t → t.number ≢ s.number → shares s t ≡ true → first_other s ss ≢ None
other_there s t [] c n h e = let l = c.1 in omega (arith, l)
other_there s t (u ∷ us) c n h e =
    ⊎_elim
    (λ same.
    let found : (not (eqb t.number s.number) && shares s t) ≡ true = and_from _ _ (not_from_false _ (ne_eqb t.number s.number n)) h in
    let found' : (not (eqb u.number s.number) && shares s u) ≡ true = subst (λ (x : Segment). (not (eqb x.number s.number) && shares s x) ≡ true) (sym same) found in
    let is = sym (cond-true (not (eqb u.number s.number) && shares s u) (Some u) (first_other s us) found') ∙ e in cc)
    (λ rest. ⊎_elim
    (λ b. let is = sym (cond-true (not (eqb u.number s.number) && shares s u) (Some u) (first_other s us) b) ∙ e in cc)
    (λ b. other_there s t us rest n h (sym (cond-false (not (eqb u.number s.number) && shares s u) (Some u) (first_other s us) b) ∙ e))
    (cases_Bool (not (eqb u.number s.number) && shares s u)))
    (in_rest u t us c)

-- among segments of greater numbers it is the first one that shares an address
all_others : (s : Segment) (ts : List Segment) → ((t : Segment) → Contains ts t → s.number < t.number) → first_other s ts ≡ first_sharing s ts
all_others s [] h = refl
all_others s (t ∷ ts) h =
    let less = h t (at_head t ts) in
    let n = not_from_false (eqb t.number s.number) (ne_eqb t.number s.number (λ e. absurd (omega (arith, less, e)))) in
    ap (λ (b : Bool). cond (b && shares s t) (Some t) (first_other s ts)) n
    ∙ ap (λ (o : Option Segment). cond (shares s t) (Some t) o) (all_others s ts (λ u c. h u (at_tail t u ts c)))

-- no segment that shares an address with one of another number has a lesser number
abbrev pub IsLeastPart : List Segment → Segment → Type 0
IsLeastPart ss s = (x t : Segment) → Contains ss x → Contains ss t → x.number ≢ t.number → shares x t ≡ true → s.number ≤ x.number

pub overlap_is : (ss : List Segment) (s t : Segment) → NumbersRise ss → Contains ss s → IsLeastPart ss s → first_other s ss ≡ Some t → least_overlap ss ≡ Some (s, t)
overlap_is [] s t rise at least e = absurd (let l = at.1 in omega (arith, l))
overlap_is (x ∷ xs) s t rise at least e =
    ⊎_elim
    (λ same.
    let e' : first_other x (x ∷ xs) ≡ Some t = subst (λ (y : Segment). first_other y (x ∷ xs) ≡ Some t) (sym same) e in
    let skip = cond-false (not (eqb x.number x.number) && shares x x) (Some x) (first_other x xs) (and_left _ _ (not_from_true _ (eq-eqb x.number x.number refl))) in
    let first = sym (all_others x xs (λ u c. head_below x u xs rise c)) ∙ sym skip ∙ e' in
    ap (λ (o : Option Segment). pair_or x o (least_overlap xs)) first ∙ ap (λ (y : Segment). Some (y, t)) same)
    (λ rest.
    let less = head_below x s xs rise rest in
    let none = none_sharing x xs (λ u c h. let below = head_below x u xs rise c in let l = least x u (at_head x xs) (at_tail x u xs c) (λ n. absurd (omega (arith, below, n))) h in absurd (omega (arith, l, less))) in
    let away = false_from_ne_true (shares s x) (λ h. let l = least x s (at_head x xs) at (λ n. absurd (omega (arith, less, n))) (share_back s x h) in absurd (omega (arith, l, less))) in
    let skip = cond-false (not (eqb x.number s.number) && shares s x) (Some x) (first_other s xs) (and_right _ _ away) in
    ap (λ (o : Option Segment). pair_or x o (least_overlap xs)) none
    ∙ overlap_is xs s t (rest_rises x xs rise) rest (λ y u a b n h. least y u (at_tail x y xs a) (at_tail x u xs b) n h) (sym skip ∙ e))
    (in_rest x s xs at)

-- ---- what the sweep over a permutation found

abbrev pub IsLeastOf : List Segment → Segment → Type 0
IsLeastOf ss s = IsLeast ss (length ss) s

pub least_in : (xs ys : List Segment) (s : Segment) → IsPermutation xs ys → IsLeastOf ys s → Contains xs s
least_in xs ys s p l = Contains-permutation ys xs s (IsPermutation-sym xs ys p) (l.place, l.below, l.is s)

pub least_part : (xs ys : List Segment) (s : Segment) → IsPermutation xs ys → IsLeastOf ys s → IsLeastPart xs s
least_part xs ys s p l x t a b n h =
    let i = Contains-permutation xs ys x p a in
    let j = Contains-permutation xs ys t p b in
    let e : get_or ys j.0 x ≡ t = get_or_default ys j.0 x t j.1 ∙ j.2 in
    let part : TakesPart ys i.0 = record {
      other = j.0;
      below = j.1;
      differs = λ same. n (ap (λ (y : Segment). y.number) (sym i.2 ∙ ap (λ (k : ℕ). get_or ys k x) (sym same) ∙ e));
      share = λ d.
          subst (λ (y : Segment). shares y (get_or ys j.0 d) ≡ true) (sym (get_or_default ys i.0 d x i.1 ∙ i.2))
          (subst (λ (y : Segment). shares x y ≡ true) (sym (get_or_default ys j.0 d t j.1 ∙ j.2)) h);
    } in
    subst (λ (y : Segment). s.number ≤ y.number) i.2 (l.least i.0 x i.1 part)

pub least_has_other : (xs ys : List Segment) (s : Segment) → NumbersRise xs → IsPermutation xs ys → IsLeastOf ys s → first_other s xs ≢ None
least_has_other xs ys s rise p l =
    let part = l.part in
    let t = get_or ys part.other s in
    let share : shares s t ≡ true = subst (λ (y : Segment). shares y t ≡ true) (l.is s) (part.share s) in
    let differ = differ_permuted xs ys p rise part.other l.place s part.below l.below part.differs in
    other_there s t xs (Contains-permutation ys xs t (IsPermutation-sym xs ys p) (Contains-get_or ys part.other s part.below))
    (λ e. differ (e ∙ ap (λ (y : Segment). y.number) (sym (l.is s)))) share

pub apart_permuted : (xs ys : List Segment) → IsPermutation xs ys → IsApart ys → IsApart xs
apart_permuted xs ys p apart s t q a b c d = apart s t q (Contains-permutation xs ys s p a) (Contains-permutation xs ys t p b) c d
