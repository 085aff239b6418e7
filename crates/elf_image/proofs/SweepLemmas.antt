-- Which of some segments by rising addresses share an address with another.
use Rattle.std.proofs.Common.{◌≡◌, ◌≢◌, ℕ, zero, suc, ◌+◌, ◌-◌, ◌<◌, ◌≤◌, ◌⊎◌, inl, inr, ⊎_elim, Bool, true, false, ◌&&◌, ltb, min, max, List, [], ◌∷◌, length, get_or, refl, sym, ap, ◌∙◌, arith, subst, Some, None, Option}
use Rattle.std.specs.Prelude.{All, AllPairs, MatchBool}
use Rattle.std.specs.List.Sorted.{IsNonDecreasingBy}
use Rattle.std.proofs.lemmas.Bool.{cases_lt, cases_eq, cases_order, ltb-true, ltb-false, lt-ltb, le-ltb, and_parts, and_cases, cases_Bool, cond-true, cond-false}
use Rattle.std.proofs.lemmas.List.{get_or_default}
use Rattle.elf_image.specs.declared.segment.Segment.{Segment}
use Rattle.elf_image.specs.Segments.{end, Covers}
use Rattle.elf_image.specs.Overlaps.{shares}
use Rattle.elf_image.specs.Sweep.{TakesPart, IsGreatestEnd, IsLeast, IsLeastSharing, lesser}

-- ---- two segments

pub share_from : (s t : Segment) → s.addr < end s → s.addr < end t → t.addr < end s → t.addr < end t → shares s t ≡ true
share_from s t a b c d = lt-ltb (max s.addr t.addr) (min (end s) (end t)) (omega (arith, a, b, c, d))

pub share_parts : (s t : Segment) → shares s t ≡ true → (s.addr < end s) × (s.addr < end t) × (t.addr < end s) × (t.addr < end t)
share_parts s t h = let l = ltb-true (max s.addr t.addr) (min (end s) (end t)) h in (omega (arith, l), omega (arith, l), omega (arith, l), omega (arith, l))

pub share_back : (s t : Segment) → shares s t ≡ true → shares t s ≡ true
share_back s t h = let p = share_parts s t h in share_from t s p.3 p.2 p.1 p.0

pub no_share : (s t : Segment) → (end s ≤ t.addr) ⊎ (end t ≤ s.addr) → shares s t ≡ true → ⊥
no_share s t away h = let p = share_parts s t h in ⊎_elim (λ l. omega (arith, l, p.2)) (λ l. omega (arith, l, p.1)) away

pub share_address : (s t : Segment) → shares s t ≡ true → (a : ℕ) × Covers s a × Covers t a
share_address s t h = let p = share_parts s t h in (max s.addr t.addr, (omega arith, omega (arith, p.0, p.2)), (omega arith, omega (arith, p.1, p.3)))

pub address_share : (s t : Segment) (a : ℕ) → Covers s a → Covers t a → shares s t ≡ true
address_share s t a c d =
    let c0 = c.0 in let c1 = c.1 in let d0 = d.0 in let d1 = d.1 in
    share_from s t (omega (arith, c0, c1)) (omega (arith, c0, d1)) (omega (arith, d0, c1)) (omega (arith, d0, d1))

-- ---- a row

abbrev pub Rises : List Segment → Type 0
Rises ss = IsNonDecreasingBy (λ (s : Segment). s.addr) ss

abbrev pub AreSome : List Segment → Type 0
AreSome ss = All (λ (s : Segment). 0 < s.size) ss

pub by_before : (ss : List Segment) (k g : ℕ) (d : Segment) → Rises ss → AreSome ss → IsGreatestEnd ss k g → k < length ss → (get_or ss k d).addr < g → TakesPart ss k
by_before ss k g d rises some great within less =
    ⊎_elim (λ e. absurd (omega (arith, e, less)))
    (λ r.
    let m = r.0 in
    record {
      other = m;
      below = let l = r.1 in omega (arith, l, within);
      differs = let l = r.1 in λ e. absurd (omega (arith, l, e));
      share = λ e.
          let l = r.1 in
          let order = rises m k e (omega (arith, l)) within in
          let size = some k e within in
          let size' = some m e (omega (arith, l, within)) in
          let reach = r.2 e in
          let same : (get_or ss k d).addr ≡ (get_or ss k e).addr = ap (λ (x : Segment). x.addr) (get_or_default ss k d e within) in
          share_from (get_or ss k e) (get_or ss m e) (omega (arith, size)) (omega (arith, same, less, reach)) (omega (arith, order, size)) (omega (arith, size'));
    })
    great.reached

pub by_next : (ss : List Segment) (k : ℕ) (d : Segment) → Rises ss → AreSome ss → k + 1 < length ss → (get_or ss (k + 1) d).addr < end (get_or ss k d) → TakesPart ss k
by_next ss k d rises some within less = record {
  other = k + 1;
  below = within;
  differs = λ e. absurd (omega (arith, e));
  share = λ e.
      let order = rises k (k + 1) e (omega arith) within in
      let size = some k e (omega (arith, within)) in
      let size' = some (k + 1) e within in
      let same : end (get_or ss k d) ≡ end (get_or ss k e) = ap (λ (x : Segment). end x) (get_or_default ss k d e (omega (arith, within))) in
      let same' : (get_or ss (k + 1) d).addr ≡ (get_or ss (k + 1) e).addr = ap (λ (x : Segment). x.addr) (get_or_default ss (k + 1) d e within) in
      share_from (get_or ss k e) (get_or ss (k + 1) e) (omega (arith, size)) (omega (arith, order, size')) (omega (arith, same, same', less)) (omega (arith, size'));
}

pub neither : (ss : List Segment) (k g : ℕ) (d : Segment) → Rises ss → IsGreatestEnd ss k g → k < length ss → g ≤ (get_or ss k d).addr → (k + 1 < length ss → end (get_or ss k d) ≤ (get_or ss (k + 1) d).addr) → ¬ TakesPart ss k
neither ss k g d rises great within early next part =
    ⊎_elim (λ same. absurd (part.differs same))
    (λ other. ⊎_elim
    (λ l.
    let above = great.above part.other d l in
    absurd (no_share (get_or ss k d) (get_or ss part.other d) (inr (omega (arith, above, early))) (part.share d)))
    (λ l.
    let below = part.below in
    let stop = next (omega (arith, l, below)) in
    let order = rises (k + 1) part.other d (omega (arith, l)) below in
    absurd (no_share (get_or ss k d) (get_or ss part.other d) (inl (omega (arith, stop, order))) (part.share d)))
    other)
    (cases_order part.other k)

-- the test of the next one
pub decided : (ss : List Segment) (k g : ℕ) (d : Segment) (b : Bool) → Rises ss → AreSome ss → IsGreatestEnd ss k g → k < length ss → g ≤ (get_or ss k d).addr → b ≡ (ltb (k + 1) (length ss) && ltb (get_or ss (k + 1) d).addr (end (get_or ss k d))) → MatchBool b (TakesPart ss k) (¬ TakesPart ss k)
decided ss k g d true rises some great within early e =
    let p = and_parts (ltb (k + 1) (length ss)) (ltb (get_or ss (k + 1) d).addr (end (get_or ss k d))) (sym e) in
    by_next ss k d rises some (ltb-true (k + 1) (length ss) p.0) (ltb-true (get_or ss (k + 1) d).addr (end (get_or ss k d)) p.1)
decided ss k g d false rises some great within early e =
    neither ss k g d rises great within early (λ more.
    ⊎_elim (λ l. absurd (let h = ltb-false (k + 1) (length ss) l in omega (arith, more, h))) (λ l. ltb-false (get_or ss (k + 1) d).addr (end (get_or ss k d)) l)
    (and_cases (ltb (k + 1) (length ss)) (ltb (get_or ss (k + 1) d).addr (end (get_or ss k d))) (sym e)))

-- any segment
abbrev pub some_segment : Segment
some_segment = record { number = 0; offset = 0; addr = 0; file_size = 0; size = 0 }

-- ---- the sweep

pub greatest_none : (ss : List Segment) → IsGreatestEnd ss 0 0
greatest_none ss = record { above = λ m d l. absurd (omega (arith, l)); reached = inl refl }

pub greatest_more : (ss : List Segment) (k g : ℕ) (d : Segment) → k < length ss → IsGreatestEnd ss k g → IsGreatestEnd ss (k + 1) (max g (end (get_or ss k d)))
greatest_more ss k g d within great = record {
  above = λ m e l.
      ⊎_elim (λ h. let a = great.above m e h in omega (arith, a))
      (λ h.
      let f : m ≡ k = omega (arith, h, l) in
      let same : end (get_or ss m e) ≡ end (get_or ss k d) = ap (λ (i : ℕ). end (get_or ss i e)) f ∙ ap (λ (x : Segment). end x) (get_or_default ss k e d within) in
      omega (arith, same))
      (cases_lt m k);
  reached =
      ⊎_elim
      (λ h.
      let is : max g (end (get_or ss k d)) ≡ end (get_or ss k d) = omega (arith, h) in
      inr (k, omega arith, λ e. is ∙ ap (λ (x : Segment). end x) (get_or_default ss k d e within)))
      (λ h.
      let is : max g (end (get_or ss k d)) ≡ g = omega (arith, h) in
      ⊎_elim (λ z. inl (is ∙ z)) (λ r. inr (r.0, (let l = r.1 in omega (arith, l)), λ e. is ∙ r.2 e)) great.reached)
      (cases_lt g (end (get_or ss k d)));
}

pub least_more_none : (ss : List Segment) (k : ℕ) (o : Option Segment) → IsLeastSharing ss k o → ¬ TakesPart ss k → IsLeastSharing ss (k + 1) o
least_more_none ss k None h other =
    λ m l part. ⊎_elim (λ b. h m b part) (λ b. let f : k ≡ m = omega (arith, b, l) in other (subst (TakesPart ss) (sym f) part)) (cases_lt m k)
least_more_none ss k (Some s) h other = record {
  place = h.place;
  below = let b = h.below in omega (arith, b);
  is = h.is;
  part = h.part;
  least = λ m d l part.
      ⊎_elim (λ b. h.least m d b part) (λ b. let f : k ≡ m = omega (arith, b, l) in absurd (other (subst (TakesPart ss) (sym f) part))) (cases_lt m k);
}

-- the new one is the least
new_least : (ss : List Segment) (k : ℕ) (d : Segment) → k < length ss → TakesPart ss k → ((m : ℕ) (e : Segment) → m < k → TakesPart ss m → (get_or ss k d).number ≤ (get_or ss m e).number) → IsLeast ss (k + 1) (get_or ss k d)
new_least ss k d within part others = record {
  place = k;
  below = omega arith;
  is = λ e. get_or_default ss k e d within;
  part = part;
  least = λ m e l p.
      ⊎_elim (λ b. others m e b p)
      (λ b.
      let f : m ≡ k = omega (arith, b, l) in
      let same : (get_or ss m e).number ≡ (get_or ss k d).number = ap (λ (i : ℕ). (get_or ss i e).number) f ∙ ap (λ (x : Segment). x.number) (get_or_default ss k e d within) in
      omega (arith, same))
      (cases_lt m k);
}

pub least_more_part : (ss : List Segment) (k : ℕ) (d : Segment) (o : Option Segment) → k < length ss → IsLeastSharing ss k o → TakesPart ss k → IsLeast ss (k + 1) (lesser o (get_or ss k d))
least_more_part ss k d None within h part = new_least ss k d within part (λ m e l p. absurd (h m l p))
least_more_part ss k d (Some t) within h part =
    let s = get_or ss k d in
    ⊎_elim
    (λ l.
    subst (IsLeast ss (k + 1)) (sym (cond-true (ltb t.number s.number) t s (lt-ltb t.number s.number l)))
    (record {
      place = h.place;
      below = let b = h.below in omega (arith, b);
      is = h.is;
      part = h.part;
      least = λ m e b p.
          ⊎_elim (λ x. h.least m e x p)
          (λ x.
          let f : m ≡ k = omega (arith, x, b) in
          let same : (get_or ss m e).number ≡ s.number = ap (λ (i : ℕ). (get_or ss i e).number) f ∙ ap (λ (x : Segment). x.number) (get_or_default ss k e d within) in
          omega (arith, same, l))
          (cases_lt m k);
    }))
    (λ l.
    subst (IsLeast ss (k + 1)) (sym (cond-false (ltb t.number s.number) t s (le-ltb t.number s.number l)))
    (new_least ss k d within part (λ m e x p. let r = h.least m e x p in omega (arith, r, l))))
    (cases_lt t.number s.number)
