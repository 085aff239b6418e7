-- What the definitions of an image come to.
use Rattle.std.proofs.Common.{◌≡◌, ◌≢◌, ℕ, zero, suc, ◌+◌, ◌-◌, ◌<◌, ◌≤◌, ◌⊎◌, inl, inr, ⊎_elim, ◌↔◌, Bool, true, false, cond, eqb, ltb, List, [], ◌∷◌, ◌++◌, length, get_or, refl, sym, ap, ◌∙◌, subst, arith, Some, None, Ok, Err, Option, Result}
use Rattle.std.specs.Prelude.{All, AllPairs, Contains, bytes_eq, option_map, IsTrue}
use Rattle.std.specs.Ordering.{nat_cmp}
use Rattle.std.specs.FinMap.{get, empty, get-empty}
use Rattle.std.proofs.lemmas.Bool.{cases_Bool, cases_order, cond_both, cond-true, cond-false, eqb-true, eqb-false, ne_eqb, both_ways, false_from_ne_true}
use Rattle.std.proofs.lemmas.List.{get_or_default}
use Rattle.std.proofs.lemmas.List.Elements.{All-nil, All-cons, All-head, All-tail, All-contains}
use Rattle.std.proofs.lemmas.List.Kept.{AllPairs-cons}
use Rattle.std.proofs.lemmas.Slice.Eq.{bytes_eq-Decides}
use Rattle.elf_image.specs.declared.TheConstants.{IMAGE_LIMIT, RAW_ADDRESS}
use Rattle.elf_image.specs.declared.fault.ImageFault.{ImageFault}
use Rattle.elf_image.specs.declared.segment.Segment.{Segment}
use Rattle.elf_image.specs.Fields.{has_magic, e_phnum}
use Rattle.elf_image.specs.Segments.{end, Covers, header_fault, segments_of, memory_of, with_bytes}
use Rattle.elf_image.specs.Overlaps.{shares, first_sharing, pair_or, least_overlap}
use Rattle.elf_image.specs.Symbols.{Symbol, name_in, value_of}
use Rattle.elf_image.specs.Image.{Image, IsSound, image_of, placed, unless_overlap, unless_fault, all_placed, memory_size, raw_image}
use Rattle.elf_image.specs.Laws.{AreApart, HaveCommon, HoldsFile, HoldsSegments, IsFirstValue, IsLeastPair}
use Rattle.elf_image.proofs.HeaderLemmas.{numbered}
use Rattle.elf_image.proofs.MemoryLemmas.{inside, before, behind}
use Rattle.elf_image.proofs.SegmentLemmas.{IsApart, byte_of, something, nothing, stored_byte, zero_byte}
use Rattle.elf_image.proofs.SweepLemmas.{share_address, address_share}

-- ---- overlaps

pub share_common : (s t : Segment) → IsTrue (shares s t) ↔ HaveCommon s t
share_common s t = (λ h. share_address s t h, λ c. address_share s t c.0 c.1 c.2)

pub touch_apart : (s t : Segment) → end s ≡ t.addr → ¬ HaveCommon s t
touch_apart s t e c = let a = c.1.1 in let b = c.2.0 in omega (arith, a, b, e)

apart_from : (s t : Segment) → shares s t ≡ false → ¬ HaveCommon s t
apart_from s t e c = both_ways (shares s t) e (address_share s t c.0 c.1 c.2)

abbrev FirstOk : Segment → List Segment → Option Segment → Type 0
FirstOk s ss None = All (λ (t : Segment). shares s t ≡ false) ss
FirstOk s ss (Some t) = (j : ℕ) × (j < length ss) × ((d : Segment) → get_or ss j d ≡ t) × (shares s t ≡ true) × ((k : ℕ) (d : Segment) → k < j → shares s (get_or ss k d) ≡ false)

none_yet : (s t : Segment) (ts : List Segment) (j : ℕ) → shares s t ≡ false → ((k : ℕ) (d : Segment) → k < j → shares s (get_or ts k d) ≡ false) → (k : ℕ) (d : Segment) → k < suc j → shares s (get_or (t ∷ ts) k d) ≡ false
none_yet s t ts j e h zero d l = e
none_yet s t ts j e h (suc k) d l = h k d (omega (arith, l))

later_first : (s t : Segment) (ts : List Segment) (o : Option Segment) → shares s t ≡ false → FirstOk s ts o → FirstOk s (t ∷ ts) o
later_first s t ts None e h = All-cons (λ (u : Segment). shares s u ≡ false) t ts e h
later_first s t ts (Some u) e h = (suc h.0, (let l = h.1 in omega (arith, l)), h.2, h.3, none_yet s t ts h.0 e h.4)

first_ok : (s : Segment) (ss : List Segment) → FirstOk s ss (first_sharing s ss)
first_ok s [] = All-nil (λ (t : Segment). shares s t ≡ false)
first_ok s (t ∷ ts) =
    cond_both (shares s t) (Some t) (first_sharing s ts) (FirstOk s (t ∷ ts))
    (λ b. (0, omega arith, λ d. refl, b, λ k d l. absurd (omega (arith, l))))
    (λ b. later_first s t ts (first_sharing s ts) b (first_ok s ts))

abbrev PairOk : List Segment → Option (Segment × Segment) → Type 0
PairOk ss None = AreApart ss
PairOk ss (Some p) = IsLeastPair ss p.0 p.1

-- the head is of the pair
head_least : (s t : Segment) (ss : List Segment) (second : ℕ) → ((k : ℕ) (d : Segment) → k < second → shares s (get_or ss k d) ≡ false) → (i j : ℕ) (d : Segment) → i < j → j < length (s ∷ ss) → HaveCommon (get_or (s ∷ ss) i d) (get_or (s ∷ ss) j d) → (0 < i) ⊎ ((0 ≡ i) × (suc second ≤ j))
head_least s t ss second h (suc i) j d l m c = inl (omega arith)
head_least s t ss second h zero zero d l m c = absurd (omega (arith, l))
head_least s t ss second h zero (suc j) d l m c =
    ⊎_elim (λ e. inr (refl, omega (arith, e)))
    (λ o. ⊎_elim (λ b. absurd (apart_from s (get_or ss j d) (h j d b) c)) (λ b. inr (refl, omega (arith, b))) o)
    (cases_order j second)

-- it is not
tail_least : (s : Segment) (ss : List Segment) (first second : ℕ) → All (λ (t : Segment). shares s t ≡ false) ss
    → ((i j : ℕ) (d : Segment) → i < j → j < length ss → HaveCommon (get_or ss i d) (get_or ss j d) → (first < i) ⊎ ((first ≡ i) × (second ≤ j)))
    → (i j : ℕ) (d : Segment) → i < j → j < length (s ∷ ss) → HaveCommon (get_or (s ∷ ss) i d) (get_or (s ∷ ss) j d) → (suc first < i) ⊎ ((suc first ≡ i) × (suc second ≤ j))
tail_least s ss first second none h zero zero d l m c = absurd (omega (arith, l))
tail_least s ss first second none h zero (suc j) d l m c = absurd (apart_from s (get_or ss j d) (none j d (omega (arith, m))) c)
tail_least s ss first second none h (suc i) zero d l m c = absurd (omega (arith, l))
tail_least s ss first second none h (suc i) (suc j) d l m c =
    ⊎_elim (λ e. inl (omega (arith, e))) (λ e. let a = e.0 in let b = e.1 in inr (omega (arith, a), omega (arith, b))) (h i j d (omega (arith, l)) (omega (arith, m)) c)

pair_cons : (s : Segment) (ss : List Segment) (o : Option Segment) (r : Option (Segment × Segment)) → FirstOk s ss o → PairOk ss r → PairOk (s ∷ ss) (pair_or s o r)
pair_cons s ss (Some t) r f h = record {
  first = 0;
  second = suc f.0;
  rise = omega arith;
  within = let l = f.1 in omega (arith, l);
  first_is = λ d. refl;
  second_is = f.2;
  common = share_address s t f.3;
  least = head_least s t ss f.0 f.4;
}
pair_cons s ss None (Some p) f h = record {
  first = suc h.first;
  second = suc h.second;
  rise = let l = h.rise in omega (arith, l);
  within = let l = h.within in omega (arith, l);
  first_is = h.first_is;
  second_is = h.second_is;
  common = h.common;
  least = tail_least s ss h.first h.second f h.least;
}
pair_cons s ss None None f h = AllPairs-cons (λ (x y : Segment). ¬ HaveCommon x y) s ss (λ k d l. apart_from s (get_or ss k d) (f k d l)) h

pair_ok : (ss : List Segment) → PairOk ss (least_overlap ss)
pair_ok [] = λ i j d l m. absurd (omega (arith, m))
pair_ok (s ∷ ss) = pair_cons s ss (first_sharing s ss) (least_overlap ss) (first_ok s ss) (pair_ok ss)

pub least_pair : (ss : List Segment) (s t : Segment) → least_overlap ss ≡ Some (s, t) → IsLeastPair ss s t
least_pair ss s t e = subst (PairOk ss) e (pair_ok ss)

pub no_pair : (ss : List Segment) → least_overlap ss ≡ None → AreApart ss
no_pair ss e = subst (PairOk ss) e (pair_ok ss)

-- ---- bytes

at_places : (ss : List Segment) (i j : ℕ) (s t : Segment) → AreApart ss → i < j → j < length ss → get_or ss i s ≡ s → get_or ss j t ≡ t → ¬ HaveCommon s t
at_places ss i j s t apart h m e f c =
    let e' = get_or_default ss j s t m ∙ f in
    apart i j s h m (subst (λ (x : Segment). HaveCommon x (get_or ss j s)) (sym e) (subst (λ (x : Segment). HaveCommon s x) (sym e') c))

one_each : (ss : List Segment) → AreApart ss → IsApart ss
one_each ss apart s t q a b c d =
    ⊎_elim (λ same. sym a.2 ∙ ap (λ (k : ℕ). get_or ss k s) same ∙ get_or_default ss b.0 s t b.1 ∙ b.2)
    (λ other. ⊎_elim
    (λ h. absurd (at_places ss a.0 b.0 s t apart h b.1 a.2 b.2 (q, c, d)))
    (λ h. absurd (at_places ss b.0 a.0 t s apart h a.1 b.2 a.2 (q, d, c)))
    other)
    (cases_order a.0 b.0)

holds_segments : (file : List ℕ) (ss : List Segment) → All (IsSound file) ss → AreApart ss → HoldsSegments file ss (memory_of file ss)
holds_segments file ss sound apart = record {
  stored = λ s k c l.
      let h = All-contains (IsSound file) ss s sound c in
      let e = h.enough in
      let is : s.addr + k - s.addr ≡ k = omega arith in
      something file ss s (s.addr + k) sound (one_each ss apart) c (omega arith, omega (arith, l, e))
      ∙ ap (λ (b : ℕ). Some b) (stored_byte file s (s.addr + k - s.addr) h (omega (arith, l)) ∙ ap (λ (i : ℕ). get_or file (s.offset + i) 0) is);
  zero_behind = λ s k c l m.
      let h = All-contains (IsSound file) ss s sound c in
      something file ss s (s.addr + k) sound (one_each ss apart) c (omega arith, omega (arith, m))
      ∙ ap (λ (b : ℕ). Some b) (zero_byte file s (s.addr + k - s.addr) h (omega (arith, l)) (omega (arith, m)));
  elsewhere = λ a none. nothing file ss a sound none;
}

abbrev pub ElfOk : List ℕ → Image → Type 0
ElfOk file i = (ss : List Segment) × (segments_of file ≡ Ok ss) × AreApart ss × HoldsSegments file ss i.memory

abbrev IfImage : (Image → Type 0) → Result Image ImageFault → Type 0
IfImage P (Ok i) = P i
IfImage P (Err f) = Unit {0}

of_pair : (file : List ℕ) (ss : List Segment) (o : Option (Segment × Segment)) → segments_of file ≡ Ok ss → least_overlap ss ≡ o → IfImage (ElfOk file) (unless_overlap file ss o)
of_pair file ss (Some p) is e = tt
of_pair file ss None is e = (ss, is, no_pair ss e, holds_segments file ss (numbered file 0 (e_phnum file) ss is).sound (no_pair ss e))

of_segments : (file : List ℕ) (r : Result (List Segment) ImageFault) → segments_of file ≡ r → IfImage (ElfOk file) (all_placed file r)
of_segments file (Err f) is = tt
of_segments file (Ok ss) is =
    cond_both (ltb IMAGE_LIMIT (memory_size ss)) _ _ (IfImage (ElfOk file)) (λ _. tt) (λ _. of_pair file ss (least_overlap ss) is refl)

of_header : (file : List ℕ) (o : Option ImageFault) → IfImage (ElfOk file) (unless_fault file o)
of_header file (Some f) = tt
of_header file None = of_segments file (segments_of file) refl

pub elf_bytes : (file : List ℕ) (i : Image) → image_of file ≡ Ok i → has_magic file ≡ true → ElfOk file i
elf_bytes file i e magic =
    subst (IfImage (ElfOk file)) e
    (cond_both (ltb IMAGE_LIMIT (length file)) _ _ (IfImage (ElfOk file)) (λ _. tt)
    (λ _. subst (IfImage (ElfOk file)) (sym (cond-true (has_magic file) (unless_fault file (header_fault file)) (Ok (raw_image file)) magic)) (of_header file (header_fault file))))

abbrev pub RawOk : List ℕ → Image → Type 0
RawOk file i = HoldsFile file i.memory × (i.symbols ≡ [])

raw_ok : (file : List ℕ) → RawOk file (raw_image file)
raw_ok file = (
  record {
    stored = λ k l.
        let is : RAW_ADDRESS + k - RAW_ADDRESS ≡ k = omega arith in
        inside empty RAW_ADDRESS (RAW_ADDRESS + k) file (omega arith) (omega (arith, l)) ∙ ap (λ (n : ℕ). Some (get_or file n 0)) is;
    before = λ a l. before empty RAW_ADDRESS a file l ∙ get-empty nat_cmp a;
    behind = λ a l. behind empty RAW_ADDRESS a file l ∙ get-empty nat_cmp a;
  },
  refl,
)

pub raw_bytes : (file : List ℕ) (i : Image) → image_of file ≡ Ok i → has_magic file ≡ false → RawOk file i
raw_bytes file i e magic =
    subst (IfImage (RawOk file)) e
    (cond_both (ltb IMAGE_LIMIT (length file)) _ _ (IfImage (RawOk file)) (λ _. tt)
    (λ _. subst (IfImage (RawOk file)) (sym (cond-false (has_magic file) (unless_fault file (header_fault file)) (Ok (raw_image file)) magic)) (raw_ok file)))

-- ---- first values

abbrev ValueOk : List ℕ → List Symbol → Option ℕ → Type 0
ValueOk name ss None = All (λ (s : Symbol). s.0 ≢ name) ss
ValueOk name ss (Some v) = IsFirstValue ss name v

not_before : (name : List ℕ) (s : Symbol) (ss : List Symbol) (place : ℕ) → s.0 ≢ name → ((k : ℕ) (d : Symbol) → k < place → (get_or ss k d).0 ≢ name) → (k : ℕ) (d : Symbol) → k < suc place → (get_or (s ∷ ss) k d).0 ≢ name
not_before name s ss place n h zero d l = n
not_before name s ss place n h (suc k) d l = h k d (omega (arith, l))

later_value : (name : List ℕ) (s : Symbol) (ss : List Symbol) (o : Option ℕ) → s.0 ≢ name → ValueOk name ss o → ValueOk name (s ∷ ss) o
later_value name s ss None n h = All-cons (λ (t : Symbol). t.0 ≢ name) s ss n h
later_value name s ss (Some v) n h = record {
  place = suc h.place;
  within = let l = h.within in omega (arith, l);
  is = h.is;
  none_before = not_before name s ss h.place n h.none_before;
}

value_ok : (name : List ℕ) (ss : List Symbol) → ValueOk name ss (value_of name ss)
value_ok name [] = All-nil (λ (t : Symbol). t.0 ≢ name)
value_ok name (s ∷ ss) =
    cond_both (bytes_eq name s.0) (Some s.1) (value_of name ss) (ValueOk name (s ∷ ss))
    (λ b.
    let e = (bytes_eq-Decides name s.0).0 b in
    record { place = 0; within = omega arith; is = λ d. ap (λ (n : List ℕ). (n, s.1)) (sym e); none_before = λ k d l. absurd (omega (arith, l)) })
    (λ b. later_value name s ss (value_of name ss) (λ e. both_ways (bytes_eq name s.0) b ((bytes_eq-Decides name s.0).1 (sym e))) (value_ok name ss))

same_first : (name : List ℕ) (ss : List Symbol) (v w : ℕ) → IsFirstValue ss name v → IsFirstValue ss name w → v ≡ w
same_first name ss v w a b =
    let d : Symbol = (name, v) in
    ⊎_elim (λ e. ap (λ (s : Symbol). s.1) (sym (a.is d) ∙ ap (λ (k : ℕ). get_or ss k d) e ∙ b.is d))
    (λ o. ⊎_elim (λ l. absurd (b.none_before a.place d l (ap (λ (s : Symbol). s.0) (a.is d)))) (λ l. absurd (a.none_before b.place d l (ap (λ (s : Symbol). s.0) (b.is d)))) o)
    (cases_order a.place b.place)

not_among : (name : List ℕ) (ss : List Symbol) (v : ℕ) → IsFirstValue ss name v → All (λ (s : Symbol). s.0 ≢ name) ss → ⊥
not_among name ss v a none = let d : Symbol = (name, v) in none a.place d a.within (ap (λ (s : Symbol). s.0) (a.is d))

from_first : (name : List ℕ) (ss : List Symbol) (v : ℕ) (o : Option ℕ) → ValueOk name ss o → IsFirstValue ss name v → o ≡ Some v
from_first name ss v None h a = absurd (not_among name ss v a h)
from_first name ss v (Some w) h a = ap (λ (n : ℕ). Some n) (same_first name ss w v h a)

from_none : (name : List ℕ) (ss : List Symbol) (o : Option ℕ) → ValueOk name ss o → All (λ (s : Symbol). s.0 ≢ name) ss → o ≡ None
from_none name ss None h a = refl
from_none name ss (Some w) h a = absurd (not_among name ss w h a)

pub first_value : (name : List ℕ) (ss : List Symbol) (v : ℕ) → (value_of name ss ≡ Some v) ↔ IsFirstValue ss name v
first_value name ss v = (λ e. subst (ValueOk name ss) e (value_ok name ss), λ a. from_first name ss v (value_of name ss) (value_ok name ss) a)

pub no_value : (name : List ℕ) (ss : List Symbol) → (value_of name ss ≡ None) ↔ All (λ (s : Symbol). s.0 ≢ name) ss
no_value name ss = (λ e. subst (ValueOk name ss) e (value_ok name ss), λ a. from_none name ss (value_of name ss) (value_ok name ss) a)

-- ---- names

abbrev IsWhole : List ℕ → Type 0
IsWhole name = All (λ b. b ≢ 0) name

abbrev NameOk : List ℕ → Option (List ℕ) → Type 0
NameOk bytes None = IsWhole bytes
NameOk bytes (Some name) = IsWhole name × ((rest : List ℕ) × (bytes ≡ name ++ 0 ∷ rest))

later_name : (b : ℕ) (bytes : List ℕ) (o : Option (List ℕ)) → b ≢ 0 → NameOk bytes o → NameOk (b ∷ bytes) (option_map (λ name. b ∷ name) o)
later_name b bytes None n h = All-cons (λ x. x ≢ 0) b bytes n h
later_name b bytes (Some name) n h = (All-cons (λ x. x ≢ 0) b name n h.0, (h.1.0, ap (λ (l : List ℕ). b ∷ l) h.1.1))

name_ok : (bytes : List ℕ) → NameOk bytes (name_in bytes)
name_ok [] = All-nil (λ x. x ≢ 0)
name_ok (b ∷ bytes) =
    cond_both (eqb b 0) (Some []) (option_map (λ name. b ∷ name) (name_in bytes)) (NameOk (b ∷ bytes))
    (λ z. (All-nil (λ x. x ≢ 0), (bytes, ap (λ (x : ℕ). x ∷ bytes) (eqb-true b 0 z))))
    (λ z. later_name b bytes (name_in bytes) (eqb-false b 0 z) (name_ok bytes))

found : (name rest : List ℕ) → IsWhole name → name_in (name ++ 0 ∷ rest) ≡ Some name
found [] rest h = refl
found (b ∷ name) rest h =
    cond-false (eqb b 0) (Some []) (option_map (λ (n : List ℕ). b ∷ n) (name_in (name ++ 0 ∷ rest))) (ne_eqb b 0 (All-head (λ x. x ≢ 0) b name h))
    ∙ ap (option_map (λ (n : List ℕ). b ∷ n)) (found name rest (All-tail (λ x. x ≢ 0) b name h))

not_found : (bytes : List ℕ) → IsWhole bytes → name_in bytes ≡ None
not_found [] h = refl
not_found (b ∷ bytes) h =
    cond-false (eqb b 0) (Some []) (option_map (λ (n : List ℕ). b ∷ n) (name_in bytes)) (ne_eqb b 0 (All-head (λ x. x ≢ 0) b bytes h))
    ∙ ap (option_map (λ (n : List ℕ). b ∷ n)) (not_found bytes (All-tail (λ x. x ≢ 0) b bytes h))

pub name_is : (bytes name : List ℕ) → (name_in bytes ≡ Some name) ↔ (IsWhole name × ((rest : List ℕ) × (bytes ≡ name ++ 0 ∷ rest)))
name_is bytes name = (λ e. subst (NameOk bytes) e (name_ok bytes), λ h. ap name_in h.1.1 ∙ found name h.1.0 h.0)

pub no_name : (bytes : List ℕ) → (name_in bytes ≡ None) ↔ IsWhole bytes
no_name bytes = (λ e. subst (NameOk bytes) e (name_ok bytes), not_found bytes)
