-- Program headers, read one after the other.
use Rattle.std.proofs.Common.{◌≡◌, ℕ, zero, suc, ◌+◌, ◌-◌, ◌*◌, ◌<◌, ◌≤◌, ◌^◌, Bool, true, false, not, ◌&&◌, ◌||◌, eqb, ltb, leb, List, [], ◌∷◌, ◌++◌, length, refl, sym, ap, ◌∙◌, subst, arith, append_assoc, Some, None, Ok, Err, Result, Option}
use Rattle.std.specs.Prelude.{All, AllPairs}
use Rattle.std.proofs.lemmas.List.{append-nil}
use Rattle.std.proofs.lemmas.List.Elements.{All-nil, All-cons, All-weaker}
use Rattle.std.proofs.lemmas.List.Kept.{AllPairs-cons}
use Rattle.std.proofs.lemmas.Bool.{cond_both, not-false, and_parts, or_parts, ltb-true, ltb-false, leb-true}
use Rattle.elf_image.specs.declared.fault.ImageFault.{ImageFault}
use Rattle.elf_image.specs.declared.fault.ImageFault.TheVariants as fault
use Rattle.elf_image.specs.declared.segment.Segment.{Segment}
use Rattle.elf_image.specs.Fields.{is_within, e_phoff, p_offset, p_vaddr, p_filesz, p_memsz, p_type}
use Rattle.elf_image.specs.Segments.{header_at, headers_from, joined, with_first, loads, is_out_of_range, segment_at, end}
use Rattle.elf_image.specs.Image.{IsSound, IsRefusal}

-- segments and those behind them
abbrev pub in_front : List Segment → Result (List Segment) ImageFault → Result (List Segment) ImageFault
in_front xs (Ok ys) = Ok (xs ++ ys)
in_front xs (Err f) = Err f

pub more : (file : List ℕ) (i n : ℕ) → i < n → headers_from file i (n - i) ≡ joined (header_at file i (e_phoff file + 56 * i)) (headers_from file (i + 1) (n - (i + 1)))
more file i n h = let e : n - i ≡ suc (n - (i + 1)) = omega arith in ap (headers_from file i) e

in_front_first : (xs : List Segment) (s : Segment) (r : Result (List Segment) ImageFault) → in_front xs (with_first (Some s) r) ≡ in_front (xs ++ s ∷ []) r
in_front_first xs s (Ok ys) = ap (λ (l : List Segment). Ok l) (sym (append_assoc xs (s ∷ []) ys))
in_front_first xs s (Err f) = refl

pub passed_over : (file : List ℕ) (xs : List Segment) (i n : ℕ) → i < n → header_at file i (e_phoff file + 56 * i) ≡ Ok None → in_front xs (headers_from file (i + 1) (n - (i + 1))) ≡ in_front xs (headers_from file i (n - i))
passed_over file xs i n h e = sym (ap (in_front xs) (more file i n h ∙ ap (λ (x : Result (Option Segment) ImageFault). joined x (headers_from file (i + 1) (n - (i + 1)))) e))

pub taken : (file : List ℕ) (xs : List Segment) (s : Segment) (i n : ℕ) → i < n → header_at file i (e_phoff file + 56 * i) ≡ Ok (Some s) → in_front (xs ++ s ∷ []) (headers_from file (i + 1) (n - (i + 1))) ≡ in_front xs (headers_from file i (n - i))
taken file xs s i n h e = sym (ap (in_front xs) (more file i n h ∙ ap (λ (x : Result (Option Segment) ImageFault). joined x (headers_from file (i + 1) (n - (i + 1)))) e) ∙ in_front_first xs s (headers_from file (i + 1) (n - (i + 1))))

pub refused : (file : List ℕ) (xs : List Segment) (f : ImageFault) (i n : ℕ) → i < n → header_at file i (e_phoff file + 56 * i) ≡ Err f → in_front xs (headers_from file i (n - i)) ≡ Err f
refused file xs f i n h e = ap (in_front xs) (more file i n h ∙ ap (λ (x : Result (Option Segment) ImageFault). joined x (headers_from file (i + 1) (n - (i + 1)))) e)

pub at_end : (file : List ℕ) (xs : List Segment) (i n : ℕ) → n ≤ i → in_front xs (headers_from file i (n - i)) ≡ Ok xs
at_end file xs i n h = let e : n - i ≡ 0 = omega arith in ap (λ (k : ℕ). in_front xs (headers_from file i k)) e ∙ ap (λ (l : List Segment). Ok l) (append-nil xs)

-- ---- what all segments have

-- segments that lie in the file, of rising numbers from i on
pub record AreNumbered (file : List ℕ) (i : ℕ) (ss : List Segment) : Type 0 where
  pub sound : All (IsSound file) ss
  pub from : All (λ (s : Segment). i ≤ s.number) ss
  pub rising : AllPairs (λ (s t : Segment). s.number < t.number) ss

abbrev OfHeader : List ℕ → ℕ → Result (Option Segment) ImageFault → Type 0
OfHeader file i (Ok (Some s)) = IsSound file s × (s.number ≡ i)
OfHeader file i (Ok None) = Unit {0}
OfHeader file i (Err f) = Unit {0}

abbrev OfHeaders : List ℕ → ℕ → Result (List Segment) ImageFault → Type 0
OfHeaders file i (Ok ss) = AreNumbered file i ss
OfHeaders file i (Err f) = Unit {0}

whole : (file : List ℕ) (i at : ℕ) → not (loads file at) ≡ false → is_out_of_range file at ≡ false → not (is_within file (p_offset file at) (p_filesz file at)) ≡ false → IsSound file (segment_at file i at)
whole file i at l r w =
    let load = and_parts (eqb (p_type file at) 1) (ltb 0 (p_memsz file at)) (not-false _ l) in
    let range = or_parts (ltb (p_memsz file at) (p_filesz file at)) (ltb (2 ^ 64) (p_vaddr file at + p_memsz file at)) r in
    record {
      some = ltb-true 0 (p_memsz file at) load.1;
      enough = ltb-false (p_memsz file at) (p_filesz file at) range.0;
      there = leb-true (p_offset file at + p_filesz file at) (length file) (not-false _ w);
      ends = ltb-false (2 ^ 64) (p_vaddr file at + p_memsz file at) range.1;
    }

of_header : (file : List ℕ) (i at : ℕ) → OfHeader file i (header_at file i at)
of_header file i at =
    cond_both (not (is_within file at 56)) _ _ (OfHeader file i) (λ _. tt) (λ _.
    cond_both (not (loads file at)) _ _ (OfHeader file i) (λ _. tt) (λ l.
    cond_both (is_out_of_range file at) _ _ (OfHeader file i) (λ _. tt) (λ r.
    cond_both (not (is_within file (p_offset file at) (p_filesz file at))) _ _ (OfHeader file i) (λ _. tt) (λ w. (whole file i at l r w, refl)))))

of_joined : (file : List ℕ) (i : ℕ) (h : Result (Option Segment) ImageFault) (r : Result (List Segment) ImageFault) → OfHeader file i h → OfHeaders file (i + 1) r → OfHeaders file i (joined h r)
of_joined file i (Err f) r a b = tt
of_joined file i (Ok None) (Err f) a b = tt
of_joined file i (Ok None) (Ok ss) a b = record { sound = b.sound; from = All-weaker (λ (s : Segment). i + 1 ≤ s.number) (λ (s : Segment). i ≤ s.number) (λ s h. omega (arith, h)) ss b.from; rising = b.rising }
of_joined file i (Ok (Some s)) (Err f) a b = tt
of_joined file i (Ok (Some s)) (Ok ss) a b = record {
  sound = All-cons (IsSound file) s ss a.0 b.sound;
  from = All-cons (λ (t : Segment). i ≤ t.number) s ss (omega (arith, a.1)) (All-weaker (λ (t : Segment). i + 1 ≤ t.number) (λ (t : Segment). i ≤ t.number) (λ t h. omega (arith, h)) ss b.from);
  rising = AllPairs-cons (λ (s t : Segment). s.number < t.number) s ss (All-weaker (λ (t : Segment). i + 1 ≤ t.number) (λ (t : Segment). s.number < t.number) (λ t h. let e = a.1 in omega (arith, h, e)) ss b.from) b.rising;
}

of_headers : (file : List ℕ) (i n : ℕ) → OfHeaders file i (headers_from file i n)
of_headers file i zero = record { sound = All-nil _; from = All-nil _; rising = λ k j d l m. absurd (omega (arith, m)) }
of_headers file i (suc n) = of_joined file i (header_at file i (e_phoff file + 56 * i)) (headers_from file (i + 1) n) (of_header file i (e_phoff file + 56 * i)) (of_headers file (i + 1) n)

pub numbered : (file : List ℕ) (i n : ℕ) (ss : List Segment) → headers_from file i n ≡ Ok ss → AreNumbered file i ss
numbered file i n ss e = subst (OfHeaders file i) e (of_headers file i n)
