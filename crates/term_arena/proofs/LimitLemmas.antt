-- Where there is no room, there are more terms than there may be.
use Rattle.std.proofs.Common.{◌≡◌, ℕ, zero, suc, ◌<◌, List, ◌∷◌, ◌++◌, length, inl, inr, refl, ap, sym, ◌∙◌, subst, arith}
use Rattle.std.specs.Prelude.{Contains, slice_index_or}
use Rattle.std.proofs.lemmas.Bool.{cases_lt}
use Rattle.std.proofs.lemmas.List.Elements.{Contains-append_left, Contains-append_right, Contains-get_or, All-from_get_or, All-cons}
use Rattle.term_tree.specs.Terms.{blank, IsTyped, IsTypedArray}
use Rattle.term_arena.specs.Nodes.{Node, Meaning, of_term, of_array, as_term, as_array, meanings_of, meaning_at, Keeps}
use Rattle.term_arena.specs.declared.keeping.TheConstants.{LIMIT}
use Rattle.term_arena.specs.Arena.{IsArena, IsTypedMeaning}
use Rattle.term_arena.specs.Keeping.{EqualTermsAreOne, EqualArraysAreOne}
use Rattle.term_arena.specs.Built.{AddsOnly, IsFull}
use Rattle.term_arena.proofs.MeaningLemmas.{meanings_of-length, fine_typed}
use Rattle.term_arena.specs.Limits.{Exceeds}

module _ (old new : List Node) (work : List Meaning) (arena : IsArena new) (terms : EqualTermsAreOne new) (arrays : EqualArraysAreOne new) (kept : Keeps old new) (adds : AddsOnly old new work) (full : IsFull new work) where
  long : length (meanings_of new) ≡ LIMIT
  long = meanings_of-length new ∙ full.full

  -- two places have one meaning only where they are one
  same_at : (m n : Meaning) (i j : ℕ) → meaning_at new i ≡ m → meaning_at new j ≡ n → IsTypedMeaning m → m ≡ n → i ≡ j
  same_at (of_term t) n i j e f typed s =
      terms i j (subst IsTyped (sym (ap as_term e)) typed) (ap as_term (e ∙ s ∙ sym f))
  same_at (of_array a) n i j e f typed s =
      arrays i j (subst IsTypedArray (sym (ap as_array e)) typed) (ap as_array (e ∙ s ∙ sym f))

  typed_at : (i : ℕ) → i < length (meanings_of new) → IsTypedMeaning (meaning_at new i)
  typed_at i h = fine_typed (meaning_at new i) (arena.fine i (of_term blank) h)

  -- what stands at a place is an old term, or one of the work
  place_at : (i : ℕ) → i < length (meanings_of new) → Contains (meanings_of old ++ work) (meaning_at new i)
  place_at i h =
      elim (cases_lt i (length old)) [
        | inl l ↦
            subst (Contains (meanings_of old ++ work)) (sym (kept.same i l))
            (Contains-append_left (meanings_of old) work (meaning_at old i) (Contains-get_or (meanings_of old) i (of_term blank) (let n = meanings_of-length old in omega arith)))
        | inr n ↦ Contains-append_right (meanings_of old) work (meaning_at new i) (adds i n (let l = meanings_of-length new in omega arith))
      ]

  -- the one that has no node, and those that have one
  apart : (i j : ℕ) → i < j → j < length (full.lacking ∷ meanings_of new) → slice_index_or (full.lacking ∷ meanings_of new) i (of_term blank) ≡ slice_index_or (full.lacking ∷ meanings_of new) j (of_term blank) → ⊥
  apart i zero l h e = absurd (let z : ⊥ = omega arith in z)
  apart zero (suc j) l h e = full.lacks j (let n = meanings_of-length new in omega arith) (sym e)
  apart (suc i) (suc j) l h e =
      let same : i ≡ j = same_at (meaning_at new i) (meaning_at new j) i j refl refl (typed_at i (omega arith)) e in
      (let z : ⊥ = omega arith in z)

  pub exceeds : Exceeds old work
  exceeds = record {
    members = full.lacking ∷ meanings_of new;
    many = let l = long in omega arith;
    once = apart;
    each =
        All-cons (Contains (meanings_of old ++ work)) full.lacking (meanings_of new) (Contains-append_right (meanings_of old) work full.lacking full.wants)
        (All-from_get_or (Contains (meanings_of old ++ work)) (meanings_of new) (of_term blank) place_at);
  }
