-- A node that is added, as a step of a definition.
use Rattle.std.proofs.Common.{◌≡◌, ℕ, ◌<◌, ◌≤◌, List, [], ◌∷◌, ◌++◌, length, Some, ◌⊎◌, refl, ap, sym, ◌∙◌, subst, arith}
use Rattle.std.specs.Prelude.{Ok, Err, slice_get}
use Rattle.std.proofs.lemmas.Option.{slice_get_within}
use Rattle.term_tree.specs.declared.term.TermFault.{TermFault}
use Rattle.term_tree.specs.declared.term.TermFault.TheVariants as fault
use Rattle.term_tree.specs.Terms.{HIGHEST}
use Rattle.term_arena.specs.Nodes.{Node, Meaning, meaning_by, meanings_of, meaning_at, Keeps}
use Rattle.term_arena.specs.declared.keeping.TheConstants.{LIMIT}
use Rattle.term_arena.specs.Arena.{IsArena, IsTypedMeaning, height_in}
use Rattle.term_arena.specs.Keeping.{IsIn}
use Rattle.term_arena.specs.Built.{AddsOnly}
use Rattle.term_arena.specs.Said.{Answers, sole}
use Rattle.term_arena.specs.Makes.{Makes}
use Rattle.term_arena.proofs.MeaningLemmas.{keeps_trans, meaning_by-more, meanings_of-length}
use Rattle.term_arena.proofs.BuiltLemmas.{adds_node, full_node}
use Rattle.term_arena.proofs.MakesLemmas.{low_one}
use Rattle.std.proofs.lemmas.List.Elements.{Contains-push}

-- a typed node stands for the same as the list grows
pub node_stays : (old last : List Node) (n : Node) → IsTypedMeaning (meaning_by (meanings_of old) n) → Keeps old last → meaning_by (meanings_of last) n ≡ meaning_by (meanings_of old) n
node_stays old last n typed k =
    meaning_by-more (meanings_of old) (meanings_of last) n
    (λ j lt.
    let l : j < length old = omega (arith, lt, meanings_of-length old) in
    k.same j l) typed

module _ (old new : List Node) (n : Node) (typed : IsTypedMeaning (meaning_by (meanings_of old) n)) (kept : Keeps old new) (added : (new ≡ old) ⊎ (new ≡ old ++ n ∷ [])) {T A : Type 0} (view : List Node → T → A) (f : Meaning → A) where
  same : (last : List Node) → Keeps new last → meaning_by (meanings_of last) n ≡ meaning_by (meanings_of old) n
  same last k = node_stays old last n typed (keeps_trans old new last kept k)

  adds : (last : List Node) → Keeps new last → AddsOnly old new (meaning_by (meanings_of last) n ∷ [])
  adds last k = adds_node old new n (meaning_by (meanings_of last) n) (sym (same last k)) added

  -- its number
  pub added_ok : (x : T) (i : ℕ) → ((last : List Node) → view last x ≡ f (meaning_at last i)) → slice_get new i ≡ Some n → meaning_at new i ≡ meaning_by (meanings_of old) n → height_in (meaning_by (meanings_of old) n) ≤ HIGHEST
      → Makes old new view (Ok x) (λ last. sole f (meaning_by (meanings_of last) n))
  added_ok x i show here means low = record {
    kept = kept;
    adds = adds;
    tells = λ last k.
        let e : meaning_by (meanings_of last) n ≡ meaning_at last i = same last k ∙ sym means ∙ sym (k.same i (slice_get_within new i n here)) in
        (ap Answers (ap f e ∙ sym (show last)), low_one (meaning_by (meanings_of last) n) (subst (λ (m : Meaning). height_in m ≤ HIGHEST) (sym (same last k)) low));
  }

  -- a refusal
  pub added_err : (e : TermFault) → IsArena old → new ≡ old → (e ≡ fault.TooManyTerms → (length old ≡ LIMIT) × (IsIn n old → ⊥)) → (e ≡ fault.TermTooHigh → HIGHEST < height_in (meaning_by (meanings_of old) n))
      → Makes old new view (Err e) (λ last. sole f (meaning_by (meanings_of last) n))
  added_err fault.TooManyTerms ok stays full high = record {
    kept = kept;
    adds = adds;
    tells = λ last k. full_node old new n (meaning_by (meanings_of last) n) ok (sym (same last k)) (subst IsTypedMeaning (sym (same last k)) typed) stays (full refl);
  }
  added_err fault.TermTooHigh ok stays full high = record {
    kept = kept;
    adds = adds;
    tells = λ last k.
        record {
          high = meaning_by (meanings_of last) n;
          wants = Contains-push [] (meaning_by (meanings_of last) n);
          above = subst (λ (m : Meaning). HIGHEST < height_in m) (sym (same last k)) (high refl);
        };
  }
  added_err fault.NoMemory ok stays full high = record { kept = kept; adds = adds; tells = λ last k. tt }
