-- What the calls that select a byte owe the calls that they make, and what they answer.
use Rattle.std.proofs.Common.{◌≡◌, List, [], ◌∷◌, Some, refl, ap, sym, subst}
use Rattle.std.specs.Prelude.{Result, IfOk}
use Rattle.bv_bits.specs.declared.Op.{Op}
use Rattle.bv_bits.specs.declared.Op.TheVariants.{Eq, ULt, Ite}
use Rattle.bv_bits.specs.Bits.{result_width_of}
use Rattle.term_tree.specs.declared.term.TermFault.{TermFault}
use Rattle.term_tree.specs.Terms.{Text, Tree, two, three, sel, ArrayTree, array, upd, splice, IsTyped, IsTypedArray, IsIndex, width_of}
use Rattle.term_make.specs.Making.{make}
use Rattle.term_select.specs.Selecting.{select}
use Rattle.term_select.proofs.SelectingLemmas.{choice_typed, select_typed}
use Rattle.term_arena.specs.declared.node.TermId.{TermId}
use Rattle.term_arena.specs.declared.node.ArrayId.{ArrayId}
use Rattle.term_arena.specs.Nodes.{Node, of_term, Keeps}
use Rattle.term_arena.specs.Arena.{IsArena}
use Rattle.term_arena.specs.Answers.{id_term, id_array}
use Rattle.term_arena.specs.Said.{Said, said_of, said_then, single}
use Rattle.term_arena.specs.Makes.{AreLow, Makes}
use Rattle.term_arena.proofs.MeaningLemmas.{keeps_trans}
use Rattle.term_arena.proofs.CoverLemmas.{covers_two, covers_three, makes_more}
use Rattle.arena_make.proofs.RightLemmas.{covers_plain}
use Rattle.term_arena.proofs.StayLemmas.{term_stays, array_stays, one_low}
use Rattle.term_arena.proofs.AnswerLemmas.{makes_has}
use Rattle.term_arena.proofs.MakesLemmas.{makes_as}

-- ---- choices

-- what is selected is a typed byte
selected : (f : ArrayTree) (i o : Tree) → IsTypedArray f → IsIndex i → (select f i).it ≡ o → IsTyped o × (width_of o ≡ 8)
selected f i o hf hi e = subst (λ (t : Tree). IsTyped t × (width_of t ≡ 8)) e (select_typed f i hf hi)

-- a choice between two bytes
choice : (op : Op) (i j x y s : Tree) → result_width_of op (64 ∷ 64 ∷ []) ≡ Some 1 → IsIndex i → IsIndex j → IsTyped x × (width_of x ≡ 8) → IsTyped y × (width_of y ≡ 8) → (make (two op i j)).it ≡ s → IsTyped (three Ite s x y)
choice op i j x y s e hi hj hx hy m =
    subst (λ (t : Tree). IsTyped (three Ite t x y)) m (choice_typed op i j x y e hi hj hx.0 hy.0 hx.1 hy.1).0

pub upd_owed : (f : ArrayTree) (j e i s o : Tree) → (make (two Eq i j)).it ≡ s → (select f i).it ≡ o → IsTypedArray (upd f j e) → IsIndex i → IsTyped (three Ite s e o)
upd_owed f j e i s o made rest h hi = choice Eq i j e o s refl hi h.1 (h.2.1, h.2.0) (selected f i o h.0 hi rest) made

pub splice_owed : (f g : ArrayTree) (j i s x o : Tree) → (make (two ULt i j)).it ≡ s → (select g i).it ≡ x → (select f i).it ≡ o → IsTypedArray (splice f g j) → IsIndex i → IsTyped (three Ite s x o)
splice_owed f g j i s x o made low rest h hi = choice ULt i j x o s refl hi h.2 (selected g i x h.1 hi low) (selected f i o h.0 hi rest) made

-- ---- definitions, step by step

abbrev pub upd_steps : ArrayTree → Tree → Tree → Tree → Said ⊥ Tree
upd_steps f j e i = said_then (said_of (make (two Eq i j))) (λ same. said_then (said_of (select f i)) (λ other. said_of (make (three Ite same e other))))

abbrev pub splice_steps : ArrayTree → ArrayTree → Tree → Tree → Said ⊥ Tree
splice_steps f g j i =
    said_then (said_of (make (two ULt i j))) (λ low. said_then (said_of (select g i)) (λ one. said_then (said_of (select f i)) (λ other. said_of (make (three Ite low one other)))))

module _ (old new : List Node) (r : Result TermId TermFault) (f : ArrayId) (j e i : TermId) where
  pub upd_makes : Makes old new id_term r (λ last. upd_steps (id_array last f) (id_term last j) (id_term last e) (id_term last i)) → Makes old new id_term r (λ last. said_of (select (upd (id_array last f) (id_term last j) (id_term last e)) (id_term last i)))
  upd_makes m =
      makes_more m
      (λ last k. covers_two (make (two Eq (id_term last i) (id_term last j))) (λ same. select (id_array last f) (id_term last i)) (λ same other. make (three Ite same (id_term last e) other)))

module _ (old new : List Node) (r : Result TermId TermFault) (f g : ArrayId) (j i : TermId) where
  pub splice_makes : Makes old new id_term r (λ last. splice_steps (id_array last f) (id_array last g) (id_term last j) (id_term last i)) → Makes old new id_term r (λ last. said_of (select (splice (id_array last f) (id_array last g) (id_term last j)) (id_term last i)))
  splice_makes m =
      makes_more m
      (λ last k. covers_three (make (two ULt (id_term last i) (id_term last j))) (λ low. select (id_array last g) (id_term last i)) (λ low one. select (id_array last f) (id_term last i)) (λ low one other. make (three Ite low one other)))

-- ---- the array term of a number

module _ (old new : List Node) (kept : Keeps old new) (r : Result TermId TermFault) (of : ArrayId) (at : TermId) where
  -- of an array variable
  pub variable_makes : IsArena old → IsTyped (id_term old at) → (x : Text) → ((last : List Node) → Keeps old last → id_array last of ≡ array x) → Makes old new id_term r (λ last. single (sel x (id_term last at))) → Makes old new id_term r (λ last. said_of (select (id_array last of) (id_term last at)))
  variable_makes ok typed x is m =
      makes_as
      (makes_more m
      (λ last k.
      covers_plain (sel x (id_term last at)) (subst (λ (t : Tree). AreLow (of_term t ∷ [])) (sym (term_stays old last (keeps_trans old new last kept k) at typed)) (one_low old at ok typed))))
      (λ last k. ap (λ (f : ArrayTree). let s : Said ⊥ Tree = said_of (select f (id_term last at)) in s) (sym (is last (keeps_trans old new last kept k))))

  -- of another one
  pub select_as : (f : List Node → ArrayTree) → ((last : List Node) → Keeps old last → id_array last of ≡ f last) → Makes old new id_term r (λ last. said_of (select (f last) (id_term last at))) → Makes old new id_term r (λ last. said_of (select (id_array last of) (id_term last at)))
  select_as f is m =
      makes_as m (λ last k. ap (λ (g : ArrayTree). let s : Said ⊥ Tree = said_of (select g (id_term last at)) in s) (sym (is last (keeps_trans old new last kept k))))

  -- it is a byte
  pub select_wide : IsTypedArray (id_array old of) → IsIndex (id_term old at) → Makes old new id_term r (λ last. said_of (select (id_array last of) (id_term last at))) → IfOk r (λ id. width_of (id_term new id) ≡ 8)
  select_wide h i m =
      makes_has (λ (t : Tree). width_of t ≡ 8) old new id_term r (λ last. select (id_array last of) (id_term last at)) m
      (select_typed (id_array new of) (id_term new at) (subst IsTypedArray (sym (array_stays old new kept of h)) h) (subst IsIndex (sym (term_stays old new kept at i.1)) i)).1
