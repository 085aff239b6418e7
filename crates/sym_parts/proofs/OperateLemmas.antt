-- An operator on terms that stand in a list of nodes.
use Rattle.std.proofs.Common.{◌≡◌, Bool, true, false, not, ◌&&◌, if◌then◌else◌, List, [], ◌∷◌, map, refl, ap, sym, ◌∙◌, subst}
use Rattle.std.specs.Prelude.{Ok, Err, All, is_some}
use Rattle.std.specs.List.{list_all}
use Rattle.bv_bits.specs.declared.Op.{Op}
use Rattle.bv_bits.specs.Bits.{result_width_of}
use Rattle.term_tree.specs.Terms.{Tree, IsTyped, applied, width_of}
use Rattle.term_tree.specs.Divisions.{is_division}
use Rattle.term_rules.specs.Rules.{is_literal}
use Rattle.term_arena.specs.declared.node.TermId.{TermId}
use Rattle.term_arena.specs.Nodes.{Node, Keeps}
use Rattle.term_arena.specs.Answers.{id_term}
use Rattle.term_arena.specs.Said.{Answers, Refuses, says, said_just, said_then}
use Rattle.term_arena.specs.Makes.{MakesWith}
use Rattle.std.proofs.lemmas.List.Elements.{All-head, All-tail}
use Rattle.term_arena.proofs.MeaningLemmas.{keeps_trans}
use Rattle.term_arena.proofs.MakesLemmas.{low_none, makes_here, makes_as, makes_stop, reaches_start, reaches_step, reaches_done}
use Rattle.term_arena.proofs.StayLemmas.{term_stays}
use Rattle.trace_plain.specs.declared.trace.FailKind.TheVariants as failure
use Rattle.sym_rules.specs.Values.{SymValue, sym_unit, sym_bits}
use Rattle.sym_rules.specs.Trees.{Telling, making}
use Rattle.sym_rules.specs.Operators.{is_unsupported, operated, operate_terms}
use Rattle.sym_parts.specs.declared.faults.StepFault.{StepFault}
use Rattle.sym_parts.specs.declared.faults.StepFault.TheVariants as fault
use Rattle.sym_parts.specs.declared.values.SymValue.TheVariants as value
use Rattle.sym_parts.specs.Causes.{step_cause}
use Rattle.sym_parts.specs.Views.{value_in}

-- ---- terms that stand stay

list_of : Tree → List Tree → List Tree
list_of t ts = t ∷ ts

both_stay : (t u : Tree) (ts us : List Tree) → t ≡ u → ts ≡ us → list_of t ts ≡ list_of u us
unfolding list_of
both_stay t u ts us e f = cc

pub terms_stay : (old new : List Node) → Keeps old new → (ids : List TermId) → All (λ id. IsTyped (id_term old id)) ids → map (id_term new) ids ≡ map (id_term old) ids
unfolding list_of
terms_stay old new k [] h = refl
terms_stay old new k (id ∷ ids) h =
    both_stay (id_term new id) (id_term old id) (map (id_term new) ids) (map (id_term old) ids) (term_stays old new k id (All-head (λ i. IsTyped (id_term old i)) id ids h))
    (terms_stay old new k ids (All-tail (λ i. IsTyped (id_term old i)) id ids h))

-- ---- the definition by its tests

operated_by : Bool → Op → List Tree → Telling SymValue
operated_by u o ts = if u then says (Refuses failure.Unsupported) else said_then (making (applied o ts)) (λ t. said_just (sym_bits t))

by_tests : Bool → Bool → Op → List Tree → Telling SymValue
by_tests w u o ts = if w then operated_by u o ts else said_just sym_unit

module _ (old : List Node) (op : Op) (args : List TermId) (typed : All (λ id. IsTyped (id_term old id)) args) where
  here : List Tree
  here = map (id_term old) args

  -- the tests are the same over every list that keeps the old one
  tested : (w u : Bool) → w ≡ is_some (result_width_of op (map width_of (map (id_term old) args))) → u ≡ is_unsupported op (map (id_term old) args)
      → (last : List Node) → Keeps old last → by_tests w u op (map (id_term last) args) ≡ operate_terms op (map (id_term last) args)
  unfolding by_tests operated_by
  tested w u hw hu last k =
      let e = terms_stay old last k args typed in
      let wide : w ≡ is_some (result_width_of op (map width_of (map (id_term last) args))) = hw ∙ ap (λ ts. is_some (result_width_of op (map width_of ts))) (sym e) in
      let division : u ≡ is_unsupported op (map (id_term last) args) = hu ∙ ap (is_unsupported op) (sym e) in
      subst (λ b. by_tests b u op (map (id_term last) args) ≡ operate_terms op (map (id_term last) args)) (sym wide)
      (subst (λ b. by_tests (is_some (result_width_of op (map width_of (map (id_term last) args)))) b op (map (id_term last) args) ≡ operate_terms op (map (id_term last) args)) (sym division) refl)

  pub has_no_width : false ≡ is_some (result_width_of op (map width_of (map (id_term old) args))) → MakesWith step_cause old old value_in (Ok value.Unit) (λ last. operate_terms op (map (id_term last) args))
  unfolding by_tests
  has_no_width h =
      makes_as (makes_here old value_in (Ok value.Unit) (λ last. by_tests false (is_unsupported op (map (id_term old) args)) op (map (id_term last) args)) (λ last k. (refl, low_none)))
      (tested false (is_unsupported op (map (id_term old) args)) h refl)

  pub is_refused : true ≡ is_some (result_width_of op (map width_of (map (id_term old) args))) → true ≡ is_unsupported op (map (id_term old) args)
      → MakesWith step_cause old old value_in (Err (fault.Fails failure.Unsupported)) (λ last. operate_terms op (map (id_term last) args))
  unfolding by_tests operated_by
  is_refused h u =
      makes_as (makes_here old value_in (Err (fault.Fails failure.Unsupported)) (λ last. by_tests true true op (map (id_term last) args)) (λ last k. (refl, low_none)))
      (tested true true h u)

  module _ (wide : true ≡ is_some (result_width_of op (map width_of (map (id_term old) args)))) (can : false ≡ is_unsupported op (map (id_term old) args)) where
    pub is_made : (new : List Node) (id : TermId) → MakesWith step_cause old new id_term (Ok id) (λ last. making (applied op (map (id_term last) args)))
        → MakesWith step_cause old new value_in (Ok (value.Bits id)) (λ last. operate_terms op (map (id_term last) args))
    unfolding by_tests operated_by
    is_made new id m =
        makes_as (reaches_done (reaches_step (λ last t. said_just (sym_bits t)) reaches_start m)) (λ last k. tested true false wide can last (keeps_trans old new last m.kept k))

    pub is_stopped : (new : List Node) (f : StepFault) → MakesWith step_cause old new id_term (Err f) (λ last. making (applied op (map (id_term last) args)))
        → MakesWith step_cause old new value_in (Err f) (λ last. operate_terms op (map (id_term last) args))
    unfolding by_tests operated_by
    is_stopped new f m = makes_as (makes_stop (λ last t. said_just (sym_bits t)) m) (λ last k. tested true false wide can last (keeps_trans old new last m.kept k))
