-- Traces of typed terms stay, as the list of nodes grows, and have no term that is too high.
use Rattle.std.proofs.Common.{◌≡◌, List, [], ◌∷◌, map, refl, ap, ◌∙◌}
use Rattle.term_tree.specs.Terms.{IsTyped, IsTerm}
use Rattle.term_arena.specs.declared.node.TermId.{TermId}
use Rattle.term_arena.specs.Nodes.{Node, Keeps, as_term}
use Rattle.term_arena.specs.Answers.{id_term}
use Rattle.term_arena.specs.Arena.{IsArena}
use Rattle.term_arena.proofs.MeaningLemmas.{term_within}
use Rattle.term_arena.proofs.StayLemmas.{term_fine}
use Rattle.trace_plain.specs.Trace as plain
use Rattle.trace_plain.specs.Terms.{OfEvent, OfEvents, OfTrace, OfEnd, OfTraces}
use Rattle.trace_tree.specs.declared.trace.Event.{Event}
use Rattle.trace_tree.specs.declared.trace.Event.TheVariants as event
use Rattle.trace_tree.specs.declared.trace.Trace.{Trace}
use Rattle.trace_tree.specs.declared.trace.End.{End, Done, Fail, Cases', Row_of-Trace, end_of-Trace, more_of-Trace}
use Rattle.trace_tree.specs.View.{event_in, end_in, row_in, plain_in}

module _ (old new : List Node) (k : Keeps old new) where
  term_stays : (id : TermId) → IsTyped (id_term old id) → id_term new id ≡ id_term old id
  term_stays id h = ap as_term (k.same id.number (term_within old id.number h))

  event_stays : (e : Event) → OfEvent IsTyped (event_in old e) → event_in new e ≡ event_in old e
  event_stays (event.ReadReg r var) h = refl
  event_stays (event.WriteReg r t) h = ap (plain.write_reg r) (term_stays t h)
  event_stays (event.ReadMem var at n) h = ap (λ x. plain.read_mem var x n) (term_stays at h)
  event_stays (event.WriteMem at t n) h =
      ap (λ x. plain.write_mem x (id_term new t) n) (term_stays at h.0) ∙ ap (λ x. plain.write_mem (id_term old at) x n) (term_stays t h.1)
  event_stays (event.Assume t) h = ap plain.assume (term_stays t h)
  event_stays (event.Need t) h = ap plain.need (term_stays t h)
  event_stays (event.AssumeReg r value) h = refl

  events_stay : (es : List Event) → OfEvents IsTyped (map (event_in old) es) → map (event_in new) es ≡ map (event_in old) es
  events_stay [] h = refl
  events_stay (e ∷ es) h = ap (λ x. x ∷ map (event_in new) es) (event_stays e h.0) ∙ ap (λ xs. event_in old e ∷ xs) (events_stay es h.1)

  mutual
    end_stays : (end : End) → OfEnd IsTyped (end_in old end) → end_in new end ≡ end_in old end
    end_stays Done h = refl
    end_stays (Fail kind) h = refl
    end_stays (Cases' p shape row) h = ap plain.cases (row_stays row h)

    row_stays : {n : _} (row : Row_of-Trace n) → OfTraces IsTyped (row_in old row) → row_in new row ≡ row_in old row
    row_stays end_of-Trace h = refl
    row_stays (more_of-Trace events end rest) h =
        let e = events_stay events.now h.0.0 in
        let f = end_stays end h.0.1 in
        let r = row_stays rest h.1 in
        λ i. plain.some (plain.trace (e i) (f i)) (r i)

  pub trace_stays : (t : Trace) → OfTrace IsTyped (plain_in old t) → plain_in new t ≡ plain_in old t
  trace_stays t h =
      let e = events_stay t.events.now h.0 in
      let f = end_stays t.end h.1 in
      λ i. plain.trace (e i) (f i)

-- what numbers stand for may stand in a trace
module _ (nodes : List Node) (ok : IsArena nodes) where
  event_fine : (e : Event) → OfEvent IsTyped (event_in nodes e) → OfEvent IsTerm (event_in nodes e)
  event_fine (event.ReadReg r var) h = tt
  event_fine (event.WriteReg r t) h = term_fine nodes t.number ok h
  event_fine (event.ReadMem var at n) h = term_fine nodes at.number ok h
  event_fine (event.WriteMem at t n) h = (term_fine nodes at.number ok h.0, term_fine nodes t.number ok h.1)
  event_fine (event.Assume t) h = term_fine nodes t.number ok h
  event_fine (event.Need t) h = term_fine nodes t.number ok h
  event_fine (event.AssumeReg r value) h = tt

  events_fine : (es : List Event) → OfEvents IsTyped (map (event_in nodes) es) → OfEvents IsTerm (map (event_in nodes) es)
  events_fine [] h = tt
  events_fine (e ∷ es) h = (event_fine e h.0, events_fine es h.1)

  mutual
    end_fine : (end : End) → OfEnd IsTyped (end_in nodes end) → OfEnd IsTerm (end_in nodes end)
    end_fine Done h = tt
    end_fine (Fail kind) h = tt
    end_fine (Cases' p shape row) h = row_fine row h

    row_fine : {n : _} (row : Row_of-Trace n) → OfTraces IsTyped (row_in nodes row) → OfTraces IsTerm (row_in nodes row)
    row_fine end_of-Trace h = tt
    row_fine (more_of-Trace events end rest) h = ((events_fine events.now h.0.0, end_fine end h.0.1), row_fine rest h.1)

  pub trace_fine : (t : Trace) → OfTrace IsTyped (plain_in nodes t) → OfTrace IsTerm (plain_in nodes t)
  trace_fine t h = (events_fine t.events.now h.0, end_fine t.end h.1)
