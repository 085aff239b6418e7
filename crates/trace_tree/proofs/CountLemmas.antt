-- How many events and ends there are, whatever the numbers stand for.
use Rattle.std.proofs.Common.{◌≡◌, ◌≤◌, ◌+◌, ◌<◌, ℕ, zero, suc, get_or, drop, List, [], ◌∷◌, map, length, refl, ap, ◌∙◌, arith}
use Rattle.std.proofs.lemmas.List.{length-map}
use Rattle.std.proofs.Math.ListN.{drop_of_length-le}
use Rattle.std.proofs.Math.Seq.{drop-cons}
use Rattle.std.specs.Borrow.{Bor}
use Rattle.term_arena.specs.Nodes.{Node}
use Rattle.trace_plain.specs.Trace as plain
use Rattle.trace_plain.specs.Trace.{size, end_size, all_size}
use Rattle.trace_plain.specs.View.{traces}
use Rattle.trace_tree.specs.declared.trace.Trace.{Trace}
use Rattle.trace_tree.specs.declared.trace.End.{End, Done, Fail, Cases, Cases', Row_of-Trace, end_of-Trace, more_of-Trace}
use Rattle.trace_tree.specs.View.{event_in, end_in, row_in, plain_in}
use Rattle.trace_tree.proofs.ViewLemmas.{cases_in}

mutual
  same_end : (nodes : List Node) (end : End) → end_size (end_in nodes end) ≡ end_size (end_in [] end)
  same_end nodes Done = refl
  same_end nodes (Fail kind) = refl
  same_end nodes (Cases' p shape row) = ap suc (same_row nodes row)

  same_row : (nodes : List Node) {n : _} (row : Row_of-Trace n) → all_size (row_in nodes row) ≡ all_size (row_in [] row)
  same_row nodes end_of-Trace = refl
  same_row nodes (more_of-Trace events end rest) =
      let a = length-map events.now (event_in nodes) in
      let b = length-map events.now (event_in []) in
      let c = same_end nodes end in
      let d = same_row nodes rest in
      omega (arith, a, b, c, d)

-- a trace
pub same_size : (nodes : List Node) (t : Trace) → size (plain_in nodes t) ≡ size (plain_in [] t)
same_size nodes t =
    let a = length-map t.events.now (event_in nodes) in
    let b = length-map t.events.now (event_in []) in
    let c = same_end nodes t.end in
    omega (arith, a, b, c)

-- a trace, by its parts
pub size_of : (t : Trace) → size (plain_in [] t) ≡ length t.events.now + end_size (end_in [] t.end)
size_of t = ap (λ n. n + end_size (end_in [] t.end)) (length-map t.events.now (event_in []))

-- an end with children
pub cases_size : (b : Bor (List Trace)) → end_size (end_in [] (Cases b)) ≡ suc (all_size (traces (map (plain_in []) b.now)))
cases_size b = ap end_size (cases_in [] b)

one_end : (e : plain.End) → 1 ≤ end_size e
one_end plain.done = omega arith
one_end (plain.fail kind) = omega arith
one_end (plain.cases cs) = omega arith

pub size_at_least : (t : Trace) → length t.events.now + 1 ≤ size (plain_in [] t)
size_at_least t = omega (arith, size_of t, one_end (end_in [] t.end))

-- each trace has an end
pub length_sizes : (ts : List Trace) → length ts ≤ all_size (traces (map (plain_in []) ts))
length_sizes [] = omega arith
length_sizes (t ∷ ts) = omega (arith, length_sizes ts, one_end (end_in [] t.end))

sizes_step : (ts : List Trace) (i : ℕ) (d : Trace) → i < length ts
    → all_size (traces (map (plain_in []) (drop i ts))) ≡ size (plain_in [] (get_or ts i d)) + all_size (traces (map (plain_in []) (drop (i + 1) ts)))
sizes_step ts i d lt =
    let next : suc i ≡ i + 1 = omega arith in
    ap (λ l. all_size (traces (map (plain_in []) l))) (drop-cons ts i d lt)
    ∙ ap (λ k. size (plain_in [] (get_or ts i d)) + all_size (traces (map (plain_in []) (drop k ts)))) next

-- a trace more is counted
pub sizes_next : (ts : List Trace) (i : ℕ) (d : Trace) (total one whole : ℕ) → i < length ts → one ≡ size (plain_in [] (get_or ts i d))
    → total + all_size (traces (map (plain_in []) (drop i ts))) ≡ whole → total + one + all_size (traces (map (plain_in []) (drop (i + 1) ts))) ≡ whole
sizes_next ts i d total one whole lt e before = omega (arith, sizes_step ts i d lt, e, before)

-- all are counted
pub sizes_end : (ts : List Trace) (i : ℕ) → length ts ≤ i → all_size (traces (map (plain_in []) (drop i ts))) ≡ 0
sizes_end ts i le = ap (λ l. all_size (traces (map (plain_in []) l))) (drop_of_length-le ts le)

-- a trace among them has no more
pub size_within : (ts : List Trace) (i : ℕ) (d : Trace) → i < length ts → size (plain_in [] (get_or ts i d)) ≤ all_size (traces (map (plain_in []) ts))
size_within [] i d lt = absurd (omega (arith, lt))
size_within (t ∷ ts) zero d lt = omega arith
size_within (t ∷ ts) (suc i) d lt =
    let under : i < length ts = omega (arith, lt) in
    omega (arith, size_within ts i d under)
