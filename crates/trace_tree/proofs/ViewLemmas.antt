-- The children of an end as a slice, and as plain traces.
use Rattle.std.proofs.Common.{◌≡◌, ℕ, zero, suc, List, [], ◌∷◌, map, option_map, refl, ap, ◌∙◌}
use Rattle.std.specs.Prelude.{slice_get}
use Rattle.std.specs.Borrow.{Bor}
use Rattle.term_arena.specs.Nodes.{Node}
use Rattle.trace_plain.specs.Trace as plain
use Rattle.trace_plain.specs.View.{traces}
use Rattle.trace_tree.specs.declared.trace.Trace.{Trace}
use Rattle.trace_tree.specs.declared.trace.End.{End, Cases}
use Rattle.trace_tree.specs.Paths.{child, child_of}
use Rattle.trace_tree.specs.View.{event_in, end_in, plain_in}

-- the children of a plain end
children_of : plain.End → plain.Traces
children_of plain.done = plain.none
children_of (plain.fail kind) = plain.none
children_of (plain.cases ts) = ts

cases_at : (nodes : List Node) (b : Bor (List Trace)) (ts : List Trace) → end_in nodes (Cases (record b { now = ts })) ≡ plain.cases (traces (map (plain_in nodes) ts))
unfolding Rattle.trace_tree.specs.declared.trace.End.TheBlock.hidden-the_row-Trace-0 denote.Hole.Carrier.hidden children_of
cases_at nodes b [] = refl
cases_at nodes b (t ∷ ts) = ap (λ (e : plain.End). plain.cases (plain.some (plain_in nodes t) (children_of e))) (cases_at nodes b ts)

-- an end with children
pub cases_in : (nodes : List Node) (b : Bor (List Trace)) → end_in nodes (Cases b) ≡ plain.cases (traces (map (plain_in nodes) b.now))
cases_in nodes b = cases_at nodes b b.now

-- a child by its number
pub child_in : (nodes : List Node) (ts : List Trace) (i : ℕ) → child (traces (map (plain_in nodes) ts)) i ≡ option_map (plain_in nodes) (slice_get ts i)
child_in nodes [] i = refl
child_in nodes (t ∷ ts) zero = refl
child_in nodes (t ∷ ts) (suc i) = child_in nodes ts i

-- a child of a trace by its number
pub child_at : (nodes : List Node) (t : Trace) (b : Bor (List Trace)) (i : ℕ) → t.end ≡ Cases b → child_of (plain_in nodes t) i ≡ option_map (plain_in nodes) (slice_get b.now i)
child_at nodes t b i e =
    ap (λ end. child_of (plain.trace (map (event_in nodes) t.events.now) end) i) (ap (end_in nodes) e ∙ cases_in nodes b) ∙ child_in nodes b.now i
