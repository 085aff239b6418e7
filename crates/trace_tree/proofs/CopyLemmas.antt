-- A child that is copied next.
use Rattle.std.proofs.Common.{◌≡◌, ◌<◌, ◌+◌, ◌*◌, ℕ, suc, List, [], map, length, get_or, drop, subst, arith}
use Rattle.std.proofs.Math.Seq.{drop-cons}
use Rattle.term_tree.specs.Terms.{Tree}
use Rattle.trace_plain.specs.Trace as plain
use Rattle.trace_plain.specs.Trace.{size, all_size}
use Rattle.trace_plain.specs.Terms.{OfTrace, OfTraces}
use Rattle.trace_plain.specs.View.{traces}
use Rattle.trace_tree.specs.declared.trace.Trace.{Trace}
use Rattle.trace_tree.specs.View.{plain_in}
use Rattle.trace_tree.proofs.CountLemmas.{size_within}

-- it is smaller than all
pub below_all : (ts : List Trace) (i : ℕ) (d : Trace) (all : ℕ) → i < length ts → 3 * all_size (traces (map (plain_in []) ts)) + 2 ≡ all → 3 * size (plain_in [] (get_or ts i d)) + 1 < all
below_all ts i d all lt e = omega (arith, size_within ts i d lt, e)

-- what holds of the terms of what is left holds of its terms, and of those of the rest
pub first_terms : (P : Tree → Type 0) (f : Trace → plain.Trace) (ts : List Trace) (i : ℕ) (d : Trace) → i < length ts
    → OfTraces P (traces (map f (drop i ts))) → OfTrace P (f (get_or ts i d)) × OfTraces P (traces (map f (drop (suc i) ts)))
first_terms P f ts i d lt h = subst (λ l. OfTraces P (traces (map f l))) (drop-cons ts i d lt) h
