-- Terms of traces at the end of a path.
use Rattle.std.proofs.Common.{◌≡◌, ℕ, zero, suc, List, [], ◌∷◌, Option, Some, None, subst}
use Rattle.std.specs.Prelude.{option_and_then}
use Rattle.term_tree.specs.Terms.{Tree}
use Rattle.trace_plain.specs.Trace.{Trace, trace, done, fail, cases, Traces, none, some}
use Rattle.trace_plain.specs.Terms.{OfTrace, OfTraces}
use Rattle.trace_tree.specs.Paths.{child, child_of, at_path}

-- what holds of each term of a trace holds of each term inside
module _ (P : Tree → Type 0) where
  -- of a trace, if there is one
  OfSome : Option Trace → Type 0
  OfSome None = Unit {0}
  OfSome (Some u) = OfTrace P u

  child_terms : (ts : Traces) (i : ℕ) → OfTraces P ts → OfSome (child ts i)
  unfolding OfSome
  child_terms none i h = tt
  child_terms (some t ts) zero h = h.0
  child_terms (some t ts) (suc i) h = child_terms ts i h.1

  child_of_terms : (t : Trace) (i : ℕ) → OfTrace P t → OfSome (child_of t i)
  unfolding OfSome
  child_of_terms (trace events done) i h = tt
  child_of_terms (trace events (fail kind)) i h = tt
  child_of_terms (trace events (cases ts)) i h = child_terms ts i h.1

  behind : (o : Option Trace) (f : Trace → Option Trace) → OfSome o → ((u : Trace) → OfTrace P u → OfSome (f u)) → OfSome (option_and_then f o)
  unfolding OfSome
  behind None f h g = tt
  behind (Some u) f h g = g u h

  path_terms : (t : Trace) (path : List ℕ) → OfTrace P t → OfSome (at_path t path)
  unfolding OfSome
  path_terms t [] h = h
  path_terms t (i ∷ path) h = behind (child_of t i) (λ u. at_path u path) (child_of_terms t i h) (λ u k. path_terms u path k)

  pub inner_terms : (t u : Trace) (path : List ℕ) → OfTrace P t → at_path t path ≡ Some u → OfTrace P u
  unfolding OfSome
  inner_terms t u path h e = subst OfSome e (path_terms t path h)
