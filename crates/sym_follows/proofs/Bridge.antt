-- The outcomes that follow the trace of a tree, by where the tree's paths come to.
use Rattle.std.proofs.Common.{◌≡◌, ℕ, suc, ◌+◌, ◌^◌, ◌<◌, ◌≤◌, Bool, true, false, List, ◌++◌, map, length, refl, sym, ap, ap₂, ◌∙◌, append-nil, arith}
use Rattle.std.proofs.lemmas.List.{map-append}
use Rattle.state_core.specs.declared.kinds.Range.{Range}
use Rattle.state_core.specs.World.{Got, gets, faults, lacks}
use Rattle.state_core.specs.Memory.{Nothing, load, store}
use Rattle.state_core.specs.State.{register_of}
use Rattle.term_tree.specs.Terms.{same_bits}
use Rattle.trace_plain.specs.Trace.{Event, read_reg, write_reg, read_mem, write_mem, assume, need, assume_reg, Trace, trace, size}
use Rattle.trace_plain.specs.Following.{Path, whole, Outcome, ended, Step, goes, halts, blocked, act, step_if, is_one, value_on, binds_read, goes_behind, after_step, outcomes}
use Rattle.sym_rules.specs.Trees.{SymTree, leaf, naming, on, split, fails, with_first, two_cases, traced}
use Rattle.sym_follows.proofs.Trees.{Arrival, comes_to, ends_at, behind_step, OfNext, arrivals, Short}

-- the outcome of where a path comes to: a leaf is the end of a whole step
abbrev pub final : {L : Type 0} → Arrival L → Outcome
final (comes_to l x) = ended whole x
final (ends_at out) = out

-- how many variables there are behind an event
abbrev AtMostOneMore : Path → Step → Type 0
AtMostOneMore x s = OfNext s (λ y. length y.vars ≤ length x.vars + 1)

module _ (ranges : List Range) where
  first_outcomes : (e : Event) (t : Trace) (x : Path) → outcomes ranges (with_first e t) x ≡ after_step (act ranges e x) (outcomes ranges t)
  first_outcomes e (trace events end) x = refl

  step_final : {L : Type 0} (s : Step) (f : Path → List Outcome) (g : Path → List (Arrival L)) → ((x : Path) → f x ≡ map final (g x))
      → after_step s f ≡ map final (behind_step s g)
  step_final (goes x) f g same = same x
  step_final (halts out) f g same = refl
  step_final blocked f g same = refl

  pub outcomes_traced : {L : Type 0} (t : SymTree L) (x : Path) → outcomes ranges (traced t) x ≡ map final (arrivals ranges t x)
  outcomes_traced (leaf l) x = refl
  outcomes_traced (naming ms t) x = outcomes_traced t x
  outcomes_traced (on e t) x = first_outcomes e (traced t) x ∙ step_final (act ranges e x) (outcomes ranges (traced t)) (arrivals ranges t) (outcomes_traced t)
  outcomes_traced (split a b) x =
      ap (λ l. outcomes ranges (traced a) x ++ l) (append-nil (outcomes ranges (traced b) x))
      ∙ ap₂ (λ l m. l ++ m) (outcomes_traced a x) (outcomes_traced b x)
      ∙ sym (map-append final (arrivals ranges a x) (arrivals ranges b x))
  outcomes_traced (fails k) x = refl

  -- ---- a trace that isn't too large has few variables

  if_more : (b : Bool) (x : Path) (s t : Step) → AtMostOneMore x s → AtMostOneMore x t → AtMostOneMore x (step_if b s t)
  if_more true x s t h k = h
  if_more false x s t h k = k

  read_more : (var n : ℕ) (x : Path) (g : Got ℕ) → AtMostOneMore x (binds_read var n x g)
  read_more var n x (gets b w) = omega (arith)
  read_more var n x (faults k w) = tt
  read_more var n x (lacks w) = tt

  write_more : (x : Path) (g : Got Nothing) → AtMostOneMore x (goes_behind x g)
  write_more x (gets b w) = omega (arith)
  write_more x (faults k w) = tt
  write_more x (lacks w) = tt

  act_more : (e : Event) (x : Path) → AtMostOneMore x (act ranges e x)
  act_more (read_reg r var) x = omega (arith)
  act_more (write_reg r t) x = omega (arith)
  act_more (read_mem var at n) x = read_more var n x (load ranges (value_on x at).value n x.world)
  act_more (write_mem at t n) x = write_more x (store ranges (value_on x at).value n (value_on x t).value x.world)
  act_more (assume t) x = if_more (is_one (value_on x t)) x (goes x) blocked (omega (arith)) tt
  act_more (need t) x = if_more (is_one (value_on x t)) x (goes x) (halts _) (omega (arith)) tt
  act_more (assume_reg r b) x = if_more (same_bits (register_of x.world.state r) b) x (goes _) blocked (omega (arith)) tt

  first_size : (e : Event) (t : Trace) → size (with_first e t) ≡ suc (size t)
  first_size e (trace events end) = omega (arith)

  cases_size : (a b : Trace) → size (two_cases a b) ≡ suc (size a + size b)
  cases_size a b = omega (arith)

  some_size : {L : Type 0} (t : SymTree L) → 0 < size (traced t)
  some_size (leaf l) = omega (arith)
  some_size (naming ms t) = some_size t
  some_size (on e t) = omega (arith, first_size e (traced t))
  some_size (split a b) = omega (arith, cases_size (traced a) (traced b))
  some_size (fails k) = omega (arith)

  next_short : (s : Step) (x : Path) (n : ℕ) (P : Path → Type 0) → AtMostOneMore x s → ((y : Path) → length y.vars ≤ length x.vars + 1 → P y) → OfNext s P
  next_short (goes y) x n P h each = each y h
  next_short (halts out) x n P h each = tt
  next_short blocked x n P h each = tt

  pub short_of_size : {L : Type 0} (t : SymTree L) (x : Path) → length x.vars + size (traced t) ≤ 2 ^ 64 → Short ranges t x
  short_of_size (leaf l) x h = tt
  short_of_size (naming ms t) x h = short_of_size t x h
  short_of_size (on e t) x h = (
    omega (arith, h, first_size e (traced t)),
    next_short (act ranges e x) x 0 (Short ranges t) (act_more e x) (λ y k. short_of_size t y (omega (arith, h, k, first_size e (traced t)))),
  )
  short_of_size (split a b) x h =
      (short_of_size a x (omega (arith, h, cases_size (traced a) (traced b))), short_of_size b x (omega (arith, h, cases_size (traced a) (traced b))))
  short_of_size (fails k) x h = tt
