-- Slices and updates over a list that grows.
use Rattle.std.proofs.Common.{◌≡◌, ◌≤◌, ◌<◌, ◌+◌, ◌-◌, ℕ, Bool, true, false, nat_eq, nat_lt, ◌&&◌, if◌then◌else◌, List, refl, ap, sym, ◌∙◌, subst, arith}
use Rattle.std.specs.Prelude.{Result, Ok, Err}
use Rattle.std.proofs.lemmas.Bool.Decides.{nat_tests}
use Rattle.bv_bits.specs.declared.Op.TheVariants as op
use Rattle.sail_syntax.specs.declared.tree.Infix.TheVariants as between
use Rattle.term_arena.specs.Nodes.{Node, Keeps}
use Rattle.term_arena.specs.Said.{said_just, said_then}
use Rattle.term_arena.specs.Makes.{MakesWith}
use Rattle.term_arena.proofs.MeaningLemmas.{keeps_trans}
use Rattle.term_arena.proofs.MakesLemmas.{low_none, makes_here, makes_as, makes_stop, reaches_start, reaches_step, reaches_end}
use Rattle.sym_rules.specs.Values.{SymValue, sym_unit, sym_width}
use Rattle.sym_rules.specs.Trees.{Telling}
use Rattle.sym_rules.specs.Operators.{sym_operate_one, sym_applied}
use Rattle.sym_rules.specs.Parts.{sym_sliced, sym_above, sym_below}
use Rattle.sym_parts.specs.declared.faults.StepFault.{StepFault}
use Rattle.sym_parts.specs.declared.values.SymValue as code
use Rattle.sym_parts.specs.Causes.{step_cause}
use Rattle.sym_parts.specs.Views.{value_in}
use Rattle.sym_parts.specs.Fits.{ValueFits}
use Rattle.sym_parts.proofs.StayLemmas.{value_stays}

-- one of two definitions
chosen : Bool → Telling SymValue → Telling SymValue → Telling SymValue
chosen b s t = if b then s else t

pub slice_small : (v : SymValue) (hi lo : ℕ) → hi < 128 → lo < 128 → sym_operate_one (op.Extract hi lo) v ≡ sym_sliced v hi lo
unfolding chosen
slice_small v hi lo h l =
    let e : true ≡ (nat_lt hi 128 && nat_lt lo 128) = grind (arith, nat_tests, h, l) in
    ap (λ b. chosen b (sym_operate_one (op.Extract hi lo) v) (said_just sym_unit)) e

-- the bits above, joined
above_then : SymValue → ℕ → ℕ → SymValue → Telling SymValue
above_then v w hi by = said_then (sym_sliced v (w - 1) (hi + 1)) (λ high. sym_applied between.Join high by)

above_by : (v : SymValue) (w hi : ℕ) (by : SymValue) (b : Bool) → w ≡ sym_width v → nat_lt (hi + 1) w ≡ b → chosen b (above_then v w hi by) (said_just by) ≡ sym_above v hi by
unfolding chosen above_then
above_by v w hi by b e h =
    subst (λ n. chosen b (above_then v n hi by) (said_just by) ≡ sym_above v hi by) (sym e)
    (ap (λ c. chosen c (above_then v (sym_width v) hi by) (said_just by)) (sym h ∙ ap (λ n. nat_lt (hi + 1) n) e))

pub below_then : (v : SymValue) (lo : ℕ) (so_far : SymValue) → (lo ≡ 0 → ⊥)
    → said_then (sym_sliced v (lo - 1) 0) (λ low. sym_applied between.Join so_far low) ≡ sym_below v lo so_far
unfolding chosen
below_then v lo so_far h =
    let e : false ≡ nat_eq lo 0 = grind (arith, nat_tests, h) in
    ap (λ b. chosen b (said_just so_far) (said_then (sym_sliced v (lo - 1) 0) (λ low. sym_applied between.Join so_far low))) e

module _ (old : List Node) (v by : code.SymValue) (hi w : ℕ) (fits : ValueFits old v) (wide : w ≡ sym_width (value_in old v)) where
  width_over : (last : List Node) → Keeps old last → w ≡ sym_width (value_in last v)
  width_over last k = wide ∙ ap sym_width (sym (value_stays old last k v fits))

  pub above_none : w ≤ hi + 1 → MakesWith step_cause old old value_in (Ok by) (λ last. sym_above (value_in last v) hi (value_in last by))
  unfolding chosen
  above_none h =
      let e : nat_lt (hi + 1) w ≡ false = grind (arith, nat_tests, h) in
      makes_as (makes_here old value_in (Ok by) (λ last. said_just (value_in last by)) (λ last k. (refl, low_none)))
      (λ last k. above_by (value_in last v) w hi (value_in last by) false (width_over last k) e)

  module _ (h : hi + 1 < w) where
    over : (last : List Node) → Keeps old last → said_then (sym_sliced (value_in last v) (w - 1) (hi + 1)) (λ high. sym_applied between.Join high (value_in last by)) ≡ sym_above (value_in last v) hi (value_in last by)
    unfolding chosen above_then
    over last k = let e : nat_lt (hi + 1) w ≡ true = grind (arith, nat_tests, h) in above_by (value_in last v) w hi (value_in last by) true (width_over last k) e

    pub above_stops : {mid : List Node} {f : StepFault} → MakesWith step_cause old mid value_in (Err f) (λ last. sym_sliced (value_in last v) (w - 1) (hi + 1))
        → MakesWith step_cause old mid value_in (Err f) (λ last. sym_above (value_in last v) hi (value_in last by))
    above_stops {mid} m = makes_as (makes_stop (λ last high. sym_applied between.Join high (value_in last by)) m) (λ last k. over last (keeps_trans old mid last m.kept k))

    pub above_made : {mid new : List Node} {high : code.SymValue} {r : Result code.SymValue StepFault} → MakesWith step_cause old mid value_in (Ok high) (λ last. sym_sliced (value_in last v) (w - 1) (hi + 1))
        → MakesWith step_cause mid new value_in r (λ last. sym_applied between.Join (value_in last high) (value_in last by))
        → MakesWith step_cause old new value_in r (λ last. sym_above (value_in last v) hi (value_in last by))
    above_made {mid} {new} m n =
        makes_as (reaches_end (reaches_step (λ last high. sym_applied between.Join high (value_in last by)) reaches_start m) n)
        (λ last k. over last (keeps_trans old mid last m.kept (keeps_trans mid new last n.kept k)))
