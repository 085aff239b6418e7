-- A run that is accepted makes the specification safe.
use Rattle.std.proofs.Common.{◌≡◌, ◌≢◌, ℕ, List, [], ◌∷◌, map, refl, ap, arith, Bool, true, false, All, eqb-true, Some, None}
use Rattle.std.specs.Prelude.{◌&&◌, if◌then◌else◌, nat_eq, slice_index_or, AllPairs}
use Rattle.std.specs.Option.{option_map}
use Rattle.std.specs.declared.option.Option.{Option}
use Rattle.std.proofs.lemmas.Bool.{and_parts}
use Rattle.std.proofs.lemmas.List.Elements.{All-cons, All-nil}
use Rattle.bv_bits.specs.declared.Bits.{Bits}
use Rattle.sail_syntax.specs.Program.{Definition}
use Rattle.state_core.specs.State.{State, register_of}
use Rattle.state_core.specs.World.{World, start}
use Rattle.machine_run.specs.Machine.{Machine, pc_of}
use Rattle.machine_run.specs.Program.{machine_of}
use Rattle.machine_safe.specs.Safe.{IsSafe}
use Rattle.machine_safe.specs.First.{Constants, Walked, left, outside, touches, fails, too_many, walk_from, FitsForm, spec_of, no_transitions, no_variables}
use Rattle.machine_safe.proofs.Entries.{same_bits}
use Rattle.machine_safe.proofs.Safety.{walked_safe}
use Rattle.constants_walk.specs.declared.failure.Failure.{Failure}
use Rattle.constants_walk.specs.declared.run_form.RunEnd.{RunEnd}
use Rattle.constants_walk.specs.declared.run_form.RunEnd.TheVariants as run_end
use Rattle.constants_walk.specs.Entry.{entry_state}
use Rattle.constants_walk.specs.Failing.{failure_of}
use Rattle.constants_walk.specs.RunForm.{has_bits, has_values, ended_at, most_instructions, run_end_of}
use Rattle.constants_walk.proofs.EntryState.{IsSet, entry_is_partial}

has_same : (a b : Bits) → has_bits a b ≡ true → a ≡ b
has_same a b h =
    same_bits a b (eqb-true a.width b.width ((and_parts (nat_eq a.width b.width) (nat_eq a.value b.value) h).0))
    (eqb-true a.value b.value ((and_parts (nat_eq a.width b.width) (nat_eq a.value b.value) h).1))

values_are_there : (s : State) (vs : List (ℕ × Bits)) → has_values s vs ≡ true → All (λ v. register_of s v.0 ≡ v.1) vs
values_are_there s [] h = All-nil (λ v. register_of s v.0 ≡ v.1)
values_are_there s (v ∷ vs) h =
    All-cons (λ v. register_of s v.0 ≡ v.1) v vs (has_same (register_of s v.0) v.1 ((and_parts (has_bits (register_of s v.0) v.1) (has_values s vs) h).0))
    (values_are_there s vs ((and_parts (has_bits (register_of s v.0) v.1) (has_values s vs) h).1))

-- ---- ends of runs

abbrev pub end_number : Option RunEnd → ℕ
end_number (Some (run_end.Accepted k)) = 0
end_number (Some (run_end.Wrong at)) = 1
end_number (Some (run_end.Outside pc)) = 2
end_number (Some (run_end.Touches pc)) = 3
end_number (Some (run_end.Fails why pc)) = 4
end_number (Some (run_end.TooMany pc)) = 5
end_number None = 6

never_accepted : (pc k : ℕ) (o : Option Failure) → option_map (λ why. run_end.Fails why pc) o ≡ Some (run_end.Accepted k) → ⊥
never_accepted pc k None e = let n : 6 ≡ 0 = ap end_number e in omega (arith, n)
never_accepted pc k (Some why) e = let n : 4 ≡ 0 = ap end_number e in omega (arith, n)

-- a walk that is accepted
record Arrives (m : Machine) (c : Constants) (walked : Walked × World) : Type 0 where
  pub count : ℕ
  pub last : ℕ
  pub is : walked ≡ (left count last, walked.1)
  pub pc : pc_of m walked.1.state ≡ c.exit_at
  pub values : All (λ v. register_of walked.1.state v.0 ≡ v.1) c.exit

arrives_by : (m : Machine) (c : Constants) (count last k : ℕ) (w : World) (b : Bool) → (nat_eq (pc_of m w.state) c.exit_at && has_values w.state c.exit) ≡ b
    → Some (if b then run_end.Accepted count else run_end.Wrong last) ≡ Some (run_end.Accepted k) → Arrives m c (left count last, w)
arrives_by m c count last k w true h e = record {
  count = count;
  last = last;
  is = refl;
  pc = eqb-true (pc_of m w.state) c.exit_at ((and_parts (nat_eq (pc_of m w.state) c.exit_at) (has_values w.state c.exit) h).0);
  values = values_are_there w.state c.exit ((and_parts (nat_eq (pc_of m w.state) c.exit_at) (has_values w.state c.exit) h).1);
}
arrives_by m c count last k w false h e = let n : 1 ≡ 0 = ap end_number e in absurd (omega (arith, n))

arrives : (m : Machine) (c : Constants) (k : ℕ) (walked : Walked) (w : World) → ended_at m c walked w ≡ Some (run_end.Accepted k) → Arrives m c (walked, w)
arrives m c k (left count last) w e = arrives_by m c count last k w (nat_eq (pc_of m w.state) c.exit_at && has_values w.state c.exit) refl e
arrives m c k (outside pc) w e = let n : 2 ≡ 0 = ap end_number e in absurd (omega (arith, n))
arrives m c k (touches pc) w e = let n : 3 ≡ 0 = ap end_number e in absurd (omega (arith, n))
arrives m c k (fails ended pc) w e = absurd (never_accepted pc k (failure_of ended) e)
arrives m c k (too_many pc) w e = let n : 5 ≡ 0 = ap end_number e in absurd (omega (arith, n))

pub accepted_safe : (defs : List Definition) (c : Constants) (k : ℕ) → FitsForm (machine_of defs) c
    → slice_index_or (machine_of defs).widths (machine_of defs).pc 0 ≡ 64 → All (IsSet (machine_of defs).widths (machine_of defs).pc) c.entry
    → AllPairs ◌≢◌ (map (λ v. v.0) c.entry)
    → run_end_of (machine_of defs) c ≡ Some (run_end.Accepted k) → IsSafe no_variables no_variables no_variables (machine_of defs) no_transitions [] (spec_of c)
unfolding run_end_of
accepted_safe defs c k fits wide each differ h =
    let m : Machine = machine_of defs in
    let walked = walk_from m c 0 c.entry_at most_instructions (start (entry_state m c) []) in
    let a = arrives m c k walked.0 walked.1 h in
    walked_safe defs c (entry_state m c) a.count a.last most_instructions walked.1 fits
    (entry_is_partial m c fits.pc_there wide each differ) a.is a.pc a.values
