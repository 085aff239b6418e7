-- A run fails by a failure of the Sail text, which is the one that is told.
use Rattle.std.proofs.Common.{◌≡◌, ℕ, suc, List, ap, ◌∙◌, refl, arith, Bool, true, false, Some, None}
use Rattle.std.specs.Prelude.{if◌then◌else◌, ◌&&◌, nat_eq}
use Rattle.std.specs.Option.{option_map}
use Rattle.std.specs.declared.option.Option.{Option}
use Rattle.std.specs.FinMap.{empty}
use Rattle.sail_syntax.specs.Program.{Definition}
use Rattle.state_core.specs.State.{Memory}
use Rattle.state_core.specs.World.{World, fault, lacks_answer}
use Rattle.state_core.specs.declared.kinds.FaultKind.{FaultKind}
use Rattle.state_core.specs.declared.kinds.FaultKind.TheVariants as kind
use Rattle.eval_words.specs.Instr.{Ended, whole, cut}
use Rattle.machine_run.specs.Machine.{pc_of}
use Rattle.machine_run.specs.Program.{machine_of}
use Rattle.machine_safe.specs.First.{Constants, Walked, left, outside, touches, fails, too_many, walk_from, IsPlainCut}
use Rattle.machine_safe.proofs.Safety.{walk_fails}
use Rattle.proof_form.specs.declared.form.NamedProof.{NamedProof}
use Rattle.constants_walk.specs.declared.failure.Failure.{Failure}
use Rattle.constants_walk.specs.declared.failure.Failure.TheVariants as failure
use Rattle.constants_walk.specs.declared.run_form.RunEnd.{RunEnd}
use Rattle.constants_walk.specs.declared.run_form.RunEnd.TheVariants as run_end
use Rattle.constants_walk.specs.Failing.{kind_of, failure_by, failure_of, IsFailure}
use Rattle.constants_walk.specs.RunForm.{has_values, ended_at, most_instructions, run_end_of}
use Rattle.constants_walk.proofs.EntryState.{bytes_there}
use Rattle.constants_check.specs.Told.{first_world, FailsAt}
use Rattle.constants_check.specs.Verdict.{constants_for}
use Rattle.constants_check.proofs.FirstPath.{end_number}
use Rattle.constants_check.proofs.Fitting.{place_for}

-- ---- faults of the text

record IsPlainFailure (e : Ended) : Type 0 where
  pub why : Failure
  pub is : IsFailure why e
  pub told : failure_of e ≡ Some why

plain_failure : (e : Ended) → IsPlainCut e → IsPlainFailure e
plain_failure e (kind.MatchFail, at, is, plain) = record { why = failure.Match; is = (at, is); told = ap failure_of is }
plain_failure e (kind.AssertFail, at, is, plain) = record { why = failure.Assert; is = (at, is); told = ap failure_of is }
plain_failure e (kind.Exit, at, is, plain) = record { why = failure.Exit; is = (at, is); told = ap failure_of is }
plain_failure e (kind.NoByte, at, is, plain) = absurd (cc)
plain_failure e (kind.BadDevice, at, is, plain) = absurd (cc)

module _ (defs : List Definition) (memory : Memory) (p : NamedProof) (c : Constants) (constants_are : constants_for defs p memory ≡ Some c) where
  plain_in : (room at : ℕ) (e : Ended) (w : World) → walk_from (machine_of defs) c 0 c.entry_at room (first_world defs c) ≡ (fails e at, w) → IsPlainFailure e
  plain_in room at e w is =
      plain_failure e (walk_fails defs c 0 c.entry_at room at (first_world defs c) w e (bytes_there c.code empty c.lo) (place_for defs p memory c constants_are) is)

  pub failing : (room at : ℕ) (e : Ended) (w : World) → walk_from (machine_of defs) c 0 c.entry_at room (first_world defs c) ≡ (fails e at, w) → (why : Failure) × IsFailure why e
  failing room at e w is = let f = plain_in room at e w is in (f.why, f.is)

  -- ---- each run has an end

  none_mapped : (at : ℕ) (o : Option Failure) (why : Failure) → o ≡ Some why → option_map (λ why. run_end.Fails why at) o ≡ None → ⊥
  none_mapped at None why is none = absurd (cc)
  none_mapped at (Some other) why is none = absurd (cc)

  ends_by : (walked : Walked) (w : World) → walk_from (machine_of defs) c 0 c.entry_at most_instructions (first_world defs c) ≡ (walked, w)
      → ended_at (machine_of defs) c walked w ≡ None → ⊥
  ends_by (left count last) w is none = absurd (cc)
  ends_by (outside pc) w is none = absurd (cc)
  ends_by (touches pc) w is none = absurd (cc)
  ends_by (fails e pc) w is none = let f = plain_in most_instructions pc e w is in none_mapped pc (failure_of e) f.why f.told none
  ends_by (too_many pc) w is none = absurd (cc)

  pub ends_somehow : run_end_of (machine_of defs) c ≡ None → ⊥
  unfolding run_end_of
  ends_somehow none =
      let walked = walk_from (machine_of defs) c 0 c.entry_at most_instructions (first_world defs c) in
      ends_by walked.0 walked.1 refl none

-- ---- the failure that is told

abbrev kind_in : Option Failure → FaultKind
kind_in (Some why) = kind_of why
kind_in None = kind.Exit

by_kind : (k : FaultKind) (at : ℕ) (why : Failure) → failure_by k ≡ Some why → cut (fault k at) ≡ cut (fault (kind_of why) at)
by_kind kind.MatchFail at why is = ap (λ (o : Option Failure). cut (fault (kind_in o) at)) is
by_kind kind.AssertFail at why is = ap (λ (o : Option Failure). cut (fault (kind_in o) at)) is
by_kind kind.Exit at why is = ap (λ (o : Option Failure). cut (fault (kind_in o) at)) is
by_kind kind.NoByte at why is = absurd (cc)
by_kind kind.BadDevice at why is = absurd (cc)

is_failure : (e : Ended) (why : Failure) → failure_of e ≡ Some why → IsFailure why e
is_failure whole why is = absurd (cc)
is_failure (cut (fault k at)) why is = (at, by_kind k at why is)
is_failure (cut lacks_answer) why is = absurd (cc)

abbrev why_in : Option RunEnd → Option Failure
why_in (Some (run_end.Fails why pc)) = Some why
why_in (Some (run_end.Accepted k)) = None
why_in (Some (run_end.Wrong at)) = None
why_in (Some (run_end.Outside pc)) = None
why_in (Some (run_end.Touches pc)) = None
why_in (Some (run_end.TooMany pc)) = None
why_in None = None

abbrev pub pc_in : Option RunEnd → ℕ
pc_in (Some (run_end.Fails why pc)) = pc
pc_in (Some (run_end.Touches pc)) = pc
pc_in (Some (run_end.Accepted k)) = 0
pc_in (Some (run_end.Wrong at)) = 0
pc_in (Some (run_end.Outside pc)) = 0
pc_in (Some (run_end.TooMany pc)) = 0
pc_in None = 0

pub left_number : (b : Bool) (count last : ℕ) (n : ℕ) → end_number (Some (if b then run_end.Accepted count else run_end.Wrong last)) ≡ suc (suc n) → ⊥
left_number true count last n e = omega (arith, e)
left_number false count last n e = omega (arith, e)

module _ (defs : List Definition) (c : Constants) (why : Failure) (pc : ℕ) where
  mapped_fails : (o : Option Failure) (at : ℕ) → option_map (λ y. run_end.Fails y at) o ≡ Some (run_end.Fails why pc) → (o ≡ Some why) × (at ≡ pc)
  mapped_fails None at is = absurd (cc)
  mapped_fails (Some y) at is = (ap why_in is, ap pc_in is)

  by_walk : (walked : Walked) (w : World) → walk_from (machine_of defs) c 0 c.entry_at most_instructions (first_world defs c) ≡ (walked, w)
      → ended_at (machine_of defs) c walked w ≡ Some (run_end.Fails why pc) → FailsAt defs c why pc
  by_walk (left count last) w is e =
      absurd (left_number (nat_eq (pc_of (machine_of defs) w.state) c.exit_at && has_values w.state c.exit) count last 2 (ap end_number e))
  by_walk (outside at) w is e = let n : 2 ≡ 4 = ap end_number e in absurd (omega (arith, n))
  by_walk (touches at) w is e = let n : 3 ≡ 4 = ap end_number e in absurd (omega (arith, n))
  by_walk (too_many at) w is e = let n : 5 ≡ 4 = ap end_number e in absurd (omega (arith, n))
  by_walk (fails ended at) w is e =
      let f = mapped_fails (failure_of ended) at e in
      record {
        ended = ended;
        world = w;
        walks = is ∙ ap (λ n. (fails ended n, w)) f.1;
        failure = is_failure ended why f.0;
      }

  pub fails_at : run_end_of (machine_of defs) c ≡ Some (run_end.Fails why pc) → FailsAt defs c why pc
  unfolding run_end_of
  fails_at e =
      let walked = walk_from (machine_of defs) c 0 c.entry_at most_instructions (first_world defs c) in
      by_walk walked.0 walked.1 refl e
