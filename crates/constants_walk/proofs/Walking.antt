-- A walk, by where the PC is and what the step is.
use Rattle.std.proofs.Common.{◌≡◌, ℕ, zero, suc, ◌+◌, [], refl, sym, ap, ◌∙◌, arith, Bool, true, false, Some, None}
use Rattle.std.specs.Prelude.{if◌then◌else◌, nat_le}
use Rattle.state_core.specs.World.{World}
use Rattle.state_core.specs.declared.kinds.FaultKind.{FaultKind}
use Rattle.state_core.specs.declared.kinds.FaultKind.TheVariants as kind
use Rattle.eval_words.specs.Instr.{Ended, whole, cut}
use Rattle.machine_run.specs.Words.{is_long}
use Rattle.machine_run.specs.Machine.{Machine, pc_of, step}
use Rattle.machine_safe.specs.First.{Constants, end_of, is_inside, byte_of, size_by, size_at, has_touched, Walked, left, outside, fails, too_many, at_pc, next_of, walk_from, is_plain, IsPlainCut}
use Rattle.constants_walk.specs.Failing.{failure_by, failure_of}
use Rattle.constants_walk.specs.declared.failure.Failure.{Failure}
use Rattle.constants_walk.specs.declared.walk.Walk.TheVariants as walk
use Rattle.constants_walk.specs.declared.walk.Stepped.TheVariants as stepped
use Rattle.constants_walk.specs.Walk.{IsStepped, IsWalked}

-- ---- failures of the text

plain_kind : (k : FaultKind) → is_plain k ≡ true → failure_by k ≡ None → ⊥
plain_kind kind.MatchFail p n = absurd (cc)
plain_kind kind.AssertFail p n = absurd (cc)
plain_kind kind.Exit p n = absurd (cc)
plain_kind kind.NoByte p n = absurd (cc)
plain_kind kind.BadDevice p n = absurd (cc)

-- a fault that the text itself makes is a failure
pub plain_fails : (e : Ended) → IsPlainCut e → failure_of e ≡ None → ⊥
plain_fails e plain none = plain_kind plain.0 plain.3 (ap failure_of (sym plain.2) ∙ none)

-- ---- where the PC is

-- what stands at the PC, by the tests of where it and its word are
abbrev at_tests : Bool → Bool → ℕ → ℕ → ℕ → World → Walked × World → Walked × World
at_tests a b pc k last w further = if a then (if b then further else (outside pc, w)) else (left k last, w)

-- the PC, and whether it and its word lie in the code
pub record IsAt (m : Machine) (c : Constants) (pc : ℕ) (w : World) (a b : Bool) : Type 0 where
  pub pc_is : pc_of m w.state ≡ pc
  pub inside : is_inside c pc ≡ a
  pub fits : nat_le (pc + size_at m c pc) (end_of c) ≡ b

module _ (m : Machine) (c : Constants) where
  by_tests : (k last pc : ℕ) (w : World) (further : Walked × World) (a b : Bool) → IsAt m c pc w a b → at_pc m c k last w further ≡ at_tests a b pc k last w further
  by_tests k last pc w further a b at =
      ap (λ q. at_tests (is_inside c q) (nat_le (q + size_at m c q) (end_of c)) q k last w further) at.pc_is
      ∙ ap (λ t. at_tests t (nat_le (pc + size_at m c pc) (end_of c)) pc k last w further) at.inside
      ∙ ap (λ t. at_tests a t pc k last w further) at.fits

  -- ---- what the loop has when it ends: the whole walk is the rest from here

  leaves : (k last room pc : ℕ) (w : World) (b : Bool) → IsAt m c pc w false b → walk_from m c k last room w ≡ (left k last, w)
  leaves k last zero pc w b at = by_tests k last pc w (too_many (pc_of m w.state), w) false b at
  leaves k last (suc room) pc w b at =
      by_tests k last pc w (next_of (has_touched w (step m [] w).1) (step m [] w).0 (pc_of m w.state) (step m [] w).1 (walk_from m c (suc k) (pc_of m w.state) room (step m [] w).1)) false b at

  goes_out : (k last room pc : ℕ) (w : World) → IsAt m c pc w true false → walk_from m c k last room w ≡ (outside pc, w)
  goes_out k last zero pc w at = by_tests k last pc w (too_many (pc_of m w.state), w) true false at
  goes_out k last (suc room) pc w at =
      by_tests k last pc w (next_of (has_touched w (step m [] w).1) (step m [] w).0 (pc_of m w.state) (step m [] w).1 (walk_from m c (suc k) (pc_of m w.state) room (step m [] w).1)) true false at

  steps : (k last room pc : ℕ) (w x : World) (e : Ended) (t : Bool) → IsAt m c pc w true true → step m [] w ≡ (e, x) → has_touched w x ≡ t
      → walk_from m c k last (suc room) w ≡ next_of t e pc x (walk_from m c (suc k) pc room x)
  steps k last room pc w x e t at is touched =
      by_tests k last pc w (next_of (has_touched w (step m [] w).1) (step m [] w).0 (pc_of m w.state) (step m [] w).1 (walk_from m c (suc k) (pc_of m w.state) room (step m [] w).1)) true true at
      ∙ ap (λ (s : Ended × World). next_of (has_touched w s.1) s.0 (pc_of m w.state) s.1 (walk_from m c (suc k) (pc_of m w.state) room s.1)) is
      ∙ ap (λ b. next_of b e (pc_of m w.state) x (walk_from m c (suc k) (pc_of m w.state) room x)) touched
      ∙ ap (λ a. next_of t e a x (walk_from m c (suc k) a room x)) at.pc_is

  module _ (all : Walked × World) where
    pub ends_left : (k last room pc : ℕ) (w : World) (b : Bool) → all ≡ walk_from m c k last room w → IsAt m c pc w false b → IsWalked (walk.Left k last) w all
    ends_left k last room pc w b rest at = rest ∙ leaves k last room pc w b at

    pub ends_outside : (k last room pc : ℕ) (w : World) → all ≡ walk_from m c k last room w → IsAt m c pc w true false → IsWalked (walk.Outside pc) w all
    ends_outside k last room pc w rest at = rest ∙ goes_out k last room pc w at

    -- the step from here
    one_step : (k last room less pc : ℕ) (w x : World) (e : Ended) (t : Bool) → all ≡ walk_from m c k last room w → room ≡ suc less → IsAt m c pc w true true
        → step m [] w ≡ (e, x) → has_touched w x ≡ t → all ≡ next_of t e pc x (walk_from m c (suc k) pc less x)
    one_step k last room less pc w x e t rest more at is touched =
        rest ∙ ap (λ n. walk_from m c k last n w) more ∙ steps k last less pc w x e t at is touched

    pub goes_on : (k last room less pc : ℕ) (w x : World) → all ≡ walk_from m c k last room w → room ≡ suc less → IsAt m c pc w true true
        → IsStepped stepped.Whole w (step m [] w) x → all ≡ walk_from m c (k + 1) pc less x
    goes_on k last room less pc w x rest more at did =
        one_step k last room less pc w x whole false rest more at did.1 did.0 ∙ ap (λ n. walk_from m c n pc less x) (let e : suc k ≡ k + 1 = omega arith in e)

    pub ends_touches : (k last room less pc : ℕ) (w x : World) → all ≡ walk_from m c k last room w → room ≡ suc less → IsAt m c pc w true true
        → IsStepped stepped.Touched w (step m [] w) x → IsWalked (walk.Touches pc) x all
    ends_touches k last room less pc w x rest more at did = one_step k last room less pc w x did.1.0 true rest more at did.1.1 did.0

    pub ends_fails : (k last room less pc : ℕ) (w x : World) (failure : Failure) → all ≡ walk_from m c k last room w → room ≡ suc less → IsAt m c pc w true true
        → IsStepped (stepped.Failed failure) w (step m [] w) x → IsWalked (walk.Fails failure pc) x all
    ends_fails k last room less pc w x failure rest more at did =
        (cut did.1.0, one_step k last room less pc w x (cut did.1.0) false rest more at did.1.1 did.0, did.1.2)

    -- the fault is one of the text where the code is there
    pub never_else : (k last room less pc : ℕ) (w x : World) → ((e : Ended) → all ≡ (fails e pc, x) → IsPlainCut e) → all ≡ walk_from m c k last room w → room ≡ suc less
        → IsAt m c pc w true true → IsStepped stepped.Halted w (step m [] w) x → ⊥
    never_else k last room less pc w x plain rest more at did =
        plain_fails (cut did.1.0) (plain (cut did.1.0) (one_step k last room less pc w x (cut did.1.0) false rest more at did.1.1 did.0)) did.1.2

-- where the PC is, by the tests of the code
pub is_out : (m : Machine) (c : Constants) (pc : ℕ) (w : World) (a : Bool) → pc ≡ pc_of m w.state → a ≡ is_inside c pc → a ≡ false
    → IsAt m c pc w false (nat_le (pc + size_at m c pc) (end_of c))
is_out m c pc w a there inside out = record { pc_is = sym there; inside = sym inside ∙ out; fits = refl }

pub is_at : (m : Machine) (c : Constants) (pc : ℕ) (w : World) (short a b d : Bool) → pc ≡ pc_of m w.state → short ≡ m.short → a ≡ is_inside c pc → a ≡ true
    → b ≡ nat_le (pc + size_by short (is_long (byte_of c pc))) (end_of c) → b ≡ d → IsAt m c pc w true d
is_at m c pc w short a b d there same inside in_code fits is = record {
  pc_is = sym there;
  inside = sym inside ∙ in_code;
  fits = ap (λ s. nat_le (pc + size_by s (is_long (byte_of c pc))) (end_of c)) (sym same) ∙ sym fits ∙ is;
}
