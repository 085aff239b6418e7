-- Without an access the registers alone are changed, and what comes of them depends on them alone.
use Rattle.std.proofs.Common.{◌≡◌, ℕ, false, ◌||◌, List, [], ◌∷◌, length, map, refl, sym, ap, ap₂, ◌∙◌, subst, inl, inr, true≢false}
use Rattle.std.specs.Prelude.{slice_index_or}
use Rattle.std.specs.List.{list_any}
use Rattle.std.proofs.lemmas.List.{length-map, ext_get_or}
use Rattle.bv_bits.specs.declared.Bits.{Bits}
use Rattle.bv_bits.specs.Bits.{width_of}
use Rattle.state_core.specs.State.{Memory, register_of, widths_of}
use Rattle.state_core.specs.World.{World}
use Rattle.state_core.specs.declared.kinds.Access.{Access}
use Rattle.state_core.specs.declared.kinds.DevEvent.{DevEvent}
use Rattle.sail_values.specs.declared.value.Value.{Value}
use Rattle.eval_rules.specs.Flow.{Out, gives, stops}
use Rattle.eval_rules.specs.Moments.{Did, Moment, Use, used_at, uses_in}
use Rattle.eval_uses.specs.Uses.{is_access, has_access, dids, world_in, SameRest, Alike, SameOrKept, ReachedAlike, OutcomesAlike, both_give, both_stop, with_registers, with_rest_of}
use Rattle.eval_uses.specs.UseLaws.{IsQuiet}
use Rattle.eval_uses.proofs.Told.{Told}

-- ---- what is done tells the rest

-- the uses of what is done
abbrev used_by : List Did → List Use
used_by [] = []
used_by (d ∷ ds) = used_at d (used_by ds)

uses_by_dids : (ms : List Moment) → uses_in ms ≡ used_by (dids ms)
uses_by_dids [] = refl
uses_by_dids (m ∷ ms) = ap (used_at m.did) (uses_by_dids ms)

access_by_dids : (ms : List Moment) → has_access ms ≡ list_any is_access (dids ms)
access_by_dids [] = refl
access_by_dids (m ∷ ms) = ap (λ b. is_access m.did || b) (access_by_dids ms)

same_uses : (ms ns : List Moment) → dids ns ≡ dids ms → uses_in ns ≡ uses_in ms
same_uses ms ns e = uses_by_dids ns ∙ ap used_by e ∙ sym (uses_by_dids ms)

same_accesses : (ms ns : List Moment) → dids ns ≡ dids ms → has_access ns ≡ has_access ms
same_accesses ms ns e = access_by_dids ns ∙ ap (list_any is_access) e ∙ sym (access_by_dids ms)

-- ---- worlds

abbrev none : Bits
none = record { width = 0; value = 0 }

-- a world of its parts
abbrev parts : List Bits → Memory → List ℕ → List Access → List DevEvent → World
parts rs m a c e = record { state = record { registers = rs; memory = m }; answers = a; accesses = c; events = e }

-- a world that has the rest of another one
with_rest : (v y : World) (rs : List Bits) → y.state.registers ≡ rs → SameRest v y → y ≡ with_registers rs v
with_rest v y rs h s =
    ap (λ i. parts i y.state.memory y.answers y.accesses y.events) h
    ∙ ap₂ (λ m a. parts rs m a y.accesses y.events) s.outside.memory s.outside.answers
    ∙ ap₂ (λ c e. parts rs v.state.memory v.answers c e) s.accesses s.events

module _ (ms : List Moment) (w v : World) (same : v.state.registers ≡ w.state.registers) where
  alike_by_registers : has_access ms ≡ false → Alike ms w v
  alike_by_registers calm = record {
    registers = λ r h. ap (λ rs. slice_index_or rs r none) same;
    widths = ap (map width_of) same;
    outside = λ h. absurd (true≢false (sym h ∙ calm));
  }

  one_register : (x y : World) (r : ℕ) → SameOrKept ms w v x y r → register_of y.state r ≡ register_of x.state r
  one_register x y r (inl s) = s.1
  one_register x y r (inr k) = k.1 ∙ ap (λ rs. slice_index_or rs r none) same ∙ sym k.0

  many : (x y : World) → widths_of x.state ≡ widths_of w.state → widths_of y.state ≡ widths_of v.state → length y.state.registers ≡ length x.state.registers
  many x y wide broad =
      sym (length-map y.state.registers width_of) ∙ ap length (broad ∙ ap (map width_of) same ∙ sym wide) ∙ length-map x.state.registers width_of

  reached_registers : (x y : World) → ReachedAlike ms w v x y → widths_of x.state ≡ widths_of w.state → widths_of y.state ≡ widths_of v.state
      → y.state.registers ≡ x.state.registers
  reached_registers x y s wide broad =
      ext_get_or none y.state.registers x.state.registers (many x y wide broad) (λ r below. one_register x y r (s.registers r))

  quiet_ends : has_access ms ≡ false → (one two : Out Value) → widths_of (world_in one).state ≡ widths_of w.state → widths_of (world_in two).state ≡ widths_of v.state
      → OutcomesAlike ms w v one two → two ≡ with_rest_of v one
  quiet_ends calm one two wide broad (both_give x l u t e h s) =
      let regs : t.state.registers ≡ u.state.registers = reached_registers u t s (subst (λ o. widths_of (world_in o).state ≡ widths_of w.state) e wide)
      (subst (λ o. widths_of (world_in o).state ≡ widths_of v.state) h broad) in
      h ∙ ap (gives x l) (with_rest v t u.state.registers regs (s.rest calm)) ∙ ap (with_rest_of v) (sym e)
  quiet_ends calm one two wide broad (both_stop why u t e h s) =
      let regs : t.state.registers ≡ u.state.registers = reached_registers u t s (subst (λ o. widths_of (world_in o).state ≡ widths_of w.state) e wide)
      (subst (λ o. widths_of (world_in o).state ≡ widths_of v.state) h broad) in
      h ∙ ap (stops why) (with_rest v t u.state.registers regs (s.rest calm)) ∙ ap (with_rest_of v) (sym e)

pub told_quiet : (run : World → Out Value) (ms : World → List Moment) → Told run ms → IsQuiet run ms
told_quiet run ms t w v calm same =
    let p = t.pairs w v (alike_by_registers (ms w) w v same calm) in
    record {
      ends = quiet_ends (ms w) w v same calm (run w) (run v) ((t.keeps w).widths) ((t.keeps v).widths) p.ends;
      uses = same_uses (ms w) (ms v) p.same;
      accesses = same_accesses (ms w) (ms v) p.same ∙ calm;
    }
