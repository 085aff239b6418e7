-- A walk of one state that leaves the code at the exit makes the run of every state that meets the entry safe.
use Rattle.std.proofs.Common.{◌≡◌, ◌≢◌, ℕ, zero, suc, ◌+◌, ◌-◌, ◌^◌, ◌<◌, ◌≤◌, List, [], ◌∷◌, ◌++◌, length, refl, sym, ap, ◌∙◌, subst, arith, Bool, true, false, Some, None, All, Contains, ◌⊎◌, inl, inr}
use Rattle.std.specs.Prelude.{slice_index_or, if◌then◌else◌, nat_le, nat_eq}
use Rattle.std.specs.declared.option.Option.{Option}
use Rattle.std.proofs.lemmas.Bool.{leb-true}
use Rattle.std.proofs.Common.{eqb-true}
use Rattle.std.proofs.lemmas.List.{length-map}
use Rattle.std.proofs.lemmas.List.Elements.{All-head, All-tail, All-cons, All-append, All-nil, All-weaker, All-same, Contains-append_right}
use Rattle.bv_bits.specs.declared.Bits.{Bits}
use Rattle.sail_syntax.specs.Program.{Definition, registers_of}
use Rattle.state_core.specs.declared.kinds.Access.{Access}
use Rattle.state_core.specs.declared.kinds.FaultKind.{FaultKind}
use Rattle.state_core.specs.State.{State, Memory, register_of}
use Rattle.state_core.specs.World.{World, start, gets}
use Rattle.state_core.specs.Claims.{register, register_is, bytes_are, HasBytes, Holds, bytes_from, all_parts, IsDisjoint}
use Rattle.state_core.specs.Devices.{Judged, all_taken, no_candidate, write_off, read_off, judge}
use Rattle.state_core.specs.declared.word.Word.{Word}
use Rattle.eval_words.specs.Instr.{Ended, whole, instr_of, uses_of_instr}
use Rattle.eval_rules.specs.Moments.{Use, use_reads, use_writes}
use Rattle.eval_uses.specs.Uses.{with_registers}
use Rattle.machine_run.specs.Words.{is_long, fetch_word}
use Rattle.machine_run.specs.Machine.{Machine, pc_of, executed, step, used, step_uses, Stop, at_count, at_exit, at_fault, at_answer, Ran, exit_of, followed, stepped, run}
use Rattle.machine_run.specs.Program.{machine_of, width_in}
use Rattle.machine_safe.specs.Routine.{Routine, code_claims, cover_parts, own}
use Rattle.machine_safe.specs.Safe.{AccessInside, FetchInside, UseInside, EventInside, ExitHolds, IsCleanRun, IsSafeRun, IsSafe}
use Rattle.machine_safe.specs.First.{Constants, end_of, values_are, spec_of, no_transitions, no_variables, is_inside, Walked, byte_of, size_by, size_at, has_touched, left, outside, fails, too_many, next_of, walk_from, FitsForm, IsPartial, IsPlainCut}
use Rattle.machine_safe.proofs.Entries.{entry_registers}
use Rattle.machine_safe.proofs.Words.{fetches_by, noting, word_by, word_there}
use Rattle.machine_safe.proofs.Calm.{IsPlainEnded, IsCalm, UseBelow, calm_by, calm_untouched}
use Rattle.machine_safe.proofs.Parts.{registers_in, parts_are, register_contained, parts_differ, registers_free}
use Rattle.machine_safe.proofs.Endings.{walked_number, opened, closed, went, none_left, low_of, no_end, position_there, position_not, fails_by}
use Rattle.machine_safe.proofs.Covered.{fetches_owned, fetches_covered}

abbrev stop_number : Stop → ℕ
stop_number at_count = 0
stop_number (at_exit i) = 1
stop_number (at_fault kind at) = 2
stop_number at_answer = 3

abbrev judged_number : Judged → ℕ
judged_number (all_taken states) = 0
judged_number (no_candidate i) = 1
judged_number (write_off i) = 2
judged_number (read_off i) = 3

module _ (defs : List Definition) (c : Constants) where
  abbrev m : Machine
  m = machine_of defs

  abbrev spec : Routine (Unit {0}) (Unit {0}) (Unit {0})
  spec = spec_of c

  -- the PC of registers
  abbrev pc_in : List Bits → ℕ
  pc_in rs = (slice_index_or rs m.pc (record { width = 0; value = 0 })).value

  -- whether the word there is long
  abbrev long_in : List Bits → Bool
  long_in rs = is_long (byte_of c (pc_in rs))

  -- the word, and its fetches
  abbrev word_in : List Bits → Word
  word_in rs = word_by m.short (long_in rs) c.code (pc_in rs - c.lo)

  abbrev fetches_in : List Bits → List Access
  fetches_in rs = fetches_by m.short (long_in rs) (pc_in rs)

  abbrev size_in : List Bits → ℕ
  size_in rs = size_by m.short (long_in rs)

  -- a world with the registers, behind the fetch of their word
  abbrev behind_fetch : List Bits → World → World
  behind_fetch rs w = noting (fetches_in rs) w

  -- the PC's word lies in the code, which is there
  record InCode (rs : List Bits) (w : World) : Type 0 where
    pub same : w.state.registers ≡ rs
    pub has : HasBytes w.state.memory c.lo c.code
    pub low : c.lo ≤ pc_in rs
    pub fits : pc_in rs + size_in rs ≤ end_of c
    pub place : end_of c ≤ 2 ^ 64

  fetch_is : (rs : List Bits) (w : World) → InCode rs w → fetch_word m.short [] (pc_of m w.state) w ≡ gets (word_in rs) (behind_fetch rs w)
  fetch_is rs w at = ap (λ r. fetch_word m.short [] (pc_in r) w) at.same ∙ word_there c w (pc_in rs) at.has at.low at.place m.short (long_in rs) refl at.fits

  step_is : (rs : List Bits) (w : World) → InCode rs w → step m [] w ≡ instr_of defs [] (word_in rs) (behind_fetch rs w)
  unfolding step
  step_is rs w at = ap (executed m []) (fetch_is rs w at)

  uses_are : (rs : List Bits) (w : World) → InCode rs w → step_uses m [] w ≡ uses_of_instr defs [] (word_in rs) (behind_fetch rs w)
  unfolding step_uses
  uses_are rs w at = ap (used m []) (fetch_is rs w at)

  -- a step that touches nothing is one of registers alone
  calm_step : (w : World) → InCode w.state.registers w → has_touched w (step m [] w).1 ≡ false → IsCalm defs (word_in w.state.registers) (behind_fetch w.state.registers w)
  calm_step w at quiet =
      let rs = w.state.registers in
      calm_by defs (word_in rs) (behind_fetch rs w)
      (calm_untouched defs (word_in rs) w (behind_fetch rs w) (fetches_in rs, refl) (ap (λ (s : Ended × World). has_touched w s.1) (sym (step_is rs w at)) ∙ quiet))

  -- what it leaves
  kept_bytes : (w : World) → InCode w.state.registers w → has_touched w (step m [] w).1 ≡ false → HasBytes (step m [] w).1.state.memory c.lo c.code
  kept_bytes w at quiet =
      subst (λ (x : Memory). HasBytes x c.lo c.code)
      (sym (ap (λ (s : Ended × World). s.1.state.memory) (step_is w.state.registers w at) ∙ (calm_step w at quiet).rest.outside.memory)) at.has

  -- ---- the walk

  record Stepped (w e : World) (k l : ℕ) : Type 0 where
    pub here : InCode w.state.registers w
    pub quiet : has_touched w (step m [] w).1 ≡ false
    pub ended : (step m [] w).0 ≡ whole
    pub count : ℕ
    pub last : ℕ
    pub room : ℕ
    pub rest : walk_from m c count last room (step m [] w).1 ≡ (left k l, e)

  walk_steps : (w e : World) (k l count last room : ℕ) → HasBytes w.state.memory c.lo c.code → end_of c ≤ 2 ^ 64
      → is_inside c (pc_of m w.state) ≡ true → walk_from m c count last room w ≡ (left k l, e) → Stepped w e k l
  walk_steps w e k l count last zero has place inside is =
      absurd (none_left k l e (too_many (pc_of m w.state), w) refl
      (opened (is_inside c (pc_of m w.state)) (nat_le (pc_of m w.state + size_at m c (pc_of m w.state)) (end_of c)) (pc_of m w.state) count last k l w e (too_many (pc_of m w.state), w) inside is).1)
  walk_steps w e k l count last (suc room) has place inside is =
      let s = step m [] w in
      let o = opened (is_inside c (pc_of m w.state)) (nat_le (pc_of m w.state + size_at m c (pc_of m w.state)) (end_of c)) (pc_of m w.state) count last k l w e
      (next_of (has_touched w s.1) s.0 (pc_of m w.state) s.1 (walk_from m c (suc count) (pc_of m w.state) room s.1)) inside is in
      let g = went (has_touched w s.1) s.0 (pc_of m w.state) k l s.1 e (walk_from m c (suc count) (pc_of m w.state) room s.1) o.1 in
      record {
        here = record {
          same = refl;
          has = has;
          low = low_of c (pc_of m w.state) inside;
          fits = leb-true (pc_of m w.state + size_at m c (pc_of m w.state)) (end_of c) o.0;
          place = place;
        };
        quiet = g.0;
        ended = g.1;
        count = suc count;
        last = pc_of m w.state;
        room = room;
        rest = g.2;
      }

  walk_stays : (w e : World) (k l count last room : ℕ) → is_inside c (pc_of m w.state) ≡ false → walk_from m c count last room w ≡ (left k l, e) → w ≡ e
  walk_stays w e k l count last zero out is =
      closed (is_inside c (pc_of m w.state)) (nat_le (pc_of m w.state + size_at m c (pc_of m w.state)) (end_of c)) (pc_of m w.state) count last k l w e (too_many (pc_of m w.state), w) out is
  walk_stays w e k l count last (suc room) out is =
      let s = step m [] w in
      closed (is_inside c (pc_of m w.state)) (nat_le (pc_of m w.state + size_at m c (pc_of m w.state)) (end_of c)) (pc_of m w.state) count last k l w e
      (next_of (has_touched w s.1) s.0 (pc_of m w.state) s.1 (walk_from m c (suc count) (pc_of m w.state) room s.1)) out is

  -- ---- a walk that fails

  plain_step : (w : World) → InCode w.state.registers w → has_touched w (step m [] w).1 ≡ false → IsPlainEnded (step m [] w).0
  plain_step w at quiet = subst (λ (s : Ended × World). IsPlainEnded s.0) (sym (step_is w.state.registers w at)) (calm_step w at quiet).plain

  walk_fails_by : (b d : Bool) (count last room at : ℕ) (w x : World) (e : Ended) → HasBytes w.state.memory c.lo c.code → end_of c ≤ 2 ^ 64
      → is_inside c (pc_of m w.state) ≡ b → nat_le (pc_of m w.state + size_at m c (pc_of m w.state)) (end_of c) ≡ d
      → ((e : Ended) (v : World) → HasBytes v.state.memory c.lo c.code → walk_from m c (suc count) (pc_of m w.state) room v ≡ (fails e at, x) → IsPlainCut e)
      → (if b then (if d then next_of (has_touched w (step m [] w).1) (step m [] w).0 (pc_of m w.state) (step m [] w).1 (walk_from m c (suc count) (pc_of m w.state) room (step m [] w).1)
      else (outside (pc_of m w.state), w)) else (left count last, w)) ≡ (fails e at, x) → IsPlainCut e
  walk_fails_by true true count last room at w x e has place inside fits more is =
      let here : InCode w.state.registers w = record {
        same = refl;
        has = has;
        low = low_of c (pc_of m w.state) inside;
        fits = leb-true (pc_of m w.state + size_at m c (pc_of m w.state)) (end_of c) fits;
        place = place;
      } in
      fails_by (has_touched w (step m [] w).1) (step m [] w).0 (pc_of m w.state) at (step m [] w).1 x e (walk_from m c (suc count) (pc_of m w.state) room (step m [] w).1)
      (plain_step w here) (λ quiet f r. more f (step m [] w).1 (kept_bytes w here quiet) r) is
  walk_fails_by true false count last room at w x e has place inside fits more is = let h : 1 ≡ 2 = ap (λ r. walked_number r.0) is in absurd (omega (arith, h))
  walk_fails_by false d count last room at w x e has place inside fits more is = let h : 0 ≡ 2 = ap (λ r. walked_number r.0) is in absurd (omega (arith, h))

  full_never_fails : (b d : Bool) (pc count last at : ℕ) (w x : World) (e : Ended) (further : Walked × World) → walked_number further.0 ≡ 3
      → (if b then (if d then further else (outside pc, w)) else (left count last, w)) ≡ (fails e at, x) → IsPlainCut e
  full_never_fails true true pc count last at w x e further full is = let h : walked_number further.0 ≡ 2 = ap (λ r. walked_number r.0) is in absurd (omega (arith, h, full))
  full_never_fails true false pc count last at w x e further full is = let h : 1 ≡ 2 = ap (λ r. walked_number r.0) is in absurd (omega (arith, h))
  full_never_fails false d pc count last at w x e further full is = let h : 0 ≡ 2 = ap (λ r. walked_number r.0) is in absurd (omega (arith, h))

  -- nothing but a fault of the text makes a walk fail
  pub walk_fails : (count last room at : ℕ) (w x : World) (e : Ended) → HasBytes w.state.memory c.lo c.code → end_of c ≤ 2 ^ 64
      → walk_from m c count last room w ≡ (fails e at, x) → IsPlainCut e
  walk_fails count last zero at w x e has place is =
      full_never_fails (is_inside c (pc_of m w.state)) (nat_le (pc_of m w.state + size_at m c (pc_of m w.state)) (end_of c)) (pc_of m w.state) count last at w x e
      (too_many (pc_of m w.state), w) refl is
  walk_fails count last (suc room) at w x e has place is =
      walk_fails_by (is_inside c (pc_of m w.state)) (nat_le (pc_of m w.state + size_at m c (pc_of m w.state)) (end_of c)) count last room at w x e has place refl refl
      (λ f v there r. walk_fails (suc count) (pc_of m w.state) room at v x f there place r) is

  -- ---- the run

  -- a world whose past is harmless
  record IsGood (w : World) : Type 0 where
    pub accesses : All (AccessInside [] spec tt tt) w.accesses
    pub fetches : All (FetchInside spec) w.accesses
    pub events : w.events ≡ []
    pub code : HasBytes w.state.memory c.lo c.code

  -- the world behind a step from a world with these registers
  abbrev behind : List Bits → List Bits → World → World
  behind rs ss v = with_registers ss (behind_fetch rs v)

  good_behind : (rs ss : List Bits) (v : World) → InCode rs v → IsGood v → IsGood (behind rs ss v)
  good_behind rs ss v at good = record {
    accesses = All-append (AccessInside [] spec tt tt) v.accesses (fetches_in rs) good.accesses (fetches_owned c m.short (long_in rs) (pc_in rs) at.low at.fits);
    fetches = All-append (FetchInside spec) v.accesses (fetches_in rs) good.fetches (fetches_covered c m.short (long_in rs) (pc_in rs) at.low at.fits);
    events = good.events;
    code = good.code;
  }

  abbrev Declared : Use → Type 0
  Declared u = UseBelow (length (registers_of defs)) u

  -- a run that is harmless, has no fault, and comes to an exit with the registers of the walk's end
  record IsGoodRun (e : World) (ran : Ran) : Type 0 where
    pub good : IsGood ran.world
    pub used : All Declared ran.uses
    pub no_fault : (kind : FaultKind) (at : ℕ) → ran.stop ≢ at_fault kind at
    pub ends : (i : ℕ) → ran.stop ≡ at_exit i → ran.world.state.registers ≡ e.state.registers

  good_start : (e w : World) → IsGood w → IsGoodRun e (record { done = 0; stop = at_count; world = w; uses = [] })
  good_start e w good = record {
    good = good;
    used = All-nil Declared;
    no_fault = λ kind at is. let h : 0 ≡ 2 = ap stop_number is in absurd (omega (arith, h));
    ends = λ i is. let h : 0 ≡ 1 = ap stop_number is in absurd (omega (arith, h));
  }

  good_exit : (e w : World) (u : List Use) (rest : Ran) → IsGood w → All Declared u → w.state.registers ≡ e.state.registers
      → IsGoodRun e (followed (Some 0) w u rest)
  good_exit e w u rest good used same = record {
    good = good;
    used = used;
    no_fault = λ kind at is. let h : 1 ≡ 2 = ap stop_number is in absurd (omega (arith, h));
    ends = λ i is. same;
  }

  good_more : (e w : World) (u : List Use) (rest : Ran) → All Declared u → IsGoodRun e rest → IsGoodRun e (followed None w u rest)
  good_more e w u rest used more = record {
    good = more.good;
    used = All-append Declared u rest.uses used more.used;
    no_fault = more.no_fault;
    ends = more.ends;
  }

  module _ (place : end_of c ≤ 2 ^ 64) (exit_outside : is_inside c c.exit_at ≡ false) (e : World) (k l : ℕ) (at_end : pc_of m e.state ≡ c.exit_at) where
    abbrev exits : List ℕ
    exits = c.exit_at ∷ []

    -- a step that touches nothing goes as from the walk's world
    record GoesAs (w v : World) : Type 0 where
      pub uses : List Use
      pub step_goes : step m [] v ≡ (whole, behind w.state.registers (step m [] w).1.state.registers v)
      pub uses_go : step_uses m [] v ≡ uses
      pub declared : All Declared uses
      pub good : IsGood (behind w.state.registers (step m [] w).1.state.registers v)

    goes_as : (w v : World) → Stepped w e k l → v.state.registers ≡ w.state.registers → IsGood v → GoesAs w v
    goes_as w v st same good =
        let rs = w.state.registers in
        let at : InCode rs v = record { same = same; has = good.code; low = st.here.low; fits = st.here.fits; place = place } in
        let calm = calm_step w st.here st.quiet in
        let there = step_is rs w st.here in
        record {
          uses = uses_of_instr defs [] (word_in rs) (behind_fetch rs w);
          step_goes = step_is rs v at ∙ calm.does (behind_fetch rs v) same
              ∙ ap (λ (s : Ended × World). (s.0, behind rs s.1.state.registers v)) (sym there)
              ∙ ap (λ f. (f, behind rs (step m [] w).1.state.registers v)) st.ended;
          uses_go = uses_are rs v at ∙ calm.used (behind_fetch rs v) same;
          declared = calm.below;
          good = good_behind rs (step m [] w).1.state.registers v at good;
        }

    good_from : (n count last room : ℕ) (w v : World) → HasBytes w.state.memory c.lo c.code → v.state.registers ≡ w.state.registers → IsGood v
        → is_inside c (pc_of m w.state) ≡ true → walk_from m c count last room w ≡ (left k l, e) → IsGoodRun e (run m [] exits n v)
    good_from zero count last room w v has same good inside is = good_start e v good
    good_from (suc n) count last room w v has same good inside is =
        let st = walk_steps w e k l count last room has place inside is in
        let y = (step m [] w).1 in
        let g = goes_as w v st same good in
        let x = behind w.state.registers y.state.registers v in
        subst (λ (s : Ended × World). IsGoodRun e (stepped s.0 s.1 (step_uses m [] v) (exit_of m exits s.1) (run m [] exits n s.1))) (sym g.step_goes)
        (subst (λ (u : List Use). IsGoodRun e (followed (exit_of m exits x) x u (run m [] exits n x))) (sym g.uses_go)
        (elim (nat_eq c.exit_at (pc_of m x.state)) as (λ b. nat_eq c.exit_at (pc_of m x.state) ≡ b → IsGoodRun e (followed (exit_of m exits x) x g.uses (run m [] exits n x))) [
          | true ↦ λ at. subst (λ (o : Option ℕ). IsGoodRun e (followed o x g.uses (run m [] exits n x))) (sym (position_there (λ a. nat_eq a (pc_of m x.state)) c.exit_at at))
              (good_exit e x g.uses (run m [] exits n x) g.good g.declared
              (ap (λ (z : World). z.state.registers) (walk_stays y e k l st.count st.last st.room (ap (is_inside c) (sym (eqb-true c.exit_at (pc_of m x.state) at)) ∙ exit_outside) st.rest)))
          | false ↦ λ off. subst (λ (o : Option ℕ). IsGoodRun e (followed o x g.uses (run m [] exits n x))) (sym (position_not (λ a. nat_eq a (pc_of m x.state)) c.exit_at off))
              (good_more e x g.uses (run m [] exits n x) g.declared
              (elim (is_inside c (pc_of m x.state)) as (λ b. is_inside c (pc_of m x.state) ≡ b → IsGoodRun e (run m [] exits n x)) [
                | true ↦ λ more. good_from n st.count st.last st.room y x (kept_bytes w st.here st.quiet) refl g.good more st.rest
                | false ↦ λ out. absurd (no_end c.exit_at (pc_of m x.state)
                    (sym at_end ∙ ap (λ (z : World). pc_of m z.state) (sym (walk_stays y e k l st.count st.last st.room out st.rest))) off)
              ] refl))
        ] refl))

    -- ---- what a safe run has

    module _ (fits : FitsForm m c) where
      register_owned : (r : ℕ) → r < length (registers_of defs) → r ≢ m.pc → Contains (own spec tt tt) (register r)
      register_owned r below other =
          let size : length m.widths ≡ length (registers_of defs) = length-map (registers_of defs) width_in in
          Contains-append_right (bytes_from c.lo (length c.code)) (all_parts (values_are c.entry)) (register r)
          (subst (λ ps. Contains ps (register r)) (sym (parts_are c.entry)) (register_contained c.entry r (fits.owned r (omega (arith, size, below)) other)))

      pc_or_owned : (r : ℕ) → r < length (registers_of defs) → (r ≡ m.pc) ⊎ Contains (own spec tt tt) (register r)
      pc_or_owned r below = elim (nat_eq r m.pc) as (λ b. nat_eq r m.pc ≡ b → (r ≡ m.pc) ⊎ Contains (own spec tt tt) (register r)) [
        | true ↦ λ is. inl (eqb-true r m.pc is)
        | false ↦ λ off. inr (register_owned r below (λ same. no_end r m.pc same off))
      ] refl

      use_inside : (u : Use) → Declared u → UseInside m spec tt tt u
      use_inside (use_reads r) below = elim (pc_or_owned r below) [ inl z ↦ inl z | inr o ↦ inr (inr o) ]
      use_inside (use_writes r) below = pc_or_owned r below

      exit_owned : (vs : List (ℕ × Bits)) → All (λ v. v.0 < length m.widths) vs → All (λ v. v.0 ≢ m.pc) vs → All (Contains (own spec tt tt)) (registers_in vs)
      exit_owned [] there other = All-nil (Contains (own spec tt tt))
      exit_owned (v ∷ vs) there other =
          let size : length m.widths ≡ length (registers_of defs) = length-map (registers_of defs) width_in in
          let below = All-head (λ v. v.0 < length m.widths) v vs there in
          All-cons (Contains (own spec tt tt)) (register v.0) (registers_in vs)
          (register_owned v.0 (omega (arith, size, below)) (All-head (λ v. v.0 ≢ m.pc) v vs other))
          (exit_owned vs (All-tail (λ v. v.0 < length m.widths) v vs there) (All-tail (λ v. v.0 ≢ m.pc) v vs other))

      values_hold : (s : State) (states : ℕ → ℕ) (vs : List (ℕ × Bits)) → s.registers ≡ e.state.registers
          → All (λ v. register_of e.state v.0 ≡ v.1) vs → All (Holds s states) (values_are vs)
      values_hold s states [] same are = All-nil (Holds s states)
      values_hold s states (v ∷ vs) same are =
          All-cons (Holds s states) (register_is v.0 (Some v.1)) (values_are vs)
          (ap (λ rs. slice_index_or rs v.0 (record { width = 0; value = 0 })) same ∙ All-head (λ v. register_of e.state v.0 ≡ v.1) v vs are)
          (values_hold s states vs same (All-tail (λ v. register_of e.state v.0 ≡ v.1) v vs are))

      code_holds : (s : State) (states : ℕ → ℕ) → HasBytes s.memory c.lo c.code → All (Holds s states) (code_claims spec.cover)
      code_holds s states has = All-cons (Holds s states) (bytes_are c.lo c.code) [] has (All-nil (Holds s states))

      judged : (states : ℕ → ℕ) (w : World) → IsGood w → judge no_transitions [] states w.events ≡ all_taken states
      judged states w good = ap (judge no_transitions [] states) good.events

      exit_holds : (states : ℕ → ℕ) (ran : Ran) → All (λ v. register_of e.state v.0 ≡ v.1) c.exit → IsGood ran.world
          → ran.world.state.registers ≡ e.state.registers → ExitHolds no_variables m no_transitions [] spec tt tt states ran
      exit_holds states ran are good same = record {
        index = 0;
        exit = record { at = λ _. c.exit_at; claims = λ _ _. values_are c.exit };
        listed = refl;
        there = sym at_end ∙ ap pc_in (sym same);
        value = tt;
        is_value = tt;
        last = states;
        taken = judged states ran.world good;
        meets = record {
          hold = values_hold ran.world.state states c.exit same are;
          code = code_holds ran.world.state states good.code;
          apart = subst (λ ps. IsDisjoint (bytes_from c.lo (length c.code) ++ ps)) (sym (parts_are c.exit)) (parts_differ (length c.code) c.lo c.exit fits.exit_differ);
          free = subst (All (λ p. Contains (cover_parts spec) p → ⊥)) (sym (parts_are c.exit)) (registers_free (length c.code) c.lo c.exit);
          inside = subst (All (Contains (own spec tt tt))) (sym (parts_are c.exit)) (exit_owned c.exit fits.exit_there fits.exit_other);
          outside = λ a b is. refl;
        };
      }

      clean_run : (states : ℕ → ℕ) (ran : Ran) → IsGoodRun e ran → IsCleanRun m no_transitions [] spec tt tt states ran
      clean_run states ran run_good = record {
        no_fault = run_good.no_fault;
        accesses = run_good.good.accesses;
        fetches = run_good.good.fetches;
        uses = All-weaker Declared (UseInside m spec tt tt) use_inside ran.uses run_good.used;
        code = code_holds ran.world.state states run_good.good.code;
        events = All-same (EventInside [] spec tt tt) ran.world.events [] run_good.good.events (All-nil (EventInside [] spec tt tt));
        candidates = λ i is. let h : 0 ≡ 1 = ap judged_number (sym (judged states ran.world run_good.good) ∙ is) in absurd (omega (arith, h));
        writes_on = λ i is. let h : 0 ≡ 2 = ap judged_number (sym (judged states ran.world run_good.good) ∙ is) in absurd (omega (arith, h));
      }

      safe_run : (states : ℕ → ℕ) (ran : Ran) → All (λ v. register_of e.state v.0 ≡ v.1) c.exit → IsGoodRun e ran
          → IsSafeRun no_variables m no_transitions [] spec tt tt states ran
      safe_run states ran are run_good = record {
        clean = clean_run states ran run_good;
        exit = λ i is. exit_holds states ran are run_good.good (run_good.ends i is);
      }

pub walked_safe : (defs : List Definition) (c : Constants) (p : State) (k l room : ℕ) (e : World)
    → FitsForm (machine_of defs) c → IsPartial (machine_of defs) c p → walk_from (machine_of defs) c 0 c.entry_at room (start p []) ≡ (left k l, e)
    → pc_of (machine_of defs) e.state ≡ c.exit_at → All (λ v. register_of e.state v.0 ≡ v.1) c.exit
    → IsSafe no_variables no_variables no_variables (machine_of defs) no_transitions [] (spec_of c)
walked_safe defs c p k l room e fits partial walk at_end are = λ f v s states answers n _ _ entry _ _.
    let m : Machine = machine_of defs in
    let has = All-head (Holds s states) (bytes_are c.lo c.code) [] entry.meets.code in
    let same = entry_registers m c s p states fits partial entry.widths entry.pc entry.meets.hold in
    safe_run defs c fits.place fits.exit_outside e k l at_end fits states (run m [] (c.exit_at ∷ []) n (start s answers)) are
    (good_from defs c fits.place fits.exit_outside e k l at_end n 0 c.entry_at room (start p []) (start s answers) partial.code same
    (record { accesses = All-nil (AccessInside [] (spec_of c) tt tt); fetches = All-nil (FetchInside (spec_of c)); events = refl; code = has })
    (ap (is_inside c) partial.pc ∙ fits.entry_inside) walk)
