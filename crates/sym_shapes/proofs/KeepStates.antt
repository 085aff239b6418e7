-- What follows a trace that keeps the rules leaves a state of the program.
use Rattle.std.proofs.Common.{◌≡◌, ℕ, zero, suc, ◌*◌, ◌<◌, Bool, true, false, ◌&&◌, List, [], ◌∷◌, ◌++◌, length, map, Option, Some, None, nat_eq, refl, sym, ap, ◌∙◌, subst, arith, ◌⊎◌, inl, inr}
use Rattle.std.specs.Prelude.{⊤, slice_get, slice_set, slice_index_or}
use Rattle.std.proofs.lemmas.List.{length-map}
use Rattle.std.proofs.lemmas.List.Elements.{All-set}
use Rattle.std.proofs.Math.Seq.{map-set_same}
use Rattle.bv_bits.specs.declared.Bits.{Bits}
use Rattle.bv_bits.specs.Bits.{IsBits, width_of as width_of_bits}
use Rattle.lex_core.specs.declared.name.RegDecl.{RegDecl}
use Rattle.sail_syntax.specs.Program.{Definition, registers_of}
use Rattle.state_core.specs.declared.kinds.FaultKind.TheVariants as kind
use Rattle.state_core.specs.declared.kinds.Range.{Range}
use Rattle.state_core.specs.State.{State, IsState, register_of, widths_of}
use Rattle.state_core.specs.World.{World, Got, gets, faults, lacks, reached}
use Rattle.state_core.specs.Memory.{Nothing, load, store}
use Rattle.state_core.specs.Laws.{IsRead, IsStored}
use Rattle.term_tree.specs.Terms.{Tree, IsTyped, width_of, same_bits}
use Rattle.term_tree.specs.Values.{IsValues, value}
use Rattle.term_tree.proofs.FitLemmas.{value_fits}
use Rattle.term_tree.proofs.PairLemmas.{values_are}
use Rattle.eval_types.specs.Types.{StateFits, declared_width}
use Rattle.eval_types.proofs.GivenLemmas.{Accesses, store_registers, state_stored}
use Rattle.eval_types.proofs.NameLemmas.{IsRegister, register_fits}
use Rattle.trace_plain.specs.Trace.{Event, read_reg, write_reg, read_mem, write_mem, assume, need, assume_reg, Trace, trace, End, done, fail, cases, Traces, none, some}
use Rattle.trace_plain.specs.Terms.{OfEvent, OfEvents, OfTrace, OfEnd, OfTraces}
use Rattle.trace_plain.specs.Rules.{IsByteCount, register_width, KeepsRules, bound_behind, KeepRules, TraceKeepsRules, EndKeepsRules, ChildrenKeepRules}
use Rattle.trace_plain.specs.Following.{Path, path_from, faulted, Outcome, ended, Step, goes, halts, blocked, step_if, is_one, value_on, binds_read, goes_behind, saw_assumed, with_register, act, AfterStep, AfterEvents, Follows, FollowsEnd, FollowsAny}
use Rattle.sym_follows.proofs.Agree.{values_at, bound_valid}
use Rattle.sym_shapes.specs.Keeps.{PathFits, StepFits, EventsKeepStates, OutcomesKeepStates, TracesKeepStates}
use Rattle.sym_shapes.specs.Shapes.{IsMadeTerm}
use Rattle.sym_rules.specs.Sym.{trace_of}
use Rattle.sym_shapes.proofs.OverTrees.{bytes_wide}
use Rattle.sym_shapes.proofs.Traced.{traces_keep_rules, traces_have_made_terms}

-- the width of a register, among all widths
width_among : (ds : List RegDecl) (r w : ℕ) → register_width ds r ≡ Some w → slice_get (map declared_width ds) r ≡ Some w
width_among [] r w e = absurd cc
width_among (d ∷ ds) zero w e = e
width_among (d ∷ ds) (suc r) w e = width_among ds r w e

module _ (defs : List Definition) (ranges : List Range) (accesses : Accesses ranges) where
  -- the register of a state of the program
  there : (p : Path) (r w : ℕ) → PathFits defs p → register_width (registers_of defs) r ≡ Some w → IsRegister (register_of p.world.state r) w
  there p r w fit e = register_fits defs p.world.state r w fit.state (width_among (registers_of defs) r w e)

  step_if_fits : (c : Bool) (s t : Step) → StepFits defs s → StepFits defs t → StepFits defs (step_if c s t)
  step_if_fits true s t h k = h
  step_if_fits false s t h k = k

  -- a register that is written has a value of its width
  write_fits : (p : Path) (r w : ℕ) (b : Bits) → PathFits defs p → IsRegister (register_of p.world.state r) w → IsBits b → b.width ≡ w → StateFits defs (with_register r b p.world).state
  write_fits p r w b fit at hb e = record {
    values = record { registers = All-set IsBits p.world.state.registers r b hb fit.state.values.registers; memory = fit.state.values.memory };
    widths = map-set_same width_of_bits p.world.state.registers r b (record { width = 0; value = 0 }) (e ∙ sym at.width) ∙ fit.state.widths;
  }

  read_fits : (n var : ℕ) (p : Path) (got : Got ℕ) → IsByteCount n → IsRead n p.world got → PathFits defs p → StepFits defs (binds_read var n p got)
  read_fits n var p (gets x w) count r fit =
      let wide = bytes_wide n count in
      record {
        variables = bound_valid p.vars var (record { width = 8 * n; value = x }) (record { positive = wide.positive; at_most = wide.at_most; fits = r.fits fit.state.values }) fit.variables;
        state = subst (StateFits defs) (sym r.state) fit.state;
      }
  read_fits n var p (faults k w) count r fit = subst (StateFits defs) (sym r.state) fit.state
  read_fits n var p (lacks w) count r fit = subst (StateFits defs) (sym r.state) fit.state

  behind_write : (p : Path) (got : Got Nothing) → PathFits defs p → StateFits defs (reached got).state → StepFits defs (goes_behind p got)
  behind_write p (gets x w) fit h = record { variables = fit.variables; state = h }
  behind_write p (faults k w) fit h = h
  behind_write p (lacks w) fit h = h

  pub event_fits : (bound : List ℕ) (e : Event) (p : Path) → KeepsRules (registers_of defs) bound e → OfEvent IsTyped e → PathFits defs p → StepFits defs (act ranges e p)
  event_fits bound (read_reg r var) p k h fit =
      record { variables = bound_valid p.vars var (register_of p.world.state r) ((there p r k.width fit k.register).fit) fit.variables; state = fit.state }
  event_fits bound (write_reg r t) p k h fit =
      let v = value_fits (values_at p.vars) t fit.variables h in
      record { variables = fit.variables; state = write_fits p r k.width (value_on p t) fit (there p r k.width fit k.register) v.0 (v.1 ∙ k.term.width) }
  event_fits bound (read_mem var at n) p k h fit = read_fits n var p (load ranges (value_on p at).value n p.world) k.2 (accesses.loads (value_on p at).value n p.world) fit
  event_fits bound (write_mem at t n) p k h fit =
      let got = store ranges (value_on p at).value n (value_on p t).value p.world in
      behind_write p got fit
      (state_stored defs ranges accesses [] p.world got (accesses.stores (value_on p at).value n (value_on p t).value p.world) (store_registers ranges (value_on p at).value n (value_on p t).value p.world) fit.state)
  event_fits bound (assume t) p k h fit = step_if_fits (is_one (value_on p t)) (goes p) blocked fit tt
  event_fits bound (need t) p k h fit = step_if_fits (is_one (value_on p t)) (goes p) (halts (ended (faulted kind.AssertFail) p)) fit fit.state
  event_fits bound (assume_reg r b) p k h fit = step_if_fits (same_bits (register_of p.world.state r) b) (goes (saw_assumed r p)) blocked (record { variables = fit.variables; state = fit.state }) tt

  -- ---- traces

  step_keeps : (s : Step) (rest : Path → Outcome → Type 0) (out : Outcome) → StepFits defs s → ((p : Path) → PathFits defs p → rest p out → StateFits defs out.world.state) → AfterStep s rest out → StateFits defs out.world.state
  step_keeps (goes p) rest out fit each h = each p fit h
  step_keeps (halts end) rest out fit each h = subst (λ out. StateFits defs out.world.state) (sym h) fit
  step_keeps blocked rest out fit each h = absurd h

  events_keep : (R : List ℕ → Type 0) (rest : Path → Outcome → Type 0) (out : Outcome) → ((bound : List ℕ) (p : Path) → R bound → PathFits defs p → rest p out → StateFits defs out.world.state)
      → (es : List Event) (bound : List ℕ) (p : Path) → KeepRules (registers_of defs) R bound es → OfEvents IsTyped es → PathFits defs p → AfterEvents ranges es rest p out → StateFits defs out.world.state
  events_keep R rest out each [] bound p k h fit f = each bound p k fit f
  events_keep R rest out each (e ∷ es) bound p k h fit f =
      step_keeps (act ranges e p) (AfterEvents ranges es rest) out (event_fits bound e p k.0 h.0 fit) (λ q fits g. events_keep R rest out each es (bound_behind (registers_of defs) bound e) q k.1 h.1 fits g) f

  mutual
    pub trace_keeps : (t : Trace) (bound : List ℕ) (p : Path) (out : Outcome) → TraceKeepsRules (registers_of defs) t bound → OfTrace IsTyped t → PathFits defs p → Follows ranges t p out → StateFits defs out.world.state
    trace_keeps (trace events end) bound p out k h fit f =
        events_keep (EndKeepsRules (registers_of defs) end) (FollowsEnd ranges end) out (λ b q r fits g. end_keeps end b q out r h.1 fits g) events bound p k h.0 fit f

    end_keeps : (end : End) (bound : List ℕ) (p : Path) (out : Outcome) → EndKeepsRules (registers_of defs) end bound → OfEnd IsTyped end → PathFits defs p → FollowsEnd ranges end p out → StateFits defs out.world.state
    end_keeps done bound p out k h fit f = subst (λ out. StateFits defs out.world.state) (sym f) fit.state
    end_keeps (fail kind) bound p out k h fit f = subst (λ out. StateFits defs out.world.state) (sym f) fit.state
    end_keeps (cases none) bound p out k h fit f = absurd k
    end_keeps (cases (some t ts)) bound p out k h fit (inl f) = trace_keeps t bound p out k.0 h.0 fit f
    end_keeps (cases (some t ts)) bound p out k h fit (inr f) = any_keeps ts bound p out k.1 h.1 fit f

    any_keeps : (ts : Traces) (bound : List ℕ) (p : Path) (out : Outcome) → ChildrenKeepRules (registers_of defs) ts bound → OfTraces IsTyped ts → PathFits defs p → FollowsAny ranges ts p out → StateFits defs out.world.state
    any_keeps none bound p out k h fit f = absurd f
    any_keeps (some t ts) bound p out k h fit (inl f) = trace_keeps t bound p out k.0 h.0 fit f
    any_keeps (some t ts) bound p out k h fit (inr f) = any_keeps ts bound p out k.1 h.1 fit f

-- ---- terms of a made trace are typed

event_typed : (e : Event) → OfEvent IsMadeTerm e → OfEvent IsTyped e
event_typed (read_reg r var) h = tt
event_typed (write_reg r t) h = h.typed
event_typed (read_mem var at n) h = h.typed
event_typed (write_mem at t n) h = (h.0.typed, h.1.typed)
event_typed (assume t) h = h.typed
event_typed (need t) h = h.typed
event_typed (assume_reg r value) h = tt

events_typed : (es : List Event) → OfEvents IsMadeTerm es → OfEvents IsTyped es
events_typed [] h = tt
events_typed (e ∷ es) h = (event_typed e h.0, events_typed es h.1)

mutual
  trace_typed : (t : Trace) → OfTrace IsMadeTerm t → OfTrace IsTyped t
  trace_typed (trace events end) h = (events_typed events h.0, end_typed end h.1)

  end_typed : (end : End) → OfEnd IsMadeTerm end → OfEnd IsTyped end
  end_typed done h = tt
  end_typed (fail kind) h = tt
  end_typed (cases ts) h = all_typed ts h

  all_typed : (ts : Traces) → OfTraces IsMadeTerm ts → OfTraces IsTyped ts
  all_typed none h = tt
  all_typed (some t ts) h = (trace_typed t h.0, all_typed ts h.1)

-- ---- the laws

pub events_keep_states : ((ranges : List Range) → Accesses ranges) → EventsKeepStates
events_keep_states accesses defs ranges bound e p k h fit = event_fits defs ranges (accesses ranges) bound e p k h fit

pub outcomes_keep_states : ((ranges : List Range) → Accesses ranges) → OutcomesKeepStates
outcomes_keep_states accesses defs ranges bound t p out k h fit f = trace_keeps defs ranges (accesses ranges) t bound p out k h fit f

pub traces_keep_states : ((ranges : List Range) → Accesses ranges) → TracesKeepStates
traces_keep_states accesses defs given ranges f b w out program assumed bits state follows =
    let none_bound : IsValues (values_at []) = values_are (record { bits = []; arrays = [] }) (record { bits = λ i d h. absurd (omega (arith, h)); arrays = λ i d h. absurd (omega (arith, h)) }) in
    trace_keeps defs ranges (accesses ranges) (trace_of defs given f b) [] (path_from [] w) out (traces_keep_rules defs given f b program assumed bits)
    (trace_typed (trace_of defs given f b) (traces_have_made_terms defs given f b program assumed bits)) (record { variables = none_bound; state = state }) follows
