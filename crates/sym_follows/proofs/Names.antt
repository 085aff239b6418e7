-- Names that are read and written.
use Rattle.std.proofs.Common.{◌≡◌, ℕ, zero, suc, ◌+◌, ◌<◌, ◌≤◌, Bool, true, false, ◌&&◌, List, [], ◌∷◌, length, Option, Some, None, nat_eq, eqb-true, eq-eqb, refl, sym, ap, ap₂, ◌∙◌, subst, subst₂, arith, append-nil}
use Rattle.std.specs.Prelude.{⊤, map, option_map, if◌then◌else◌, slice_index_or, slice_set}
use Rattle.std.proofs.lemmas.Bool.{and_from}
use Rattle.std.proofs.lemmas.List.{length-map}
use Rattle.std.proofs.Math.ListN.{get_or-map}
use Rattle.bv_bits.specs.declared.Bits.{Bits}
use Rattle.bv_bits.specs.Bits.{IsBits, IsWidth, width_of as width_of_bits}
use Rattle.sail_syntax.specs.Tree.{Text}
use Rattle.state_core.specs.declared.kinds.Range.{Range}
use Rattle.state_core.specs.State.{State, register_of, widths_of}
use Rattle.state_core.specs.World.{World}
use Rattle.state_core.specs.Laws.{Grows}
use Rattle.term_tree.specs.Terms.{Tree, lit, var, width_of, IsTyped, same_bits}
use Rattle.term_tree.specs.Values.{Values, value}
use Rattle.term_tree.proofs.FitLemmas.{value_fits}
use Rattle.trace_plain.specs.declared.trace.FailKind.TheVariants as failure
use Rattle.trace_plain.specs.Rules.{var_name}
use Rattle.trace_plain.specs.Following.{Path, failed, ended, goes, blocked, step_if, value_on, bind as binding, saw_read, saw_assumed, saw_written, in_world, with_register}
use Rattle.sail_values.specs.declared.value.Slot.{Slot}
use Rattle.sail_values.specs.declared.value.Local.{Local}
use Rattle.sail_values.specs.declared.value.Local.TheVariants as local
use Rattle.sail_values.specs.declared.value.Value.{Value}
use Rattle.sail_values.specs.declared.value.Value.TheVariants as concrete
use Rattle.sail_values.specs.Slots.{look, has, put}
use Rattle.sail_values.specs.Values.{is_vector}
use Rattle.sail_names.specs.declared.things.Thing.{Thing}
use Rattle.sail_names.specs.declared.things.Thing.TheVariants as thing
use Rattle.sail_names.specs.Things.{find_thing}
use Rattle.eval_rules.specs.Flow.{Out, gives}
use Rattle.eval_rules.specs.Names.{value_of, value_in, read_of, read, with_bits, with_value, assigned, in_state, write}
use Rattle.sym_rules.specs.Values.{SymValue, sym_unit, sym_truth, sym_bits, sym_member, SymLocal, sym_is, SymSlot, SymPath, SymSetting, entry_of, sym_look, sym_has, sym_put}
use Rattle.sym_rules.specs.Trees.{SymTree, leaf, Leaf, sym_pure}
use Rattle.sym_rules.specs.Names.{sym_value_of, knows, next_variable, counts_on, width_at as width_here, bits_leaf, first_read, known_read, register_read, thing_read, name_read, sym_read, register_written, term_written, value_written, thing_written, name_written, sym_write}
use Rattle.sym_follows.proofs.Trees.{Arrival, behind_step, arrivals, IsShort}
use Rattle.sym_follows.proofs.Values.{value_at, IsTypedValue, Is, vector_at, width_at}
use Rattle.sym_follows.proofs.Parts.{local_at, SlotsAre, look_at, has_at, put_at, put_typed, look_typed, value_of_local, value_of_typed}
use Rattle.sym_follows.proofs.Agree.{TermIs, values_at, Later, later_refl, fresh_is, Comes, Always, Agrees, comes_here, now, agrees_knows, agrees_more, comes_more, agrees_write}
use Rattle.sym_follows.proofs.Does.{Does, Sim, full, gives_up, does_leaf, does_locals, unit_always}
use Rattle.sym_follows.proofs.Things.{IsProper, IfProper, AreProper, found_proper}

-- a term of a bit vector
bits_is : (v : Values) (t : Tree) (b : Bits) → TermIs v t b → Is v (sym_bits t) (concrete.Bits b)
bits_is v t b h = record { typed = h.typed; same = ap concrete.Bits h.same }

bits_whole : (a b : Bits) → ◌≡◌ {A = Value} (concrete.Bits a) (concrete.Bits b) → a ≡ b
bits_whole a b h = cc

bits_always : {p : SymPath} {vars : List (Text × Bits)} {t : Tree} {b : Bits} → Always Is p vars (sym_bits t) (concrete.Bits b) → Always TermIs p vars t b
bits_always {p} {vars} {t} {b} h = record { is = λ v k. record { typed = (h.is v k).typed; same = bits_whole (value v t) b ((h.is v k).same) } }

-- a world with another state
pub grows_state : (w : World) (s : State) → Grows w (in_state s w)
grows_state w s = record { accesses = []; events = []; accesses_grow = sym (append-nil w.accesses); events_grow = sym (append-nil w.events) }

module _ (here : SymSetting) (ranges : List Range) (p : SymPath) (x : Path) (l : List Slot) (ag : Agrees here p x.vars x.world l) where
  -- ---- registers

  pub register_width : (r : ℕ) → (register_of x.world.state r).width ≡ width_here here r
  register_width r = sym (get_or-map width_of_bits x.world.state.registers r (record { width = 0; value = 0 })) ∙ ap (λ ws. slice_index_or ws r 0) ag.widths

  register_there : (r : ℕ) → r < length here.widths → r < length x.world.state.registers
  register_there r h = omega (arith, h, ap length ag.widths, length-map x.world.state.registers width_of_bits)

  pub register_bits : (r : ℕ) → r < length here.widths → IsBits (register_of x.world.state r)
  register_bits r h = ag.state.registers r (record { width = 0; value = 0 }) (register_there r h)

  same_itself : (b : Bits) → same_bits b b ≡ true
  same_itself b = and_from (nat_eq b.width b.width) (nat_eq b.value b.value) (eq-eqb b.width b.width refl) (eq-eqb b.value b.value refl)

  read_assumed : (r : ℕ) (b : Bits) → r < length here.widths → entry_of r here.given ≡ Some b → Does here ranges Is p x (first_read here r (Some b) p) (gives (concrete.Bits (register_of x.world.state r)) l x.world)
  read_assumed r b h e =
      let same : register_of x.world.state r ≡ b = ag.assumed r b e in
      let term : Always TermIs p x.vars (lit b) (register_of x.world.state r) = record { is = λ v k. record { typed = subst IsBits same (register_bits r h); same = sym same } } in
      record {
        is = λ short. full (record {
          at = record { value = sym_bits (lit b); path = knows r (lit b) p };
          there = saw_assumed r x;
          only = ap (λ c. behind_step (step_if c (goes (saw_assumed r x)) blocked) (arrivals ranges (bits_leaf (lit b) (knows r (lit b) p)))) (ap (λ a. same_bits a b) same ∙ same_itself b);
          world = refl;
          comes = record { later = (comes_here here ag).later; count = omega (arith) };
          agrees = agrees_knows here r (lit b) term ag;
          is = record { is = λ v k. bits_is v (lit b) (register_of x.world.state r) (term.is v k) };
        });
      }

  read_fresh : (r : ℕ) → r < length here.widths → Does here ranges Is p x (first_read here r None p) (gives (concrete.Bits (register_of x.world.state r)) l x.world)
  read_fresh r h =
      let b = register_of x.world.state r in
      let fit = register_bits r h in
      let term = var (var_name p.count) (width_here here r) in
      record {
        is = λ short.
            let known : Always TermIs (counts_on p) ((var_name p.count, b) ∷ x.vars) term b =
            record { is = λ v k. record { typed = subst IsWidth (register_width r) (record { positive = fit.positive; at_most = fit.at_most }); same = fresh_is x.vars p.count b v (width_here here r) (register_width r) k } } in
            let come = comes_more here b fit short.0 ag in
            full (record {
              at = record { value = sym_bits term; path = knows r term (counts_on p) };
              there = binding p.count b (saw_read r x);
              only = refl;
              world = refl;
              comes = record { later = come.later; count = come.count };
              agrees = agrees_knows here r term known (agrees_more here b fit short.0 ag);
              is = record { is = λ v k. bits_is v term b (known.is v k) };
            });
      }

  read_first : (r : ℕ) (o : Option Bits) → entry_of r here.given ≡ o → r < length here.widths → Does here ranges Is p x (first_read here r o p) (gives (concrete.Bits (register_of x.world.state r)) l x.world)
  read_first r (Some b) e h = read_assumed r b h e
  read_first r None e h = read_fresh r h

  read_known : (r : ℕ) (o : Option Tree) → entry_of r p.known ≡ o → r < length here.widths → Does here ranges Is p x (known_read here r o p) (gives (concrete.Bits (register_of x.world.state r)) l x.world)
  read_known r (Some t) e h = does_leaf here ranges {P = Is} ag (record { is = λ v k. bits_is v t (register_of x.world.state r) ((ag.known r t e).is v k) })
  read_known r None e h = read_first r (entry_of r here.given) refl h

  -- ---- reading

  thing_does : (o : Option Thing) → IfProper (length here.widths) o → Does here ranges Is p x (thing_read here o p) (gives (value_in o x.world.state) l x.world)
  thing_does (Some (thing.Register r)) h = read_known r (entry_of r p.known) refl h
  thing_does (Some (thing.Member e i)) h = does_leaf here ranges {P = Is} ag (record { is = λ v k. record { typed = tt; same = refl } })
  thing_does (Some (thing.Given g)) h = does_leaf here ranges {P = Is} ag (unit_always here ranges)
  thing_does (Some (thing.Function i)) h = does_leaf here ranges {P = Is} ag (unit_always here ranges)
  thing_does None h = does_leaf here ranges {P = Is} ag (unit_always here ranges)

  -- what a name stands for among the locals
  looked : (y : Text) (v : Values) → Later p.count (values_at x.vars) v → look y l ≡ option_map (local_at v) (sym_look y p.locals)
  looked y v k = ap (look y) (sym ((ag.locals.is v k).same)) ∙ look_at v y p.locals

  pub does_read : (y : Text) → AreProper (length here.widths) here.things → Does here ranges Is p x (sym_read here y p) (read here.things y l x.world)
  does_read y proper = step (sym_look y p.locals) refl
    where
      step : (o : Option SymLocal) → sym_look y p.locals ≡ o → Does here ranges Is p x (name_read here o y p) (gives (read_of here.things (look y l) y x.world.state) l x.world)
      step (Some s) e = does_leaf here ranges {P = Is} ag (record {
        is = λ v k. record {
          typed = value_of_typed s (look_typed y p.locals ((ag.locals.is v k).typed) s e);
          same = value_of_local v s ∙ ap (λ o. read_of here.things o y x.world.state) (sym (looked y v k ∙ ap (option_map (local_at v)) e));
        };
      })
      step None e =
          let n : look y l ≡ None = looked y (values_at x.vars) (later_refl p.count (values_at x.vars) ag.valid) ∙ ap (option_map (local_at (values_at x.vars))) e in
          subst (λ o. Does here ranges Is p x (thing_read here (find_thing y here.things) p) (gives (read_of here.things o y x.world.state) l x.world)) (sym n)
          (thing_does (find_thing y here.things) (found_proper (length here.widths) y here.things proper))

  -- ---- writing

  abbrev written : ℕ → Bits → State
  written r b = record x.world.state { registers = slice_set x.world.state.registers r b }

  -- a term as wide as the register
  write_term : (r : ℕ) (t : Tree) (o : Option Bits) → entry_of r here.given ≡ o → r < length here.widths → width_of t ≡ width_here here r → Always TermIs p x.vars t (value (values_at x.vars) t)
      → Does here ranges Is p x (register_written r t o p) (gives concrete.Unit l (in_state (written r (value (values_at x.vars) t)) x.world))
  write_term r t (Some b) e h w k = record {
    is = λ short.
        gives_up (record { out = ended (failed failure.AssumedWritten) x; only = refl; gave = tt; grows = grows_state x.world (written r (value (values_at x.vars) t)) });
  }
  write_term r t None e h w k =
      let term = now here ag k in
      let fit = (value_fits (values_at x.vars) t ag.valid term.typed).0 in
      record {
        is = λ short. full (record {
          at = record { value = sym_unit; path = knows r t p };
          there = in_world (with_register r (value (values_at x.vars) t) x.world) (saw_written r x);
          only = refl;
          world = refl;
          comes = record { later = (comes_here here ag).later; count = omega (arith) };
          agrees = agrees_write here r (value (values_at x.vars) t) t (register_there r h) e fit (width_at (values_at x.vars) ag.valid t term.typed ∙ w ∙ sym (register_width r)) k ag;
          is = unit_always here ranges;
        });
      }

  write_bits : (r : ℕ) (t : Tree) → r < length here.widths → Always TermIs p x.vars t (value (values_at x.vars) t)
      → Does here ranges Is p x (term_written here r t p) (gives concrete.Unit l (in_state (with_bits r (value (values_at x.vars) t) x.world.state) x.world))
  write_bits r t h k =
      let b = value (values_at x.vars) t in
      let typed = (now here ag k).typed in
      subst (λ c. Does here ranges Is p x (term_written here r t p) (gives concrete.Unit l (in_state (if c then written r b else x.world.state) x.world)))
      (sym (ap₂ (λ c w. c && nat_eq w (register_of x.world.state r).width) (vector_at (values_at x.vars) ag.valid t typed) (width_at (values_at x.vars) ag.valid t typed)
      ∙ ap (nat_eq (width_of t)) (register_width r)))
      (step (nat_eq (width_of t) (width_here here r)) refl)
    where
      step : (c : Bool) → nat_eq (width_of t) (width_here here r) ≡ c
          → Does here ranges Is p x ((if c then register_written r t (entry_of r here.given) else sym_pure sym_unit) p)
          (gives concrete.Unit l (in_state (if c then written r (value (values_at x.vars) t) else x.world.state) x.world))
      step true e = write_term r t (entry_of r here.given) refl h (eqb-true (width_of t) (width_here here r) e) k
      step false e = does_leaf here ranges {P = Is} ag (unit_always here ranges)

  abbrev AfterWrite : (o : Option Thing) → SymValue → Value → Type 0
  AfterWrite o s a = Does here ranges Is p x (thing_written here o s p) (gives concrete.Unit l (in_state (assigned o a x.world.state) x.world))

  write_register : (r : ℕ) → r < length here.widths → (s : SymValue) → Always Is p x.vars s (value_at (values_at x.vars) s)
      → AfterWrite (Some (thing.Register r)) s (value_at (values_at x.vars) s)
  write_register r h (sym_bits t) k = write_bits r t h (bits_always k)
  write_register r h sym_unit k = does_leaf here ranges {P = Is} ag (unit_always here ranges)
  write_register r h (sym_truth t) k = does_leaf here ranges {P = Is} ag (unit_always here ranges)
  write_register r h (sym_member e i) k = does_leaf here ranges {P = Is} ag (unit_always here ranges)

  write_thing : (o : Option Thing) (s : SymValue) (a : Value) → IfProper (length here.widths) o → Always Is p x.vars s a → AfterWrite o s a
  write_thing (Some (thing.Register r)) s a h k =
      subst (λ a. Always Is p x.vars s a → AfterWrite (Some (thing.Register r)) s a) ((now here ag k).same) (write_register r h s) k
  write_thing (Some (thing.Member e i)) s a h k = does_leaf here ranges {P = Is} ag (unit_always here ranges)
  write_thing (Some (thing.Given g)) s a h k = does_leaf here ranges {P = Is} ag (unit_always here ranges)
  write_thing (Some (thing.Function i)) s a h k = does_leaf here ranges {P = Is} ag (unit_always here ranges)
  write_thing None s a h k = does_leaf here ranges {P = Is} ag (unit_always here ranges)

  pub does_write : (y : Text) (s : SymValue) (a : Value) → AreProper (length here.widths) here.things → Always Is p x.vars s a
      → Does here ranges Is p x (sym_write here y s p) (write here.things y a l x.world)
  does_write y s a proper k =
      let same : has y l ≡ sym_has y p.locals = ap (has y) (sym ((now here ag ag.locals).same)) ∙ has_at (values_at x.vars) y p.locals in
      subst (λ c. Does here ranges Is p x (name_written here c y s p) (write here.things y a l x.world)) same (step (has y l))
    where
      step : (c : Bool) → Does here ranges Is p x (name_written here c y s p)
          (if c then gives concrete.Unit (put y (local.Is a) l) x.world else gives concrete.Unit l (in_state (assigned (find_thing y here.things) a x.world.state) x.world))
      step true = does_locals here ranges {P = Is} (sym_put y (sym_is s) p.locals) (put y (local.Is a) l) ag
          (record {
            is = λ v h. record {
              typed = put_typed y s p.locals ((k.is v h).typed) ((ag.locals.is v h).typed);
              same = put_at v y s p.locals ∙ ap₂ (λ a m. put y (local.Is a) m) ((k.is v h).same) ((ag.locals.is v h).same);
            };
          }) (unit_always here ranges)
      step false = write_thing (find_thing y here.things) s a (found_proper (length here.widths) y here.things proper) k
