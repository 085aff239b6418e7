-- The uses of expressions are seen: one induction over the tree of a typed expression.
use Rattle.std.proofs.Common.{◌≡◌, ℕ, zero, suc, ◌+◌, ◌-◌, ◌≤◌, ◌<◌, Bool, true, false, not, List, [], ◌∷◌, ◌++◌, length, drop, Option, Some, None, nat_eq, refl, sym, ap, ◌∙◌, subst, arith}
use Rattle.std.specs.Prelude.{if◌then◌else◌, slice_get}
use Rattle.bv_bits.specs.declared.Bits.{Bits}
use Rattle.sail_syntax.specs.Tree.{Text, Tree, node, Form, unit, lit, truth, name, chain, flip, slice, update, call, widen, choose, when, cases, foreach, check, exit, assign, block, Trees, none, some, arm, Cases, no_case, case, binds, holds, does, Steps, done, next}
use Rattle.sail_syntax.specs.Program.{Definition, Function, function}
use Rattle.sail_syntax.specs.declared.tree.Infix.{Infix}
use Rattle.sail_syntax.specs.declared.tree.Infix.TheVariants as between
use Rattle.sail_syntax.specs.declared.patterns.Pattern.{Pattern}
use Rattle.sail_syntax.specs.declared.types.Ty.{Ty}
use Rattle.sail_syntax.specs.declared.types.Ty.TheVariants as ty
use Rattle.state_core.specs.declared.kinds.Range.{Range}
use Rattle.state_core.specs.World.{World}
use Rattle.term_tree.specs.Terms as term
use Rattle.term_tree.specs.Values.{Values, value}
use Rattle.term_rules.specs.Shapes.{literal_of}
use Rattle.trace_plain.specs.declared.trace.FailKind.TheVariants as failure
use Rattle.trace_plain.specs.Following.{Path}
use Rattle.sail_values.specs.declared.value.Slot.{Slot}
use Rattle.sail_values.specs.declared.value.Local.TheVariants as local
use Rattle.sail_values.specs.declared.value.Value.{Value}
use Rattle.sail_values.specs.declared.value.Value.TheVariants as concrete
use Rattle.sail_values.specs.Values.{nth, is_true, applied, decides}
use Rattle.sail_names.specs.declared.things.Named.{Named}
use Rattle.sail_names.specs.declared.things.Thing.{Thing}
use Rattle.sail_names.specs.declared.things.Thing.TheVariants as thing
use Rattle.sail_names.specs.Things.{find_thing, things_of}
use Rattle.type_rules.specs.declared.scope.Item.{Item}
use Rattle.type_rules.specs.declared.scope.Item.TheVariants as item
use Rattle.type_rules.specs.declared.scope.Slot.{Slot as Asked}
use Rattle.type_rules.specs.declared.scope.Sort.TheVariants.{Holds, Counts}
use Rattle.type_rules.specs.declared.scope.Local.{Local as Typed}
use Rattle.type_rules.specs.declared.scope.Target.TheVariants as target
use Rattle.type_rules.specs.Names.{find, globals_of, slots_of, look as look_type}
use Rattle.type_rules.specs.Rules.{is_join, target_of, between as bits_between}
use Rattle.type_rules.specs.Judge.{entered}
use Rattle.type_rules.specs.HasType.{Calls as CallsAbove, PatternFits, FormHas, ArgsHave}
use Rattle.eval_rules.specs.Flow.{Out, gives, stops, Meaning, bind}
use Rattle.eval_rules.specs.Parts.{fits, pattern_bound}
use Rattle.eval_rules.specs.Names.{Setting, define}
use Rattle.eval_rules.specs.Eval.{Calls, enter, turns, counted, eval, eval_rest, eval_all, eval_arms, eval_step, eval_steps, calls_of}
use Rattle.eval_rules.specs.Moments.{Use, Moment, Passing, CallMoments, still, following, uses_in, name_written, called_moments, turns_moments, moments, form_moments, chain_moments, rest_moments, args_moments, arms_moments, step_moments, steps_moments, moments_of_calls}
use Rattle.eval_types.specs.Types.{IsOfType, AreOfTypes, LocalsFit, StateFits}
use Rattle.eval_types.specs.Keeps.{Ends}
use Rattle.eval_types.proofs.FlowLemmas.{Keeps}
use Rattle.eval_types.proofs.GivenLemmas.{Accesses, ArgsFit}
use Rattle.eval_types.proofs.ThingLemmas.{AsFound, IsFunction, found}
use Rattle.eval_types.proofs.PatternLemmas.{pattern_fits}
use Rattle.eval_types.proofs.StepLemmas.{args_types, counted_kept}
use Rattle.eval_types.proofs.KeepLemmas.{CallsKeep, tree_kept, args_kept}
use Rattle.sym_rules.specs.Values.{SymValue, sym_unit, sym_truth, sym_bits, sym_member, sym_is, sym_counts, SymSlot, SymPath, SymSetting}
use Rattle.sym_rules.specs.Trees.{SymTree, leaf, onto, Leaf, SymMeaning, with_locals, sym_pure, sym_bind, sym_within, told, forked}
use Rattle.sym_rules.specs.Operators.{sym_nth, sym_choose, unless_decided, known_truth, sym_applied}
use Rattle.sym_rules.specs.Parts.{condition, sym_pattern_bound}
use Rattle.sym_rules.specs.Sym.{sym_define, sym_enter, sym_called, SymCalls, sym_turns, sym_counted, sym as sym_tree, sym_form, sym_chain, sym_rest, sym_all, sym_arms, sym_step, sym_steps, sym_calls, sym_setting}
use Rattle.sym_follows.proofs.Sound.{IsSoundForm, AreSoundArms, AreSoundSteps}
use Rattle.sym_follows.proofs.Typed.{tree_sound}
use Rattle.sym_follows.proofs.Values.{Is, BitIs, value_at, applied_is}
use Rattle.sym_follows.proofs.Parts.{SlotsAre, condition_is, pattern_bound_is}
use Rattle.sym_follows.proofs.Agree.{values_at, Comes, Always, always_on, Agrees, comes_here, now}
use Rattle.sym_follows.proofs.Does.{Does, on_to, does_told, does_within, unit_always, grows_none}
use Rattle.sym_follows.proofs.Things.{AreProper, things_proper}
use Rattle.sym_follows.proofs.Grow.{grow_eval}
use Rattle.sym_follows.proofs.Calls.{AreAll, all_none, all_more}
use Rattle.sym_follows.proofs.Simulate.{setting, CallsFollow, enter_does, define_counts, tree_does, step_does, steps_does}
use Rattle.sym_uses.proofs.Covers.{KnownSeen, Covers, uses_behind, IfGives, on_covers, on_last, covers_leaf, covers_fails, covers_told, covers_fork}
use Rattle.sym_uses.proofs.CoverSteps.{read_covers, write_covers, asserted_covers, given_covers}
use Rattle.sym_uses.proofs.CoverParts.{uses_joined, uses_if, onto_assoc, ends_given, with_rest, defined_given, Has, AllAre, ArmsAre, StepsAre, parts_are, args_are, arms_are, steps_are}

-- ---- choices

module _ (here : SymSetting) (ranges : List Range) (p : SymPath) (x : Path) (l : List Slot) (ag : Agrees here p x.vars x.world l) (known : KnownSeen p x.seen) where
  -- the bit of a truth
  bit_of : (t : term.Tree) → Always Is p x.vars (sym_truth t) (value_at (values_at x.vars) (sym_truth t)) → Always BitIs p x.vars t (nat_eq (value (values_at x.vars) t).value 1)
  bit_of t h = record { is = λ v k. record { typed = (h.is v k).typed.0; width = (h.is v k).typed.1; same = truth_whole (nat_eq (value v t).value 1) (nat_eq (value (values_at x.vars) t).value 1) ((h.is v k).same) } }
    where
      truth_whole : (a b : Bool) → ◌≡◌ {A = Value} (concrete.Truth a) (concrete.Truth b) → a ≡ b
      truth_whole a b h = cc

  module _ (a b : SymMeaning SymValue) (m n : Passing) (one : Covers ranges x (a p) (uses_in (m l x.world))) (other : Covers ranges x (b p) (uses_in (n l x.world))) where
    -- by a bit
    fork_covers : (t : term.Tree) (c : Bool) → Always BitIs p x.vars t c → Covers ranges x (forked (literal_of t) t (a p) (b p)) (uses_in ((if c then m else n) l x.world))
    fork_covers t c h =
        subst (Covers ranges x (forked (literal_of t) t (a p) (b p))) (uses_if c m n l x.world)
        (covers_fork here ranges t c (a p) (b p) (uses_in (m l x.world)) (uses_in (n l x.world)) ag h one other)

    choose_at : (s : SymValue) → Always Is p x.vars s (value_at (values_at x.vars) s) → Covers ranges x (sym_choose s a b p) (uses_in ((if is_true (value_at (values_at x.vars) s) then m else n) l x.world))
    choose_at (sym_truth t) h = fork_covers t (nat_eq (value (values_at x.vars) t).value 1) (bit_of t h)
    choose_at sym_unit h = other
    choose_at (sym_bits t) h = other
    choose_at (sym_member e i) h = other

    -- by a value
    pub choose_covers : (s : SymValue) (v : Value) → Always Is p x.vars s v → Covers ranges x (sym_choose s a b p) (uses_in ((if is_true v then m else n) l x.world))
    choose_covers s v h =
        subst (λ v. Always Is p x.vars s v → Covers ranges x (sym_choose s a b p) (uses_in ((if is_true v then m else n) l x.world))) ((now here ag h).same) (choose_at s) h

  -- what comes behind the left side of a chain
  module _ (further : SymMeaning SymValue) (m : Passing) (more : Covers ranges x (further p) (uses_in (m l x.world))) where
    and_uses : (c : Bool) → (if c then uses_in (m l x.world) else []) ≡ uses_in ((if not c then still else m) l x.world)
    and_uses true = refl
    and_uses false = refl

    or_uses : (c : Bool) → (if c then [] else uses_in (m l x.world)) ≡ uses_in ((if c then still else m) l x.world)
    or_uses true = refl
    or_uses false = refl

    unless_at : (o : Infix) (s : SymValue) → Always Is p x.vars s (value_at (values_at x.vars) s)
        → Covers ranges x (unless_decided o s further p) (uses_in ((if decides o (value_at (values_at x.vars) s) then still else m) l x.world))
    unless_at between.And (sym_truth t) h =
        let c = nat_eq (value (values_at x.vars) t).value 1 in
        subst (Covers ranges x (forked (literal_of t) t (further p) (told (known_truth false) p))) (and_uses c)
        (covers_fork here ranges t c (further p) (told (known_truth false) p) (uses_in (m l x.world)) [] ag (bit_of t h) more (covers_told here ranges (known_truth false) known))
    unless_at between.Or (sym_truth t) h =
        let c = nat_eq (value (values_at x.vars) t).value 1 in
        subst (Covers ranges x (forked (literal_of t) t (told (known_truth true) p) (further p))) (or_uses c)
        (covers_fork here ranges t c (told (known_truth true) p) (further p) [] (uses_in (m l x.world)) ag (bit_of t h) (covers_told here ranges (known_truth true) known) more)
    unless_at o s h = more

    pub unless_covers : (o : Infix) (s : SymValue) (v : Value) → Always Is p x.vars s v → Covers ranges x (unless_decided o s further p) (uses_in ((if decides o v then still else m) l x.world))
    unless_covers o s v h =
        subst (λ v. Always Is p x.vars s v → Covers ranges x (unless_decided o s further p) (uses_in ((if decides o v then still else m) l x.world))) ((now here ag h).same) (unless_at o s) h

-- ---- one part after another

module _ (here : SymSetting) (ranges : List Range) where
  -- other locals on a path
  pub covers_locals : {S : Type 0} {s : S} {p : SymPath} {x : Path} (ss : List SymSlot) → KnownSeen p x.seen → Covers ranges x (leaf (record { value = s; path = with_locals ss p })) []
  covers_locals {p} ss known = covers_leaf here ranges {p = with_locals ss p} (record { each = known.each })

  -- a tree that is only a leaf
  pub leaf_covers : {S T : Type 0} {s : S} {p : SymPath} {x : Path} {us : List Use} (f : S → SymMeaning T) → Covers ranges x (f s p) us → Covers ranges x (onto {L = Leaf S} (leaf (record { value = s; path = p })) (λ m. f m.value m.path)) us
  unfolding onto
  leaf_covers f h = h

  -- the moments of one, and those of what comes behind it
  pub on_moments : {S T A : Type 0} {P : Values → S → A → Type 0} {p : SymPath} {x : Path} {t : SymTree (Leaf S)} {f : Leaf S → SymTree (Leaf T)} {o : Out A} (ms : List Moment) (g : A → Passing)
      (E : A → List Slot → World → Type 0) → Does here ranges P p x t o → Covers ranges x t (uses_in ms) → IfGives o E
      → ((m : Leaf S) (y : Path) (a : A) (l : List Slot) → Comes p x.vars m.path y.vars → Agrees here m.path y.vars y.world l → Always P m.path y.vars m.value a
      → KnownSeen m.path y.seen → E a l y.world → Covers ranges y (f m) (uses_in (g a l y.world)))
      → Covers ranges x (onto t f) (uses_in (ms ++ following o g))
  on_moments {P} {x} {t} {f} {o} ms g E d c e each =
      subst (Covers ranges x (onto t f)) (uses_joined ms o g) (on_covers here ranges {P = P} (λ a l w. uses_in (g a l w)) E d c e each)

  -- the names that a pattern binds
  pub enter_covers : (things : List Named) (pt : Pattern) (s : SymValue) (a : Value) {p : SymPath} {x : Path} {l : List Slot} → Agrees here p x.vars x.world l → Always Is p x.vars s a → KnownSeen p x.seen
      → Covers ranges x (sym_enter things pt s p) []
  enter_covers things pt s a {p} {x} {l} ag h known =
      on_last here ranges {P = SlotsAre} {o = gives (pattern_bound things pt a l) l x.world}
      (does_told here ranges {P = SlotsAre} (sym_pattern_bound things pt s p.locals) (pattern_bound things pt a l) ag (λ v k. pattern_bound_is v k.valid things pt (h.is v k) (ag.locals.is v k)))
      (covers_told here ranges (sym_pattern_bound things pt s p.locals) known)
      (λ m y ms k more is seen. covers_locals m.value seen)

  -- the turns of a foreach
  pub turns_covers : (defs : List Definition) (scope : List Typed) (k i to : ℕ) (tree : ℕ → SymMeaning SymValue) (body : ℕ → Meaning Value) (passing : ℕ → Passing) {p : SymPath} {x : Path} {l : List Slot} → ((q : ℕ) → q < k → i + q ≤ to)
      → ((j : ℕ) (p : SymPath) (x : Path) (l : List Slot) → i ≤ j → j ≤ to → Agrees here p x.vars x.world l → Does here ranges Is p x (tree j p) (body j l x.world))
      → ((j : ℕ) (p : SymPath) (x : Path) (l : List Slot) → i ≤ j → j ≤ to → LocalsFit defs l scope → Agrees here p x.vars x.world l → IfGives (body j l x.world) (λ a l w. LocalsFit defs l scope))
      → ((j : ℕ) (p : SymPath) (x : Path) (l : List Slot) → i ≤ j → j ≤ to → LocalsFit defs l scope → Agrees here p x.vars x.world l → KnownSeen p x.seen → Covers ranges x (tree j p) (uses_in (passing j l x.world)))
      → LocalsFit defs l scope → Agrees here p x.vars x.world l → KnownSeen p x.seen → Covers ranges x (sym_turns k i tree p) (uses_in (turns_moments k i body passing l x.world))
  turns_covers defs scope zero i to tree body passing few does_it fit_it each fit ag known = covers_leaf here ranges known
  turns_covers defs scope (suc k) i to tree body passing {p} {x} {l} few does_it fit_it each fit ag known =
      let last : i ≤ to = let z = few 0 (omega (arith)) in omega (arith, z) in
      on_moments {P = Is} (passing i l x.world) (λ _. turns_moments k (i + 1) body passing) (λ a l w. LocalsFit defs l scope) (does_it i p x l (omega (arith)) last ag)
      (each i p x l (omega (arith)) last fit ag known) (fit_it i p x l (omega (arith)) last fit ag)
      (λ m y a n come more is seen e. turns_covers defs scope k (i + 1) to tree body passing (λ q m. let z = few (suc q) (omega (arith, m)) in omega (arith, z)) (λ j q z s a b. does_it j q z s (omega (arith, a)) b) (λ j q z s a b. fit_it j q z s (omega (arith, a)) b)
      (λ j q z s a b. each j q z s (omega (arith, a)) b) e more seen)

-- ---- expressions

module _ (defs : List Definition) (given : List (ℕ × Bits)) (ranges : List Range) (accesses : Accesses ranges) (n : ℕ) (ds : List Definition) where
  -- what a symbolic evaluation of the text needs, and what an evaluation needs
  abbrev pub here : SymSetting
  here = sym_setting defs given

  abbrev pub set : Setting
  set = setting here ranges accesses (things_proper defs)

  abbrev pub sym_here : SymCalls
  sym_here = sym_calls here ds

  abbrev pub calls_here : Calls
  calls_here = calls_of set ds

  abbrev pub moments_here : CallMoments
  moments_here = moments_of_calls set ds

  -- the uses of a call of one of the first definitions are seen
  pub record CallsCover : Type 0 where
    pub each : (i : ℕ) (f : Function) {ss : List SymValue} {vs : List Value} {p : SymPath} {x : Path} {l : List Slot} → i + 1 ≤ n → slice_get defs i ≡ Some (function f) → AreOfTypes defs vs f.params
        → Agrees here p x.vars x.world l → Always AreAll p x.vars ss vs → KnownSeen p x.seen → Covers ranges x (sym_here i ss p) (uses_in (moments_here i vs l x.world))

  -- a state with which a path agrees is one of the program
  pub state_fits : (x : Path) {p : SymPath} {l : List Slot} → Agrees here p x.vars x.world l → StateFits defs x.world.state
  state_fits x ag = record { values = ag.state; widths = ag.widths }

  module _ (kept : CallsKeep defs n calls_here) (follow : CallsFollow here ranges accesses (things_proper defs) ds sym_here) (cover : CallsCover) where
    -- the meaning of an expression, and its moments
    abbrev run : Tree → Meaning Value
    run t = eval set calls_here t

    abbrev passing : Tree → Passing
    passing t = moments set calls_here moments_here t

    part_does : {e : Tree} {scope : List Typed} {p : SymPath} {x : Path} {l : List Slot} → Has defs n e scope → Agrees here p x.vars x.world l → Does here ranges Is p x (sym_tree here sym_here e p) (run e l x.world)
    part_does {e} {scope} h ag = tree_does here ranges accesses (things_proper defs) ds sym_here follow e (tree_sound (globals_of defs) n e h.want scope h.type h.has) ag

    part_gives : {e : Tree} {scope : List Typed} (x : Path) {p : SymPath} {l : List Slot} (h : Has defs n e scope) → LocalsFit defs l scope → Agrees here p x.vars x.world l
        → IfGives (run e l x.world) (λ a m w. IsOfType defs a h.type × LocalsFit defs m scope)
    part_gives {e} {scope} x {p} {l} h fit ag =
        ends_given defs (λ m. LocalsFit defs m scope) (λ a. IsOfType defs a h.type) (run e l x.world)
        (tree_kept defs ranges accesses (globals_of defs) (things_of defs) (found defs) n calls_here kept e h.want scope h.type h.has l x.world fit (state_fits x ag))

    ends_given_locals : {A : Type 0} (P : A → Type 0) (o : Out A) (scope : List Typed) → Ends defs (λ m. LocalsFit defs m scope) P o → IfGives o (λ a m w. LocalsFit defs m scope)
    ends_given_locals P (gives a m w) scope h = h.1
    ends_given_locals P (stops why w) scope h = tt

    form_soundness : (form : Form) (want : Option Ty) (scope : List Typed) (t : Ty) → FormHas (globals_of defs) n form want scope t → IsSoundForm form
    form_soundness form want scope t h = tree_sound (globals_of defs) n (node 0 form) want scope t h

    -- a call of what a name stands for
    called_covers : (t : Ty) (ps : List Asked) (r : Option Ty) (after : ℕ) (o : Option Thing) {ss : List SymValue} {vs : List Value} {p : SymPath} {x : Path} {l : List Slot}
        → AsFound defs (Some (item.Function ps r after)) o → after ≤ n → ArgsFit defs ps r vs t → Agrees here p x.vars x.world l → Always AreAll p x.vars ss vs → KnownSeen p x.seen
        → Covers ranges x (sym_called sym_here o ss p) (uses_in (called_moments set moments_here o vs l x.world))
    called_covers t ps r after (Some (thing.Function i)) {ss} {vs} f low h ag all known =
        let k = subst (λ r. ArgsFit defs (slots_of f.there.params) r vs t) (sym f.gives) (subst (λ ps. ArgsFit defs ps r vs t) (sym f.asks) h) in
        cover.each i f.there (omega (arith, low, f.behind)) f.is (args_types defs f.there.params f.there.result vs t k).types ag all known
    called_covers t ps r after (Some (thing.Given g)) {ss} {vs} {p} {x} {l} f low h ag all known = given_covers here ranges p x l ag known g (sym_nth 0 ss) (sym_nth 1 ss) (nth 0 vs) (nth 1 vs)
    called_covers t ps r after (Some (thing.Register i)) f low h ag all known = absurd f
    called_covers t ps r after (Some (thing.Member e i)) f low h ag all known = absurd f
    called_covers t ps r after None f low h ag all known = absurd f

    -- the uses of an expression are seen, wherever its locals fit the scope
    abbrev Covered : Tree → List Typed → Type 0
    Covered e scope = (p : SymPath) (x : Path) (l : List Slot) → LocalsFit defs l scope → Agrees here p x.vars x.world l → KnownSeen p x.seen → Covers ranges x (sym_tree here sym_here e p) (uses_in (passing e l x.world))

    -- one turn of a foreach
    turn_covers : (y : Text) (from to i : ℕ) (body : Tree) (scope : List Typed) {p : SymPath} {x : Path} {l : List Slot} → Has defs n body (record { name = y; sort = Counts from to } ∷ scope)
        → Covered body (record { name = y; sort = Counts from to } ∷ scope) → from ≤ i → i ≤ to → LocalsFit defs l scope → Agrees here p x.vars x.world l → KnownSeen p x.seen
        → Covers ranges x (sym_counted y (sym_tree here sym_here body) i p) (uses_in (passing body (record { name = y; local = local.Counts i } ∷ l) x.world))
    turn_covers y from to i body scope {p} {x} {l} h each a b fit ag known =
        on_last here ranges {P = Is} {o = bind (define y (local.Counts i)) (λ _. run body) l x.world}
        (on_to here ranges {P = Is} {Q = Is} (λ _. run body) (define_counts here ranges accesses (things_proper defs) y i ag) (λ _. grow_eval set ds body) (λ m u c r come most is. part_does h most))
        (on_covers here ranges {P = Is} {o = gives concrete.Unit (record { name = y; local = local.Counts i } ∷ l) x.world} {us = []} (λ _ m w. uses_in (passing body m w))
        (λ _ m w. LocalsFit defs m (record { name = y; sort = Counts from to } ∷ scope)) (define_counts here ranges accesses (things_proper defs) y i ag) (covers_locals here ranges _ known) (refl, (a, b), fit)
        (λ m u c r come more is seen e. each m.path u r e more seen))
        (λ m u c r more is seen. covers_locals here ranges _ seen)

    -- an arm whose pattern fits
    arm_covers : (pt : Pattern) (body : Tree) (u : Ty) (scope : List Typed) {s : SymValue} {a : Value} {p : SymPath} {x : Path} {l : List Slot} → PatternFits (globals_of defs) pt u → Has defs n body (entered (globals_of defs) pt (Some u) scope)
        → Covered body (entered (globals_of defs) pt (Some u) scope) → IsOfType defs a u → LocalsFit defs l scope → Agrees here p x.vars x.world l → Always Is p x.vars s a → KnownSeen p x.seen
        → Covers ranges x (sym_within (sym_bind (sym_enter (things_of defs) pt s) (λ _. sym_tree here sym_here body)) p) (uses_in (following (enter set pt a l x.world) (λ _. passing body)))
    arm_covers pt body u scope {s} {a} {p} {x} {l} pf h each typed fit ag k known =
        on_last here ranges {P = Is} {o = bind (enter set pt a) (λ _. run body) l x.world}
        (on_to here ranges {P = Is} {Q = Is} (λ _. run body) (enter_does here ranges accesses (things_proper defs) pt s a ag k) (λ _. grow_eval set ds body) (λ m z b l2 come most is. part_does h most))
        (on_covers here ranges {P = Is} {o = enter set pt a l x.world} {us = []} (λ _ m w. uses_in (passing body m w)) (λ _ m w. LocalsFit defs m (entered (globals_of defs) pt (Some u) scope))
        (enter_does here ranges accesses (things_proper defs) pt s a ag k) (enter_covers here ranges (things_of defs) pt s a ag k known)
        (pattern_fits defs (globals_of defs) (things_of defs) (found defs) pt a u l scope pf typed fit)
        (λ m z b l2 come more is seen e. each m.path z l2 e more seen))
        (λ m y b l2 more is seen. covers_locals here ranges _ seen)

    -- a new local
    defined_covers : (y : Text) (by : Tree) (scope : List Typed) {p : SymPath} {x : Path} {l : List Slot} → Has defs n by scope → Covers ranges x (sym_tree here sym_here by p) (uses_in (passing by l x.world)) → Agrees here p x.vars x.world l
        → Covers ranges x (onto (sym_tree here sym_here by p) (λ m. sym_define y (sym_is m.value) m.path)) (uses_in (passing by l x.world))
    defined_covers y by scope h cov ag = on_last here ranges {P = Is} (part_does h ag) cov (λ m z a l more is seen. covers_locals here ranges _ seen)

    -- what is called, where its arguments are typed
    call_type : {C : Type 0} (i : Option Item) (args : Trees) (scope : List Typed) (t : Ty) → CallsAbove n i (λ params result. ArgsHave (globals_of defs) n args params result scope t)
        → ((ps : List Asked) (r : Option Ty) (after : ℕ) → i ≡ Some (item.Function ps r after) → after ≤ n → ArgsHave (globals_of defs) n args ps r scope t → C) → C
    call_type (Some (item.Function ps r after)) args scope t h each = each ps r after refl h.0 h.1
    call_type (Some (item.Register w)) args scope t h each = absurd h
    call_type (Some (item.Member e)) args scope t h each = absurd h
    call_type (Some item.Enum) args scope t h each = absurd h
    call_type None args scope t h each = absurd h

    mutual
      pub tree_covers : (e : Tree) (scope : List Typed) {p : SymPath} {x : Path} {l : List Slot} → Has defs n e scope → LocalsFit defs l scope → Agrees here p x.vars x.world l → KnownSeen p x.seen
          → Covers ranges x (sym_tree here sym_here e p) (uses_in (passing e l x.world))
      tree_covers (node at form) scope h fit ag known = form_covers form h.want scope h.type h.has fit ag known

      form_covers : (form : Form) (want : Option Ty) (scope : List Typed) (t : Ty) {p : SymPath} {x : Path} {l : List Slot} → FormHas (globals_of defs) n form want scope t → LocalsFit defs l scope → Agrees here p x.vars x.world l → KnownSeen p x.seen
          → Covers ranges x (sym_form here sym_here form p) (uses_in (form_moments set calls_here moments_here form l x.world))
      form_covers unit want scope t h fit ag known = covers_leaf here ranges known
      form_covers (lit b) want scope t h fit ag known = covers_told here ranges _ known
      form_covers (truth b) want scope t h fit ag known = covers_told here ranges _ known
      form_covers (name y) want scope t {p} {x} {l} h fit ag known = read_covers here ranges p x l ag known y (things_proper defs)
      form_covers (chain op parts) want scope t h fit ag known = chain_covers parts op scope (parts_are defs n (is_join op) parts op scope t h.1) fit ag known
      form_covers (flip of) want scope t h fit ag known =
          let k : Has defs n of scope = record { want = None; type = t; has = h.0 } in
          on_last here ranges {P = Is} (part_does k ag) (tree_covers of scope k fit ag known) (λ m y a l more is seen. covers_told here ranges _ seen)
      form_covers (slice of hi lo) want scope t h fit ag known =
          let k : Has defs n of scope = record { want = None; type = ty.Bits h.0; has = h.1.0 } in
          on_last here ranges {P = Is} (part_does k ag) (tree_covers of scope k fit ag known) (λ m y a l more is seen. covers_told here ranges _ seen)
      form_covers (update of hi lo by) want scope t {x} {l} h fit ag known =
          let k : Has defs n of scope = record { want = None; type = ty.Bits h.0; has = h.1.0 } in
          let j : Has defs n by scope = record { want = Some (ty.Bits (bits_between hi lo)); type = ty.Bits (bits_between hi lo); has = h.1.2 } in
          on_moments here ranges {P = Is} (passing of l x.world) (λ _. passing by) (λ a m w. IsOfType defs a k.type × LocalsFit defs m scope) (part_does k ag) (tree_covers of scope k fit ag known) (part_gives x k fit ag)
          (λ m y a l come more is seen e. on_last here ranges {P = Is} (part_does j more) (tree_covers by scope j e.1 more seen) (λ m y a l most there last. covers_told here ranges _ last))
      form_covers (call f args) want scope t {x} {l} h fit ag known =
          let o = find_thing f (things_of defs) in
          call_type (find f (globals_of defs)) args scope t h.0 (λ ps r after e low k.
          args_covers args scope t ps r after o (subst (λ i. AsFound defs i o) e (found defs f)) low (args_are defs n args ps r scope t k)
          (args_kept defs ranges accesses (globals_of defs) (things_of defs) (found defs) n calls_here kept args ps r scope t k l x.world fit (state_fits x ag)) fit ag (record { is = λ v k. all_none v }) known)
      form_covers (widen signed to of) want scope t h fit ag known =
          let k : Has defs n of scope = record { want = None; type = ty.Bits h.0; has = h.1.0 } in
          on_last here ranges {P = Is} (part_does k ag) (tree_covers of scope k fit ag known) (λ m y a l more is seen. covers_told here ranges _ seen)
      form_covers (choose test one other) want scope t {x} {l} h fit ag known =
          let k : Has defs n test scope = record { want = Some ty.Bool; type = ty.Bool; has = h.0 } in
          on_moments here ranges {P = Is} (passing test l x.world) (λ v. if is_true v then passing one else passing other) (λ a m w. IsOfType defs a k.type × LocalsFit defs m scope) (part_does k ag) (tree_covers test scope k fit ag known) (part_gives x k fit ag)
          (λ m y a l come more is seen e. choose_covers here ranges m.path y l more seen (sym_tree here sym_here one) (sym_tree here sym_here other) (passing one) (passing other)
          (tree_covers one scope (record { want = want; type = t; has = h.1 }) e.1 more seen) (tree_covers other scope (record { want = Some t; type = t; has = h.2 }) e.1 more seen) m.value a is)
      form_covers (when test one) want scope t {x} {l} h fit ag known =
          let k : Has defs n test scope = record { want = Some ty.Bool; type = ty.Bool; has = h.0 } in
          on_moments here ranges {P = Is} (passing test l x.world) (λ v. if is_true v then passing one else still) (λ a m w. IsOfType defs a k.type × LocalsFit defs m scope) (part_does k ag) (tree_covers test scope k fit ag known) (part_gives x k fit ag)
          (λ m y a l come more is seen e. choose_covers here ranges m.path y l more seen (sym_tree here sym_here one) (sym_pure sym_unit) (passing one) still
          (tree_covers one scope (record { want = Some ty.Unit; type = ty.Unit; has = h.1 }) e.1 more seen) (covers_leaf here ranges seen) m.value a is)
      form_covers (cases of arms) want scope t {x} {l} h fit ag known =
          let k : Has defs n of scope = record { want = None; type = h.0; has = h.1.0 } in
          on_moments here ranges {P = Is} (passing of l x.world) (λ v. arms_moments set calls_here moments_here arms v) (λ a m w. IsOfType defs a k.type × LocalsFit defs m scope) (part_does k ag) (tree_covers of scope k fit ag known) (part_gives x k fit ag)
          (λ m y a l come more is seen e. arms_covers arms h.0 scope (arms_are defs n arms h.0 want scope t h.1.1) (form_soundness (cases of arms) want scope t h).1 e.0 e.1 more is seen)
      form_covers (foreach y from to body) want scope t h fit ag known =
          let d : Typed = record { name = y; sort = Counts from to } in
          let k : Has defs n body (d ∷ scope) = record { want = Some ty.Unit; type = ty.Unit; has = h.1 } in
          turns_covers here ranges defs scope (to + 1 - from) from to (sym_counted y (sym_tree here sym_here body)) (counted y (run body)) (λ i l w. passing body (record { name = y; local = local.Counts i } ∷ l) w) (λ q m. omega (arith, m))
          (λ j q z s a b more. does_within here ranges more (comes_here here more)
          (on_to here ranges {P = Is} {Q = Is} (λ _. run body) (define_counts here ranges accesses (things_proper defs) y j more) (λ _. grow_eval set ds body) (λ m u c r come most is. part_does k most)))
          (λ j q z s a b there more. ends_given_locals (λ a. IsOfType defs a ty.Unit) (counted y (run body) j s z.world) scope
          (counted_kept defs y from to j scope (run body) a b (tree_kept defs ranges accesses (globals_of defs) (things_of defs) (found defs) n calls_here kept body (Some ty.Unit) (d ∷ scope) ty.Unit h.1) s z.world there (state_fits z more)))
          (λ j q z s a b there more seen. turn_covers y from to j body scope k (λ q z s there more seen. tree_covers body (d ∷ scope) k there more seen) a b there more seen)
          fit ag known
      form_covers (check test text) want scope t h fit ag known =
          let k : Has defs n test scope = record { want = Some ty.Bool; type = ty.Bool; has = h.0 } in
          on_last here ranges {P = Is} (part_does k ag) (tree_covers test scope k fit ag known) (λ m y a l more is seen. asserted_covers here ranges m.path y l more seen m.value)
      form_covers exit want scope t h fit ag known = covers_fails here ranges failure.Exit
      form_covers (assign y by) want scope t {x} {l} h fit ag known =
          let k : Has defs n by scope = record { want = Some h.0; type = h.0; has = h.1.1 } in
          on_moments here ranges {P = Is} (passing by l x.world) (λ v. name_written (things_of defs) y v) (λ a m w. IsOfType defs a k.type × LocalsFit defs m scope) (part_does k ag) (tree_covers by scope k fit ag known) (part_gives x k fit ag)
          (λ m z a l come more is seen e. write_covers here ranges m.path z l more seen defs refl (globals_of defs) (found defs) y m.value a h.0 scope e.1 h.1.0 e.0 is)
      form_covers (block steps) want scope t h fit ag known =
          on_last here ranges {P = Is} (steps_does here ranges accesses (things_proper defs) ds sym_here follow steps (form_soundness (block steps) want scope t h) ag (unit_always here ranges))
          (steps_covers steps scope (steps_are defs n steps want scope t h) (form_soundness (block steps) want scope t h) fit ag (unit_always here ranges) known)
          (λ m y a l more is seen. covers_locals here ranges _ seen)

      chain_covers : (ts : Trees) (op : Infix) (scope : List Typed) {p : SymPath} {x : Path} {l : List Slot} → AllAre defs n ts scope → LocalsFit defs l scope → Agrees here p x.vars x.world l → KnownSeen p x.seen
          → Covers ranges x (sym_chain here sym_here ts op p) (uses_in (chain_moments set calls_here moments_here ts op l x.world))
      chain_covers none op scope h fit ag known = covers_leaf here ranges known
      chain_covers (some e rest) op scope {x} {l} h fit ag known =
          on_moments here ranges {P = Is} (passing e l x.world) (λ v. rest_moments set calls_here moments_here rest op v) (λ a m w. IsOfType defs a h.0.type × LocalsFit defs m scope) (part_does h.0 ag) (tree_covers e scope h.0 fit ag known) (part_gives x h.0 fit ag)
          (λ m y a l come more is seen k. rest_covers rest op scope h.1 k.1 more is seen)

      rest_covers : (ts : Trees) (op : Infix) (scope : List Typed) {s : SymValue} {a : Value} {p : SymPath} {x : Path} {l : List Slot} → AllAre defs n ts scope → LocalsFit defs l scope → Agrees here p x.vars x.world l → Always Is p x.vars s a → KnownSeen p x.seen
          → Covers ranges x (sym_rest here sym_here ts op s p) (uses_in (rest_moments set calls_here moments_here ts op a l x.world))
      rest_covers none op scope h fit ag k known = covers_leaf here ranges known
      rest_covers (some e rest) op scope {s} {a} {p} {x} {l} h fit ag k known =
          unless_covers here ranges p x l ag known (sym_bind (sym_tree here sym_here e) (λ u. sym_bind (told (sym_applied op s u)) (λ w. sym_rest here sym_here rest op w)))
          (λ l w. passing e l w ++ following (run e l w) (λ u. rest_moments set calls_here moments_here rest op (applied op a u)))
          (on_moments here ranges {P = Is} (passing e l x.world) (λ u. rest_moments set calls_here moments_here rest op (applied op a u)) (λ a m w. IsOfType defs a h.0.type × LocalsFit defs m scope) (part_does h.0 ag) (tree_covers e scope h.0 fit ag known) (part_gives x h.0 fit ag)
          (λ m y b l2 come more is seen j. on_covers here ranges {P = Is} {o = gives (applied op a b) l2 y.world} {us = []} (λ v m w. uses_in (rest_moments set calls_here moments_here rest op v m w)) (λ v m w. LocalsFit defs m scope)
          (does_told here ranges {P = Is} (sym_applied op s m.value) (applied op a b) more (λ v i. applied_is v i.valid op ((always_on come k).is v i) (is.is v i)))
          (covers_told here ranges (sym_applied op s m.value) seen) j.1
          (λ q z c l3 next_come most there last there_fit. rest_covers rest op scope h.1 there_fit most there last)))
          op s a k

      -- arguments, and the call behind them
      args_covers : (ts : Trees) (scope : List Typed) (t : Ty) (ps : List Asked) (r : Option Ty) (after : ℕ) (o : Option Thing) {ss : List SymValue} {vs : List Value} {p : SymPath} {x : Path} {l : List Slot}
          → AsFound defs (Some (item.Function ps r after)) o → after ≤ n → AllAre defs n ts scope → Ends defs (λ m. LocalsFit defs m scope) (λ vs. ArgsFit defs ps r vs t) (eval_all set calls_here ts vs l x.world)
          → LocalsFit defs l scope → Agrees here p x.vars x.world l → Always AreAll p x.vars ss vs → KnownSeen p x.seen
          → Covers ranges x (onto (sym_all here sym_here ts ss p) (λ m. sym_called sym_here o m.value m.path)) (uses_in (args_moments set calls_here moments_here ts vs (called_moments set moments_here o) l x.world))
      args_covers none scope t ps r after o {ss} {vs} {p} {x} {l} found low h ends fit ag all known = leaf_covers here ranges (λ ss. sym_called sym_here o ss) (called_covers t ps r after o found low ends.0 ag all known)
      args_covers (some e rest) scope t ps r after o {ss} {vs} {p} {x} {l} found low h ends fit ag all known =
          subst (λ t. Covers ranges x t (uses_in (passing e l x.world ++ following (run e l x.world) (λ v. args_moments set calls_here moments_here rest (vs ++ v ∷ []) (called_moments set moments_here o)))))
          (sym (onto_assoc (sym_tree here sym_here e p) (λ m. sym_all here sym_here rest (ss ++ m.value ∷ []) m.path) (λ m. sym_called sym_here o m.value m.path)))
          (on_moments here ranges {P = Is} (passing e l x.world) (λ v. args_moments set calls_here moments_here rest (vs ++ v ∷ []) (called_moments set moments_here o))
          (λ a m w. (IsOfType defs a h.0.type × LocalsFit defs m scope) × Ends defs (λ m. LocalsFit defs m scope) (λ vs. ArgsFit defs ps r vs t) (eval_all set calls_here rest (vs ++ a ∷ []) m w)) (part_does h.0 ag)
          (tree_covers e scope h.0 fit ag known)
          (with_rest defs (λ a m w. IsOfType defs a h.0.type × LocalsFit defs m scope) (λ m. LocalsFit defs m scope) (λ vs. ArgsFit defs ps r vs t) (λ v. eval_all set calls_here rest (vs ++ v ∷ [])) (run e l x.world) (part_gives x h.0 fit ag) ends)
          (λ m y a l come more is seen j. args_covers rest scope t ps r after o found low h.1 j.1 j.0.1 more (record { is = λ v i. all_more v ((always_on come all).is v i) (is.is v i) }) seen))

      arms_covers : (arms : Cases) (u : Ty) (scope : List Typed) {s : SymValue} {a : Value} {p : SymPath} {x : Path} {l : List Slot} → ArmsAre defs n arms u scope → AreSoundArms arms → IsOfType defs a u → LocalsFit defs l scope
          → Agrees here p x.vars x.world l → Always Is p x.vars s a → KnownSeen p x.seen → Covers ranges x (sym_arms here sym_here arms s p) (uses_in (arms_moments set calls_here moments_here arms a l x.world))
      arms_covers no_case u scope h sound typed fit ag k known = covers_fails here ranges failure.Match
      arms_covers (case (arm pt body) rest) u scope {s} {a} {p} {x} {l} h sound typed fit ag k known =
          let inside : Passing = λ l w. following (enter set pt a l w) (λ _. passing body) in
          let outside : Passing = arms_moments set calls_here moments_here rest a in
          on_covers here ranges {P = BitIs} {o = gives (fits (things_of defs) pt a) l x.world} {us = []} (λ c m w. uses_in ((if c then inside else outside) m w)) (λ c m w. LocalsFit defs m scope)
          (does_told here ranges {P = BitIs} (condition (things_of defs) pt s) (fits (things_of defs) pt a) ag (λ v i. condition_is v i.valid (things_of defs) pt sound.0 (k.is v i)))
          (covers_told here ranges (condition (things_of defs) pt s) known) fit
          (λ m y c l2 come more bit seen e. fork_covers here ranges m.path y l2 more seen (sym_within (sym_bind (sym_enter (things_of defs) pt s) (λ _. sym_tree here sym_here body))) (sym_arms here sym_here rest s) inside outside
          (arm_covers pt body u scope h.0 h.1 (λ q z s there more seen. tree_covers body (entered (globals_of defs) pt (Some u) scope) h.1 there more seen) typed e more (always_on come k) seen) (arms_covers rest u scope h.2 sound.2 typed e more (always_on come k) seen) m.value c bit)

      steps_covers : (ss : Steps) (scope : List Typed) {s : SymValue} {a : Value} {p : SymPath} {x : Path} {l : List Slot} → StepsAre defs n ss scope → AreSoundSteps ss → LocalsFit defs l scope
          → Agrees here p x.vars x.world l → Always Is p x.vars s a → KnownSeen p x.seen → Covers ranges x (sym_steps here sym_here ss s p) (uses_in (steps_moments set calls_here moments_here ss l x.world))
      steps_covers done scope h sound fit ag k known = covers_leaf here ranges known
      steps_covers (next (does e) rest) scope {x} {l} h sound fit ag k known =
          on_moments here ranges {P = Is} (passing e l x.world) (λ _. steps_moments set calls_here moments_here rest) (λ a m w. IsOfType defs a h.0.type × LocalsFit defs m scope) (part_does h.0 ag) (tree_covers e scope h.0 fit ag known) (part_gives x h.0 fit ag)
          (λ m y a l come more is seen j. steps_covers rest scope h.1 sound.1 j.1 more is seen)
      steps_covers (next (binds y d by) rest) scope {x} {l} h sound fit ag k known =
          let b : Has defs n by scope = record { want = d; type = h.0; has = h.1.0 } in
          on_moments here ranges {P = Is} (passing by l x.world) (λ _. steps_moments set calls_here moments_here rest) (λ a m w. LocalsFit defs m (record { name = y; sort = Holds (Some h.0) false } ∷ scope))
          (step_does here ranges accesses (things_proper defs) ds sym_here follow (binds y d by) sound.0 ag) (defined_covers y by scope b (tree_covers by scope b fit ag known) ag) (defined_given defs y h.0 false scope (run by l x.world) (part_gives x b fit ag))
          (λ m z a l come more is seen j. steps_covers rest (record { name = y; sort = Holds (Some h.0) false } ∷ scope) h.1.1 sound.1 j more is seen)
      steps_covers (next (holds y d by) rest) scope {x} {l} h sound fit ag k known =
          let b : Has defs n by scope = record { want = d; type = h.0; has = h.1.0 } in
          on_moments here ranges {P = Is} (passing by l x.world) (λ _. steps_moments set calls_here moments_here rest) (λ a m w. LocalsFit defs m (record { name = y; sort = Holds (Some h.0) true } ∷ scope))
          (step_does here ranges accesses (things_proper defs) ds sym_here follow (holds y d by) sound.0 ag) (defined_covers y by scope b (tree_covers by scope b fit ag known) ag) (defined_given defs y h.0 true scope (run by l x.world) (part_gives x b fit ag))
          (λ m z a l come more is seen j. steps_covers rest (record { name = y; sort = Holds (Some h.0) true } ∷ scope) h.1.1 sound.1 j more is seen)
