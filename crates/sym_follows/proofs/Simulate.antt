-- The tree of an expression does what its evaluation does.
use Rattle.std.proofs.Common.{◌≡◌, ℕ, zero, suc, ◌+◌, ◌-◌, Bool, true, false, List, [], ◌∷◌, ◌++◌, length, Option, Some, None, refl, sym, ap, ap₂, ◌∙◌, subst, subst₂}
use Rattle.std.specs.Prelude.{⊤, if◌then◌else◌}
use Rattle.bv_bits.specs.declared.Bits.{Bits}
use Rattle.bv_bits.specs.Bits.{IsBits}
use Rattle.sail_syntax.specs.Tree.{Text, Tree, node, Form, unit, lit, truth, name, chain, flip, slice, update, call, widen, choose, when, cases, foreach, check, exit, assign, block, Trees, none, some, arm, Cases, no_case, case, Step, binds, holds, does, Steps, done, next}
use Rattle.sail_syntax.specs.Program.{Definition}
use Rattle.sail_syntax.specs.declared.tree.Infix.{Infix}
use Rattle.sail_syntax.specs.declared.tree.Index.{Index}
use Rattle.sail_syntax.specs.declared.patterns.Pattern.{Pattern}
use Rattle.state_core.specs.declared.kinds.FaultKind.{FaultKind}
use Rattle.state_core.specs.declared.kinds.FaultKind.TheVariants as kind
use Rattle.state_core.specs.declared.kinds.Range.{Range}
use Rattle.state_core.specs.World.{World, fault}
use Rattle.term_tree.specs.Terms as term
use Rattle.term_tree.specs.Values.{Values}
use Rattle.term_arena.specs.Said.{said_then, single}
use Rattle.trace_plain.specs.declared.trace.FailKind.{FailKind}
use Rattle.trace_plain.specs.declared.trace.FailKind.TheVariants as failure
use Rattle.trace_plain.specs.Following.{Path, failed, ended}
use Rattle.sail_values.specs.declared.value.Slot.{Slot}
use Rattle.sail_values.specs.declared.value.Local.TheVariants as local
use Rattle.sail_values.specs.declared.value.Value.{Value}
use Rattle.sail_values.specs.declared.value.Value.TheVariants as concrete
use Rattle.sail_values.specs.Values.{nth, flipped, widened, is_true, applied, decides}
use Rattle.sail_names.specs.declared.things.Thing.{Thing}
use Rattle.sail_names.specs.declared.things.Thing.TheVariants as thing
use Rattle.sail_names.specs.Things.{find_thing}
use Rattle.eval_rules.specs.Flow.{Out, gives, stops, Meaning, after, bind, pure, within}
use Rattle.eval_rules.specs.Parts.{index_at, sliced, updated, fits, pattern_bound}
use Rattle.eval_rules.specs.Names.{Setting, write, define}
use Rattle.eval_rules.specs.Eval.{slice_now, update_now, enter, faulty, called, turns, counted, eval, eval_form, eval_chain, eval_rest, eval_all, eval_arms, eval_step, eval_steps, calls_of}
use Rattle.eval_types.proofs.GivenLemmas.{Accesses}
use Rattle.sym_rules.specs.Values.{SymValue, sym_unit, sym_truth, sym_bits, sym_is, sym_counts, SymLocal, SymSlot, SymPath, SymSetting}
use Rattle.sym_follows.specs.Follows.{Says}
use Rattle.sym_rules.specs.Trees.{SymTree, leaf, fails, Leaf, SymMeaning, sym_pure, sym_bind, sym_within, told}
use Rattle.sym_rules.specs.Operators.{sym_nth, known_truth, as_bits, sym_flipped, sym_widened, sym_applied}
use Rattle.sym_rules.specs.Parts.{sym_index, sym_sliced, sym_updated, condition, sym_pattern_bound}
use Rattle.sym_rules.specs.Sym.{sym_slice_now, sym_update_now, sym_define, sym_enter, sym_called, sym_turns, sym_counted, SymCalls, sym as sym_tree, sym_form, sym_chain, sym_rest, sym_all, sym_arms, sym_step, sym_steps}
use Rattle.sym_follows.proofs.Sound.{IsSound, IsSoundForm, AreSound, AreSoundArms, IsSoundStep, AreSoundSteps}
use Rattle.sym_follows.proofs.Values.{Is, BitIs, Tells, flipped_is, widened_is, known_is, applied_is}
use Rattle.sym_follows.proofs.Parts.{SlotsAre, slot_at, index_is, sliced_is, updated_is, condition_is, pattern_bound_is}
use Rattle.sym_follows.proofs.Agree.{values_at, Later, later_refl, Always, always_on, Agrees, comes_here, now}
use Rattle.sym_follows.proofs.Does.{grows_none, Does, full, on_to, does_leaf, does_locals, does_told, does_asserted, does_within, unit_always}
use Rattle.sym_follows.proofs.Things.{IfProper, AreProper, found_proper}
use Rattle.sym_follows.proofs.Names.{does_read, does_write}
use Rattle.sym_follows.proofs.Memory.{does_given_on}
use Rattle.sym_follows.proofs.Grow.{Grow, grow_after, grow_bind, grow_if, grow_within, grow_turns, grow_write, grow_eval, grow_called, grow_rest, grow_all, grow_arms, grow_step, grow_steps, grow_counted}
use Rattle.sym_follows.proofs.Calls.{AreAll, all_none, all_more, nth_is, does_by, does_choose, does_unless}

-- the literal of a bit vector
pub literal_is : (v : Values) (b : Bits) → IsBits b → Tells (Is v) (as_bits (single (term.lit b))).answer (concrete.Bits b)
unfolding said_then
literal_is v b h = record { typed = h; same = refl }

module _ (here : SymSetting) (ranges : List Range) (accesses : Accesses ranges) (proper : AreProper (length here.widths) here.things) where
  -- what evaluation needs
  abbrev pub setting : Setting
  setting = record { things = here.things; ranges = ranges }

  -- the trees of calls do what the calls do
  pub record CallsFollow (ds : List Definition) (calls : SymCalls) : Type 0 where
    pub each : (i : ℕ) {ss : List SymValue} {vs : List Value} {p : SymPath} {x : Path} {l : List Slot} → Agrees here p x.vars x.world l → Always AreAll p x.vars ss vs
        → Does here ranges Is p x (calls i ss p) (calls_of setting ds i vs l x.world)

  -- a fault of the text
  pub does_fault : (k : FaultKind) (f : FailKind) (at : ℕ) {p : SymPath} {x : Path} → Says (failed f) x.world (stops (fault k at) x.world)
      → Does here ranges Is p x (fails f) (stops (fault k at) x.world)
  does_fault k f at {p} {x} says = record { is = λ short. full (record { out = ended (failed f) x; only = refl; says = says }) }

  -- a new local
  pub define_is : (y : Text) (s : SymValue) (a : Value) {p : SymPath} {x : Path} {l : List Slot} → Agrees here p x.vars x.world l → Always Is p x.vars s a
      → Does here ranges Is p x (sym_define y (sym_is s) p) (define y (local.Is a) l x.world)
  define_is y s a {p} {x} {l} ag h =
      does_locals here ranges {P = Is} (record { name = y; local = sym_is s } ∷ p.locals) (record { name = y; local = local.Is a } ∷ l) ag
      (record { is = λ v k. record { typed = ((h.is v k).typed, (ag.locals.is v k).typed); same = ap₂ (λ a m. record { name = y; local = local.Is a } ∷ m) ((h.is v k).same) ((ag.locals.is v k).same) } })
      (unit_always here ranges)

  pub define_counts : (y : Text) (n : ℕ) {p : SymPath} {x : Path} {l : List Slot} → Agrees here p x.vars x.world l
      → Does here ranges Is p x (sym_define y (sym_counts n) p) (define y (local.Counts n) l x.world)
  define_counts y n {p} {x} {l} ag =
      does_locals here ranges {P = Is} (record { name = y; local = sym_counts n } ∷ p.locals) (record { name = y; local = local.Counts n } ∷ l) ag
      (record { is = λ v k. record { typed = (tt, (ag.locals.is v k).typed); same = ap (λ m. record { name = y; local = local.Counts n } ∷ m) ((ag.locals.is v k).same) } })
      (unit_always here ranges)

  -- the names that a pattern binds
  pub enter_does : (pt : Pattern) (s : SymValue) (a : Value) {p : SymPath} {x : Path} {l : List Slot} → Agrees here p x.vars x.world l → Always Is p x.vars s a
      → Does here ranges Is p x (sym_enter here.things pt s p) (enter setting pt a l x.world)
  enter_does pt s a {p} {x} {l} ag h =
      on_to here ranges {P = SlotsAre} {Q = Is} {o = gives (pattern_bound here.things pt a l) l x.world} (λ ms l w. gives concrete.Unit ms w)
      (does_told here ranges {P = SlotsAre} (sym_pattern_bound here.things pt s p.locals) (pattern_bound here.things pt a l) ag (λ v k. pattern_bound_is v k.valid here.things pt (h.is v k) (ag.locals.is v k)))
      (λ ms l w. grows_none w)
      (λ m y ms k come more is. does_locals here ranges {P = Is} m.value ms more is (unit_always here ranges))

  -- the bits of a value
  pub slice_does : (hi lo : Index) (s : SymValue) (a : Value) {p : SymPath} {x : Path} {l : List Slot} → Agrees here p x.vars x.world l → Always Is p x.vars s a
      → Does here ranges Is p x (sym_slice_now hi lo s p) (slice_now hi lo a l x.world)
  slice_does hi lo s a {p} {x} {l} ag h =
      let e = (now here ag ag.locals).same in
      subst₂ (λ i j. Does here ranges Is p x (sym_slice_now hi lo s p) (gives (sliced a i j) l x.world)) (sym (index_is (values_at x.vars) hi p.locals l e)) (sym (index_is (values_at x.vars) lo p.locals l e))
      (does_told here ranges {P = Is} (sym_sliced s (sym_index hi p.locals) (sym_index lo p.locals)) (sliced a (sym_index hi p.locals) (sym_index lo p.locals)) ag
      (λ v k. sliced_is v k.valid (sym_index hi p.locals) (sym_index lo p.locals) (h.is v k)))

  pub update_does : (hi lo : Index) (s t : SymValue) (a b : Value) {p : SymPath} {x : Path} {l : List Slot} → Agrees here p x.vars x.world l → Always Is p x.vars s a → Always Is p x.vars t b
      → Does here ranges Is p x (sym_update_now hi lo s t p) (update_now hi lo a b l x.world)
  update_does hi lo s t a b {p} {x} {l} ag h i =
      let e = (now here ag ag.locals).same in
      subst₂ (λ i j. Does here ranges Is p x (sym_update_now hi lo s t p) (gives (updated a i j b) l x.world)) (sym (index_is (values_at x.vars) hi p.locals l e)) (sym (index_is (values_at x.vars) lo p.locals l e))
      (does_told here ranges {P = Is} (sym_updated s (sym_index hi p.locals) (sym_index lo p.locals) t) (updated a (sym_index hi p.locals) (sym_index lo p.locals) b) ag
      (λ v k. updated_is v k.valid (sym_index hi p.locals) (sym_index lo p.locals) (h.is v k) (i.is v k)))

  -- the turns of a foreach
  pub turns_does : (n i : ℕ) (tree : ℕ → SymMeaning SymValue) (body : ℕ → Meaning Value) {p : SymPath} {x : Path} {l : List Slot} → ((i : ℕ) → Grow (body i))
      → ((i : ℕ) (p : SymPath) (x : Path) (l : List Slot) → Agrees here p x.vars x.world l → Does here ranges Is p x (tree i p) (body i l x.world))
      → Agrees here p x.vars x.world l → Does here ranges Is p x (sym_turns n i tree p) (turns n i body l x.world)
  turns_does zero i tree body grow each ag = does_leaf here ranges {P = Is} ag (unit_always here ranges)
  turns_does (suc n) i tree body {p} {x} {l} grow each ag =
      on_to here ranges {P = Is} {Q = Is} (λ _. turns n (i + 1) body) (each i p x l ag) (λ a. grow_turns n (i + 1) body grow)
      (λ m y a k come more is. turns_does n (i + 1) tree body grow each more)

  module _ (ds : List Definition) (calls : SymCalls) (follow : CallsFollow ds calls) where
    pub called_does : (o : Option Thing) (at : ℕ) {ss : List SymValue} {vs : List Value} {p : SymPath} {x : Path} {l : List Slot} → IfProper (length here.widths) o
        → Agrees here p x.vars x.world l → Always AreAll p x.vars ss vs → Does here ranges Is p x (sym_called calls o ss p) (called setting (calls_of setting ds) o at vs l x.world)
    called_does (Some (thing.Function i)) at h ag k = follow.each i ag k
    called_does (Some (thing.Given g)) at {ss} {vs} {p} {x} {l} h ag k =
        does_given_on here ranges accesses p x l ag g at h (record { is = λ v m. nth_is v 0 (k.is v m) }) (record { is = λ v m. nth_is v 1 (k.is v m) })
    called_does (Some (thing.Register r)) at h ag k = does_leaf here ranges {P = Is} ag (unit_always here ranges)
    called_does (Some (thing.Member e i)) at h ag k = does_leaf here ranges {P = Is} ag (unit_always here ranges)
    called_does None at h ag k = does_leaf here ranges {P = Is} ag (unit_always here ranges)

    -- the meaning of an expression, among the functions
    abbrev run : Tree → Meaning Value
    run t = eval setting (calls_of setting ds) t

    mutual
      pub tree_does : (t : Tree) {p : SymPath} {x : Path} {l : List Slot} → IsSound t → Agrees here p x.vars x.world l → Does here ranges Is p x (sym_tree here calls t p) (eval setting (calls_of setting ds) t l x.world)
      tree_does (node at form) h ag = form_does form at h ag

      form_does : (form : Form) (at : ℕ) {p : SymPath} {x : Path} {l : List Slot} → IsSoundForm form → Agrees here p x.vars x.world l
          → Does here ranges Is p x (sym_form here calls form p) (eval_form setting (calls_of setting ds) form at l x.world)
      form_does unit at h ag = does_leaf here ranges {P = Is} ag (unit_always here ranges)
      form_does (lit b) at h ag = does_told here ranges {P = Is} (as_bits (single (term.lit b))) (concrete.Bits b) ag (λ v k. literal_is v b h)
      form_does (truth b) at h ag = does_told here ranges {P = Is} (known_truth b) (concrete.Truth b) ag (λ v k. known_is v k.valid b)
      form_does (name y) at {p} {x} {l} h ag = does_read here ranges p x l ag y proper
      form_does (chain op parts) at h ag = chain_does parts op h ag
      form_does (flip of) at h ag =
          on_to here ranges {P = Is} {Q = Is} (λ v. pure (flipped v)) (tree_does of h ag) (λ a l w. grows_none w)
          (λ m y a l come more is. does_told here ranges {P = Is} (sym_flipped m.value) (flipped a) more (λ v k. flipped_is v k.valid (is.is v k)))
      form_does (slice of hi lo) at h ag =
          on_to here ranges {P = Is} {Q = Is} (λ v. slice_now hi lo v) (tree_does of h ag) (λ a l w. grows_none w) (λ m y a l come more is. slice_does hi lo m.value a more is)
      form_does (update of hi lo by) at h ag =
          on_to here ranges {P = Is} {Q = Is} (λ v. bind (run by) (λ u. update_now hi lo v u)) (tree_does of h.0 ag)
          (λ a. grow_bind (run by) (λ u. update_now hi lo a u) (grow_eval setting ds by) (λ u l w. grows_none w))
          (λ m y a l come more is. on_to here ranges {P = Is} {Q = Is} (λ u. update_now hi lo a u) (tree_does by h.1 more) (λ u l w. grows_none w)
          (λ n z b k next_come most there. update_does hi lo m.value n.value a b most (always_on next_come is) there))
      form_does (call f args) at h ag =
          on_to here ranges {P = AreAll} {Q = Is} (λ vs. called setting (calls_of setting ds) (find_thing f here.things) at vs) (all_does args h ag (record { is = λ v k. all_none v }))
          (λ vs. grow_called setting ds (find_thing f here.things) at vs)
          (λ m y vs l come more is. called_does (find_thing f here.things) at (found_proper (length here.widths) f here.things proper) more is)
      form_does (widen signed to of) at h ag =
          on_to here ranges {P = Is} {Q = Is} (λ v. pure (widened signed to v)) (tree_does of h ag) (λ a l w. grows_none w)
          (λ m y a l come more is. does_told here ranges {P = Is} (sym_widened signed to m.value) (widened signed to a) more (λ v k. widened_is v k.valid signed to (is.is v k)))
      form_does (choose test one other) at h ag =
          on_to here ranges {P = Is} {Q = Is} (λ v. if is_true v then run one else run other) (tree_does test h.0 ag)
          (λ v. grow_if (is_true v) (run one) (run other) (grow_eval setting ds one) (grow_eval setting ds other))
          (λ m y a l come more is. does_choose here ranges m.path y l more Is (sym_tree here calls one) (sym_tree here calls other) (run one) (run other) (tree_does one h.1 more) (tree_does other h.2 more) m.value a is)
      form_does (when test one) at h ag =
          on_to here ranges {P = Is} {Q = Is} (λ v. if is_true v then run one else pure concrete.Unit) (tree_does test h.0 ag)
          (λ v. grow_if (is_true v) (run one) (pure concrete.Unit) (grow_eval setting ds one) (λ l w. grows_none w))
          (λ m y a l come more is. does_choose here ranges m.path y l more Is (sym_tree here calls one) (sym_pure sym_unit) (run one) (pure concrete.Unit) (tree_does one h.1 more)
          (does_leaf here ranges {P = Is} more (unit_always here ranges)) m.value a is)
      form_does (cases of arms) at h ag =
          on_to here ranges {P = Is} {Q = Is} (λ v. eval_arms setting (calls_of setting ds) arms at v) (tree_does of h.0 ag) (λ v. grow_arms setting ds arms at v)
          (λ m y a l come more is. arms_does arms at h.1 more is)
      form_does (foreach y from to body) at h ag =
          turns_does (to + 1 - from) from (sym_counted y (sym_tree here calls body)) (counted y (run body)) (λ i. grow_counted setting ds y body i)
          (λ i q z k ag. does_within here ranges ag (comes_here here ag)
          (on_to here ranges {P = Is} {Q = Is} (λ _. run body) (define_counts y i ag) (λ _. grow_eval setting ds body) (λ m z a l come more is. tree_does body h more)))
          ag
      form_does (check test text) at h ag =
          on_to here ranges {P = Is} {Q = Is} (λ v. if is_true v then pure concrete.Unit else faulty kind.AssertFail at) (tree_does test h ag)
          (λ v. grow_if (is_true v) (pure concrete.Unit) (faulty kind.AssertFail at) (λ l w. grows_none w) (λ l w. grows_none w))
          (λ m y a l come more is. does_asserted here ranges m.path y l at more is)
      form_does exit at {p} {x} {l} h ag = does_fault kind.Exit failure.Exit at (refl, refl)
      form_does (assign y by) at h ag =
          on_to here ranges {P = Is} {Q = Is} (λ v. write here.things y v) (tree_does by h ag) (λ v. grow_write setting y v)
          (λ m z a l come more is. does_write here ranges m.path z l more y m.value a proper is)
      form_does (block steps) at h ag = does_within here ranges ag (comes_here here ag) (steps_does steps h ag (unit_always here ranges))

      pub chain_does : (ts : Trees) (op : Infix) {p : SymPath} {x : Path} {l : List Slot} → AreSound ts → Agrees here p x.vars x.world l
          → Does here ranges Is p x (sym_chain here calls ts op p) (eval_chain setting (calls_of setting ds) ts op l x.world)
      chain_does none op h ag = does_leaf here ranges {P = Is} ag (unit_always here ranges)
      chain_does (some t rest) op h ag =
          on_to here ranges {P = Is} {Q = Is} (λ v. eval_rest setting (calls_of setting ds) rest op v) (tree_does t h.0 ag) (λ v. grow_rest setting ds rest op v)
          (λ m y a l come more is. rest_does rest op h.1 more is)

      pub rest_does : (ts : Trees) (op : Infix) {s : SymValue} {a : Value} {p : SymPath} {x : Path} {l : List Slot} → AreSound ts → Agrees here p x.vars x.world l → Always Is p x.vars s a
          → Does here ranges Is p x (sym_rest here calls ts op s p) (eval_rest setting (calls_of setting ds) ts op a l x.world)
      rest_does none op h ag k = does_leaf here ranges {P = Is} ag k
      rest_does (some t rest) op {s} {a} {p} {x} {l} h ag k =
          does_unless here ranges p x l ag (sym_bind (sym_tree here calls t) (λ u. sym_bind (told (sym_applied op s u)) (λ w. sym_rest here calls rest op w)))
          (bind (run t) (λ u. eval_rest setting (calls_of setting ds) rest op (applied op a u)))
          (on_to here ranges {P = Is} {Q = Is} (λ u. eval_rest setting (calls_of setting ds) rest op (applied op a u)) (tree_does t h.0 ag) (λ u. grow_rest setting ds rest op (applied op a u))
          (λ m y b k2 come more is. on_to here ranges {P = Is} {Q = Is} {o = gives (applied op a b) k2 y.world} (λ v. eval_rest setting (calls_of setting ds) rest op v)
          (does_told here ranges {P = Is} (sym_applied op s m.value) (applied op a b) more (λ v i. applied_is v i.valid op ((always_on come k).is v i) (is.is v i)))
          (λ v. grow_rest setting ds rest op v)
          (λ n z c k3 next_come most there. rest_does rest op h.1 most there)))
          op s a k

      pub all_does : (ts : Trees) {ss : List SymValue} {vs : List Value} {p : SymPath} {x : Path} {l : List Slot} → AreSound ts → Agrees here p x.vars x.world l → Always AreAll p x.vars ss vs
          → Does here ranges AreAll p x (sym_all here calls ts ss p) (eval_all setting (calls_of setting ds) ts vs l x.world)
      all_does none h ag k = does_leaf here ranges {P = AreAll} ag k
      all_does (some t rest) {ss} {vs} h ag k =
          on_to here ranges {P = Is} {Q = AreAll} (λ v. eval_all setting (calls_of setting ds) rest (vs ++ v ∷ [])) (tree_does t h.0 ag) (λ v. grow_all setting ds rest (vs ++ v ∷ []))
          (λ m y a l come more is. all_does rest h.1 more (record { is = λ v i. all_more v ((always_on come k).is v i) (is.is v i) }))

      pub arms_does : (arms : Cases) (at : ℕ) {s : SymValue} {a : Value} {p : SymPath} {x : Path} {l : List Slot} → AreSoundArms arms → Agrees here p x.vars x.world l → Always Is p x.vars s a
          → Does here ranges Is p x (sym_arms here calls arms s p) (eval_arms setting (calls_of setting ds) arms at a l x.world)
      arms_does no_case at h ag k = does_fault kind.MatchFail failure.Match at (refl, refl)
      arms_does (case (arm pt body) rest) at {s} {a} {p} {x} {l} h ag k =
          let inside : Meaning Value = within (bind (enter setting pt a) (λ _. run body)) in
          let outside : Meaning Value = eval_arms setting (calls_of setting ds) rest at a in
          on_to here ranges {P = BitIs} {Q = Is} {o = gives (fits here.things pt a) l x.world} (λ c. if c then inside else outside)
          (does_told here ranges {P = BitIs} (condition here.things pt s) (fits here.things pt a) ag (λ v i. condition_is v i.valid here.things pt h.0 (k.is v i)))
          (λ c. grow_if c inside outside
          (grow_within (bind (enter setting pt a) (λ _. run body)) (grow_bind (enter setting pt a) (λ _. run body) (λ l w. grows_none w) (λ _. grow_eval setting ds body)))
          (grow_arms setting ds rest at a))
          (λ m y c k2 come more bit. does_by here ranges m.path y k2 more Is (sym_within (sym_bind (sym_enter here.things pt s) (λ _. sym_tree here calls body))) (sym_arms here calls rest s) inside outside
          (does_within here ranges more (comes_here here more)
          (on_to here ranges {P = Is} {Q = Is} (λ _. run body) (enter_does pt s a more (always_on come k)) (λ _. grow_eval setting ds body) (λ n z b k3 next_come most is. tree_does body h.1 most)))
          (arms_does rest at h.2 more (always_on come k)) m.value c bit)

      pub step_does : (s : Step) {p : SymPath} {x : Path} {l : List Slot} → IsSoundStep s → Agrees here p x.vars x.world l
          → Does here ranges Is p x (sym_step here calls s p) (eval_step setting (calls_of setting ds) s l x.world)
      step_does (binds y ty by) h ag =
          on_to here ranges {P = Is} {Q = Is} (λ v. define y (local.Is v)) (tree_does by h ag) (λ v l w. grows_none w) (λ m z a l come more is. define_is y m.value a more is)
      step_does (holds y ty by) h ag =
          on_to here ranges {P = Is} {Q = Is} (λ v. define y (local.Is v)) (tree_does by h ag) (λ v l w. grows_none w) (λ m z a l come more is. define_is y m.value a more is)
      step_does (does e) h ag = tree_does e h ag

      pub steps_does : (ss : Steps) {s : SymValue} {a : Value} {p : SymPath} {x : Path} {l : List Slot} → AreSoundSteps ss → Agrees here p x.vars x.world l → Always Is p x.vars s a
          → Does here ranges Is p x (sym_steps here calls ss s p) (eval_steps setting (calls_of setting ds) ss a l x.world)
      steps_does done h ag k = does_leaf here ranges {P = Is} ag k
      steps_does (next s rest) h ag k =
          on_to here ranges {P = Is} {Q = Is} (λ u. eval_steps setting (calls_of setting ds) rest u) (step_does s h.0 ag) (λ u. grow_steps setting ds rest u)
          (λ m y a l come more is. steps_does rest h.1 more is)
