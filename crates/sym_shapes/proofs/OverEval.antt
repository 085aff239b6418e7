-- The trees of expressions and calls keep the rules.
use Rattle.std.proofs.Common.{ℕ, zero, suc, ◌+◌, ◌-◌, Bool, true, false, List, [], ◌∷◌, ◌++◌, length, reverse, Option, Some, None, nat_eq, refl}
use Rattle.std.specs.Prelude.{⊤, if◌then◌else◌, slice_get}
use Rattle.bv_bits.specs.declared.Bits.{Bits}
use Rattle.bv_bits.specs.Bits.{IsBits}
use Rattle.lex_core.specs.declared.name.RegDecl.{RegDecl}
use Rattle.sail_syntax.specs.Tree.{Text, Tree, node, Form, unit, lit, truth, name, chain, flip, slice, update, call, widen, choose, when, cases, foreach, check, exit, assign, block, Trees, none, some, arm, Cases, no_case, case, Step, binds, holds, does, Steps, done, next}
use Rattle.sail_syntax.specs.Program.{Definition, Function, order, register, enumeration, signature, function}
use Rattle.sail_syntax.specs.declared.tree.Infix.{Infix}
use Rattle.sail_syntax.specs.declared.tree.Infix.TheVariants as between
use Rattle.sail_syntax.specs.declared.patterns.Pattern.{Pattern}
use Rattle.sail_syntax.specs.declared.types.Param.{Param}
use Rattle.sail_names.specs.declared.things.Given.{Given}
use Rattle.sail_names.specs.declared.things.Named.{Named}
use Rattle.sail_names.specs.declared.things.Thing.{Thing}
use Rattle.sail_names.specs.declared.things.Thing.TheVariants as thing
use Rattle.sail_names.specs.Things.{find_thing}
use Rattle.term_tree.specs.Terms as term
use Rattle.term_arena.specs.Said.{said_then, single}
use Rattle.trace_plain.specs.declared.trace.FailKind.TheVariants as failure
use Rattle.sym_rules.specs.Values.{SymValue, sym_unit, sym_truth, sym_bits, sym_member, sym_is, sym_counts, SymSlot, SymPath, SymSetting}
use Rattle.sym_rules.specs.Trees.{SymTree, onto, Leaf, SymMeaning, sym_pure, sym_bind, sym_within, leaf_within, with_locals, told}
use Rattle.sym_rules.specs.Operators.{sym_nth, as_bits, known_truth, sym_flipped, sym_widened, sym_applied, unless_decided}
use Rattle.sym_rules.specs.Parts.{sym_index, sym_sliced, sym_updated, condition, sym_pattern_bound}
use Rattle.sym_rules.specs.Sym.{sym_define, sym_enter, sym_called, SymCalls, sym_turns, sym_counted, sym as sym_tree, sym_form, sym_chain, sym_rest, sym_all, sym_arms, sym_step, sym_steps, sym_bound, sym_entered, sym_calls}
use Rattle.sym_follows.proofs.Sound.{IsSound, IsSoundForm, AreSound, AreSoundArms, IsSoundStep, AreSoundSteps, AreSoundDefinitions}
use Rattle.sym_follows.proofs.Things.{IfProper, AreProper, found_proper}
use Rattle.sym_shapes.proofs.Over.{IsOver, IsBitOver, IsValueOver, Says, Extends, value_more, literal_over, flipped_over, widened_over, known_over, applied_over}
use Rattle.sym_shapes.proofs.OverParts.{AreOver, are_more, drop_over, sliced_over, updated_over, condition_over, pattern_bound_over}
use Rattle.sym_shapes.proofs.OverTrees.{IsPathOver, path_locals, IsHandled, IsTreeOver, on_over, leaf_over, fails_over, told_over, if_over, fork_over, choose_over, asserted_over, AreRegistersOf, read_over, write_over, given_over}
use Rattle.sym_shapes.proofs.Handled.{AreHandled, IfHandled, found_handled}

-- ---- values in a row

abbrev pub AreValuesOver : List ℕ → List SymValue → Type 0
AreValuesOver bound [] = ⊤
AreValuesOver bound (s ∷ ss) = IsValueOver bound s × AreValuesOver bound ss

values_more : {bound more : List ℕ} → Extends bound more → (ss : List SymValue) → AreValuesOver bound ss → AreValuesOver more ss
values_more x [] h = tt
values_more x (s ∷ ss) h = (value_more x s h.0, values_more x ss h.1)

values_push : (bound : List ℕ) (ss : List SymValue) (s : SymValue) → AreValuesOver bound ss → IsValueOver bound s → AreValuesOver bound (ss ++ s ∷ [])
values_push bound [] s h k = (k, tt)
values_push bound (t ∷ ss) s h k = (h.0, values_push bound ss s h.1 k)

nth_over : (bound : List ℕ) (i : ℕ) (ss : List SymValue) → AreValuesOver bound ss → IsValueOver bound (sym_nth i ss)
nth_over bound zero [] h = tt
nth_over bound (suc i) [] h = tt
nth_over bound zero (s ∷ ss) h = h.0
nth_over bound (suc i) (s ∷ ss) h = nth_over bound i ss h.1

bound_over : (bound : List ℕ) (ps : List Param) (ss : List SymValue) (i : ℕ) (ls : List SymSlot) → AreValuesOver bound ss → AreOver bound ls → AreOver bound (sym_bound ps ss i ls)
bound_over bound [] ss i ls h k = k
bound_over bound (p ∷ ps) ss i ls h k = bound_over bound ps ss (i + 1) (record { name = p.name; local = sym_is (sym_nth i ss) } ∷ ls) h (nth_over bound i ss h, k)

-- a literal of the text
pub literal_says : (bound : List ℕ) (b : Bits) → IsBits b → Says (IsValueOver bound) (as_bits (single (term.lit b))).answer
unfolding said_then
literal_says bound b h = literal_over bound b h

module _ (registers : List RegDecl) (here : SymSetting) (are : AreRegistersOf registers here) (proper : AreProper (length here.widths) here.things) (handled : AreHandled here.things) where
  -- a tree of which values come
  abbrev pub IsOverTree : List ℕ → SymTree (Leaf SymValue) → Type 0
  IsOverTree bound t = IsTreeOver registers IsValueOver bound t

  -- the trees of calls keep the rules
  pub record CallsKeepRules (calls : SymCalls) : Type 0 where
    pub each : (i : ℕ) (ss : List SymValue) {bound : List ℕ} {p : SymPath} → IsPathOver bound p → AreValuesOver bound ss → IsOverTree bound (calls i ss p)

  -- ---- small steps

  within_over : {bound : List ℕ} {t : SymTree (Leaf SymValue)} (n : ℕ) → IsOverTree bound t → IsOverTree bound (onto t (leaf_within n))
  within_over n h = on_over registers {V = IsValueOver} h (λ more m x path value. leaf_over registers {V = IsValueOver} (path_locals _ (drop_over more (length m.path.locals - n) m.path.locals path.locals) path) value)

  enter_over : {bound : List ℕ} {p : SymPath} (pt : Pattern) (s : SymValue) → IsPathOver bound p → IsValueOver bound s → IsOverTree bound (sym_enter here.things pt s p)
  enter_over {bound} {p} pt s h k =
      on_over registers {V = AreOver} (told_over registers {V = AreOver} (sym_pattern_bound here.things pt s p.locals) h (pattern_bound_over bound here.things pt s p.locals k h.locals))
      (λ more m x path value. leaf_over registers {V = IsValueOver} (path_locals m.value value path) tt)

  define_over : {bound : List ℕ} {p : SymPath} (y : Text) (s : SymValue) → IsPathOver bound p → IsValueOver bound s → IsOverTree bound (sym_define y (sym_is s) p)
  define_over y s h k = leaf_over registers {V = IsValueOver} (path_locals _ (k, h.locals) h) tt

  unless_over : {bound : List ℕ} {p : SymPath} (o : Infix) (s : SymValue) (further : SymMeaning SymValue) → IsPathOver bound p → IsValueOver bound s → IsOverTree bound (further p) → IsOverTree bound (unless_decided o s further p)
  unless_over {bound} {p} between.And (sym_truth t) further h k m = fork_over registers {V = IsValueOver} t (further p) (told (known_truth false) p) k m (told_over registers {V = IsValueOver} (known_truth false) h (known_over bound false))
  unless_over {bound} {p} between.Or (sym_truth t) further h k m = fork_over registers {V = IsValueOver} t (told (known_truth true) p) (further p) k (told_over registers {V = IsValueOver} (known_truth true) h (known_over bound true)) m
  unless_over o s further h k m = m

  turns_over : (n i : ℕ) (body : ℕ → SymMeaning SymValue) {bound : List ℕ} {p : SymPath} → ((i : ℕ) (bound : List ℕ) (p : SymPath) → IsPathOver bound p → IsOverTree bound (body i p)) → IsPathOver bound p → IsOverTree bound (sym_turns n i body p)
  turns_over zero i body each h = leaf_over registers {V = IsValueOver} h tt
  turns_over (suc n) i body {bound} {p} each h = on_over registers {V = IsValueOver} (each i bound p h) (λ more m x path value. turns_over n (i + 1) body each path)

  module _ (calls : SymCalls) (keep : CallsKeepRules calls) where
    pub called_over : {bound : List ℕ} {p : SymPath} (o : Option Thing) (ss : List SymValue) → IfHandled o → IsPathOver bound p → AreValuesOver bound ss → IsOverTree bound (sym_called calls o ss p)
    called_over (Some (thing.Function i)) ss k h all = keep.each i ss h all
    called_over {bound} (Some (thing.Given g)) ss k h all = given_over registers g (sym_nth 0 ss) (sym_nth 1 ss) k (nth_over bound 0 ss all) (nth_over bound 1 ss all) h
    called_over (Some (thing.Register r)) ss k h all = leaf_over registers {V = IsValueOver} h tt
    called_over (Some (thing.Member e i)) ss k h all = leaf_over registers {V = IsValueOver} h tt
    called_over None ss k h all = leaf_over registers {V = IsValueOver} h tt

    mutual
      pub tree_over : (t : Tree) {bound : List ℕ} {p : SymPath} → IsSound t → IsPathOver bound p → IsOverTree bound (sym_tree here calls t p)
      tree_over (node at form) k h = form_over form k h

      form_over : (form : Form) {bound : List ℕ} {p : SymPath} → IsSoundForm form → IsPathOver bound p → IsOverTree bound (sym_form here calls form p)
      form_over unit k h = leaf_over registers {V = IsValueOver} h tt
      form_over (lit b) {bound} k h = told_over registers {V = IsValueOver} (as_bits (single (term.lit b))) h (literal_says bound b k)
      form_over (truth b) {bound} k h = told_over registers {V = IsValueOver} (known_truth b) h (known_over bound b)
      form_over (name x) k h = read_over registers here are x proper h
      form_over (chain op parts) k h = chain_over parts op k h
      form_over (flip of) k h = on_over registers {V = IsValueOver} (tree_over of k h) (λ more m x path value. told_over registers {V = IsValueOver} (sym_flipped m.value) path (flipped_over more m.value value))
      form_over (slice of hi lo) k h =
          on_over registers {V = IsValueOver} (tree_over of k h) (λ more m x path value.
          told_over registers {V = IsValueOver} (sym_sliced m.value (sym_index hi m.path.locals) (sym_index lo m.path.locals)) path (sliced_over more (sym_index hi m.path.locals) (sym_index lo m.path.locals) m.value value))
      form_over (update of hi lo by) k h =
          on_over registers {V = IsValueOver} (tree_over of k.0 h) (λ more m x path value. on_over registers {V = IsValueOver} (tree_over by k.1 path) (λ last n y next_path by_value.
          told_over registers {V = IsValueOver} (sym_updated m.value (sym_index hi n.path.locals) (sym_index lo n.path.locals) n.value) next_path
          (updated_over last (sym_index hi n.path.locals) (sym_index lo n.path.locals) m.value n.value (value_more y m.value value) by_value)))
      form_over (call f args) k h =
          on_over registers {V = AreValuesOver} (all_over args [] k h tt) (λ more m x path values. called_over (find_thing f here.things) m.value (found_handled f here.things handled) path values)
      form_over (widen signed to of) k h = on_over registers {V = IsValueOver} (tree_over of k h) (λ more m x path value. told_over registers {V = IsValueOver} (sym_widened signed to m.value) path (widened_over more signed to m.value value))
      form_over (choose test one other) k h =
          on_over registers {V = IsValueOver} (tree_over test k.0 h) (λ more m x path value. choose_over registers m.value (sym_tree here calls one) (sym_tree here calls other) value (tree_over one k.1 path) (tree_over other k.2 path))
      form_over (when test one) k h =
          on_over registers {V = IsValueOver} (tree_over test k.0 h) (λ more m x path value. choose_over registers m.value (sym_tree here calls one) (sym_pure sym_unit) value (tree_over one k.1 path) (leaf_over registers {V = IsValueOver} path tt))
      form_over (cases of arms) k h = on_over registers {V = IsValueOver} (tree_over of k.0 h) (λ more m x path value. arms_over arms m.value k.1 path value)
      form_over (foreach y from to body) k h =
          turns_over (to + 1 - from) from (sym_counted y (sym_tree here calls body))
          (λ i b q path. within_over (length q.locals)
          (on_over registers {V = IsValueOver} {bound = b} {t = sym_define y (sym_counts i) q} (leaf_over registers {V = IsValueOver} (path_locals _ (tt, path.locals) path) tt) (λ more m x next_path value. tree_over body k next_path))) h
      form_over (check test text) k h = on_over registers {V = IsValueOver} (tree_over test k h) (λ more m x path value. asserted_over registers m.value path value)
      form_over exit k h = fails_over registers failure.Exit
      form_over (assign y by) k h = on_over registers {V = IsValueOver} (tree_over by k h) (λ more m x path value. write_over registers here are y m.value proper value path)
      form_over (block steps) {bound} {p} k h = within_over (length p.locals) (steps_over steps sym_unit k h tt)

      chain_over : (ts : Trees) (op : Infix) {bound : List ℕ} {p : SymPath} → AreSound ts → IsPathOver bound p → IsOverTree bound (sym_chain here calls ts op p)
      chain_over none op k h = leaf_over registers {V = IsValueOver} h tt
      chain_over (some t rest) op k h = on_over registers {V = IsValueOver} (tree_over t k.0 h) (λ more m x path value. rest_over rest op m.value k.1 path value)

      rest_over : (ts : Trees) (op : Infix) (s : SymValue) {bound : List ℕ} {p : SymPath} → AreSound ts → IsPathOver bound p → IsValueOver bound s → IsOverTree bound (sym_rest here calls ts op s p)
      rest_over none op s k h v = leaf_over registers {V = IsValueOver} h v
      rest_over (some t rest) op s k h v =
          unless_over op s (sym_bind (sym_tree here calls t) (λ u. sym_bind (told (sym_applied op s u)) (λ w. sym_rest here calls rest op w))) h v
          (on_over registers {V = IsValueOver} (tree_over t k.0 h) (λ more m x path value. on_over registers {V = IsValueOver}
          (told_over registers {V = IsValueOver} (sym_applied op s m.value) path (applied_over more op s m.value (value_more x s v) value)) (λ last n y next_path next_value. rest_over rest op n.value k.1 next_path next_value)))

      all_over : (ts : Trees) (ss : List SymValue) {bound : List ℕ} {p : SymPath} → AreSound ts → IsPathOver bound p → AreValuesOver bound ss → IsTreeOver registers AreValuesOver bound (sym_all here calls ts ss p)
      all_over none ss k h all = leaf_over registers {V = AreValuesOver} h all
      all_over (some t rest) ss k h all =
          on_over registers {V = IsValueOver} (tree_over t k.0 h) (λ more m x path value. all_over rest (ss ++ m.value ∷ []) k.1 path (values_push more ss m.value (values_more x ss all) value))

      arms_over : (arms : Cases) (s : SymValue) {bound : List ℕ} {p : SymPath} → AreSoundArms arms → IsPathOver bound p → IsValueOver bound s → IsOverTree bound (sym_arms here calls arms s p)
      arms_over no_case s k h v = fails_over registers failure.Match
      arms_over (case (arm pt body) rest) s {bound} k h v =
          on_over registers {V = IsBitOver} (told_over registers {V = IsBitOver} (condition here.things pt s) h (condition_over bound here.things pt s k.0 v)) (λ more m x path bit.
          fork_over registers {V = IsValueOver} m.value (sym_within (sym_bind (sym_enter here.things pt s) (λ _. sym_tree here calls body)) m.path) (sym_arms here calls rest s m.path) bit
          (within_over (length m.path.locals) (on_over registers {V = IsValueOver} (enter_over pt s path (value_more x s v)) (λ last n y next_path value. tree_over body k.1 next_path)))
          (arms_over rest s k.2 path (value_more x s v)))

      step_over : (s : Step) {bound : List ℕ} {p : SymPath} → IsSoundStep s → IsPathOver bound p → IsOverTree bound (sym_step here calls s p)
      step_over (binds y ty by) k h = on_over registers {V = IsValueOver} (tree_over by k h) (λ more m x path value. define_over y m.value path value)
      step_over (holds y ty by) k h = on_over registers {V = IsValueOver} (tree_over by k h) (λ more m x path value. define_over y m.value path value)
      step_over (does e) k h = tree_over e k h

      steps_over : (ss : Steps) (s : SymValue) {bound : List ℕ} {p : SymPath} → AreSoundSteps ss → IsPathOver bound p → IsValueOver bound s → IsOverTree bound (sym_steps here calls ss s p)
      steps_over done s k h v = leaf_over registers {V = IsValueOver} h v
      steps_over (next t rest) s k h v = on_over registers {V = IsValueOver} (step_over t k.0 h) (λ more m x path value. steps_over rest m.value k.1 path value)

  -- ---- calls

  entered_over : (above : SymCalls) → CallsKeepRules above → (d : Function) → IsSound d.body → (ss : List SymValue) {bound : List ℕ} {p : SymPath} → IsPathOver bound p → AreValuesOver bound ss → IsOverTree bound (sym_entered here above d.params d.body ss p)
  entered_over above keep d k ss {bound} {p} h all =
      on_over registers {V = IsValueOver} (tree_over above keep d.body k (path_locals (sym_bound d.params ss 0 []) (bound_over bound d.params ss 0 [] all tt) h))
      (λ more m x path value. leaf_over registers {V = IsValueOver} (path_locals p.locals (are_more x p.locals h.locals) path) value)

  -- the trees of calls of these functions
  pub calls_over : (ds : List Definition) → AreSoundDefinitions ds → CallsKeepRules (sym_calls here ds)
  calls_over [] k = record { each = λ i ss h all. leaf_over registers {V = IsValueOver} h tt }
  calls_over (order ∷ ds) k = record { each = λ i ss h all. (calls_over ds k.1).each i ss h all }
  calls_over (register x width at ∷ ds) k = record { each = λ i ss h all. (calls_over ds k.1).each i ss h all }
  calls_over (enumeration x members at ∷ ds) k = record { each = λ i ss h all. (calls_over ds k.1).each i ss h all }
  calls_over (signature x args result at ∷ ds) k = record { each = λ i ss h all. (calls_over ds k.1).each i ss h all }
  calls_over (function d ∷ ds) k = record {
    each = λ i ss h all.
        if_over registers {V = IsValueOver} (nat_eq i (length ds)) (sym_entered here (sym_calls here ds) d.params d.body ss) (sym_calls here ds i ss)
        (λ e. entered_over (sym_calls here ds) (calls_over ds k.1) d k.0 ss h all) (λ e. (calls_over ds k.1).each i ss h all);
  }
