-- Evaluation keeps types: one induction over the tree, where the functions above keep them.
use Rattle.std.proofs.Common.{◌≡◌, ℕ, ◌+◌, ◌-◌, ◌≤◌, Bool, true, false, List, [], ◌∷◌, ◌++◌, Option, Some, None, refl, sym, ◌∙◌, subst, arith, append_assoc, nat_eq}
use Rattle.std.specs.Prelude.{if◌then◌else◌, slice_get, nat_le}
use Rattle.std.proofs.lemmas.Bool.{eqb-true}
use Rattle.std.proofs.lemmas.List.{append-nil}
use Rattle.bv_bits.specs.declared.Op.TheVariants as op
use Rattle.sail_syntax.specs.Tree.{Text, Tree, node, Form, unit, lit, truth, name, chain, flip, slice, update, call, widen, choose, when, cases, foreach, check, exit, assign, block, Trees, none, some, arm, Cases, no_case, case, binds, holds, does, Steps, done, next}
use Rattle.sail_syntax.specs.Program.{Definition, Function, function}
use Rattle.sail_syntax.specs.declared.tree.Infix.{Infix}
use Rattle.sail_syntax.specs.declared.tree.Infix.TheVariants as between
use Rattle.sail_syntax.specs.declared.patterns.Pattern.{Pattern}
use Rattle.sail_syntax.specs.declared.types.Ty.{Ty}
use Rattle.sail_syntax.specs.declared.types.Ty.TheVariants as ty
use Rattle.state_core.specs.World.{World}
use Rattle.state_core.specs.declared.kinds.Range.{Range}
use Rattle.sail_values.specs.declared.value.Value.{Value}
use Rattle.sail_values.specs.declared.value.Value.TheVariants as value
use Rattle.sail_values.specs.declared.value.Slot.{Slot}
use Rattle.sail_values.specs.declared.value.Local.TheVariants as local
use Rattle.sail_values.specs.Values.{is_true, decides, applied, flipped, widened}
use Rattle.sail_names.specs.declared.things.Named.{Named}
use Rattle.sail_names.specs.declared.things.Thing.{Thing}
use Rattle.sail_names.specs.declared.things.Thing.TheVariants as thing
use Rattle.sail_names.specs.declared.things.Given.{Given}
use Rattle.sail_names.specs.Things.{find_thing}
use Rattle.type_rules.specs.declared.scope.Entry.{Entry}
use Rattle.type_rules.specs.declared.scope.Item.{Item}
use Rattle.type_rules.specs.declared.scope.Item.TheVariants as item
use Rattle.type_rules.specs.declared.scope.Slot.{Slot as Asked}
use Rattle.type_rules.specs.declared.scope.Sort.TheVariants.{Holds, Counts}
use Rattle.type_rules.specs.declared.scope.Local.{Local as Typed}
use Rattle.type_rules.specs.Names.{find, slots_of}
use Rattle.type_rules.specs.Rules.{is_join, compares, takes, is_chain_of, count, between as bits_between}
use Rattle.type_rules.specs.Judge.{entered}
use Rattle.type_rules.specs.HasType.{Where, IsOfBits, slot_asks, Calls as CallsAbove, PatternFits, HasType, FormHas, ChainHas, AllHave, JoinHas, ArgsHave, OthersHave, ArmsHave, RestHave, StepsHave}
use Rattle.type_rules.proofs.AskedLemmas.{asks_of}
use Rattle.eval_rules.specs.Flow.{Meaning, bind, pure, within}
use Rattle.eval_rules.specs.Parts.{fits, pattern_bound}
use Rattle.eval_rules.specs.Names.{Setting, write, define}
use Rattle.eval_rules.specs.Eval.{Calls, slice_now, update_now, enter, called, turns, counted, eval, eval_form, eval_chain, eval_rest, eval_all, eval_arms, eval_steps}
use Rattle.eval_types.specs.Types.{IsOfType, AreOfTypes, LocalsFit, StateFits}
use Rattle.eval_types.specs.Keeps.{Ends}
use Rattle.eval_types.proofs.ValueLemmas.{OfBits, as_bits, from_bits, one_of, join_of, widened_of, applied_of, compared_of, compares_last}
use Rattle.eval_types.proofs.FlowLemmas.{Keeps, Enters, Behind, fits_behind, one_less, after_of, ends_map, pure_of, bind_of, within_of}
use Rattle.eval_types.proofs.GivenLemmas.{Accesses, ArgsFit, asks_of as given_asks, given_of}
use Rattle.eval_types.proofs.ThingLemmas.{AsFound, IsFunction, IsGiven}
use Rattle.eval_types.proofs.PatternLemmas.{pattern_fits, entered_behind}
use Rattle.eval_types.proofs.NameLemmas.{read_kept, write_kept}
use Rattle.eval_types.proofs.StepLemmas.{is_join_is, Is, choose_kept, slice_kept, update_kept, counted_kept, turns_kept, OthersBehind, args_types}

-- each function of the first definitions gives a value of its result, with the caller's locals
abbrev pub CallsKeep : List Definition → ℕ → Calls → Type 0
CallsKeep defs here calls = (i : ℕ) (f : Function) (vs : List Value) (locals : List Slot) (world : World) → i + 1 ≤ here → slice_get defs i ≡ Some (function f) → AreOfTypes defs vs f.params → StateFits defs world.state
    → Ends defs (λ after. after ≡ locals) (λ v. IsOfType defs v f.result) (calls i vs locals world)

module _ (defs : List Definition) (ranges : List Range) (accesses : Accesses ranges) (globals : List Entry) (things : List Named) (found : (x : Text) → AsFound defs (find x globals) (find_thing x things))
    (here : ℕ) (calls : Calls) (kept : CallsKeep defs here calls) where
  abbrev setting : Setting
  setting = record { things = things; ranges = ranges }

  -- an expression of the type
  abbrev pub Kept : List Typed → Ty → Meaning Value → Type 0
  Kept scope t m = Keeps defs scope (Is defs t) m

  -- ---- calls

  function_call : (i : ℕ) (ps : List Asked) (r : Option Ty) (after : ℕ) (vs : List Value) (scope : List Typed) (t : Ty) → IsFunction defs i ps r after → after ≤ here → ArgsFit defs ps r vs t → Kept scope t (calls i vs)
  function_call i ps r after vs scope t f a h locals world l s =
      let k = subst (λ r. ArgsFit defs (slots_of f.there.params) r vs t) (sym f.gives) (subst (λ ps. ArgsFit defs ps r vs t) (sym f.asks) h) in
      let c = args_types defs f.there.params f.there.result vs t k in
      ends_map defs (λ after. after ≡ locals) (λ after. LocalsFit defs after scope) (λ v. IsOfType defs v f.there.result) (Is defs t) (calls i vs locals world)
      (kept i f.there vs locals world (omega (arith, a, f.behind)) f.is c.types s) (λ ls e. subst (λ ls. LocalsFit defs ls scope) (sym e) l) (λ v p. subst (IsOfType defs v) c.gives p)

  given_call_kept : (at : ℕ) (g : Given) (ps : List Asked) (r : Option Ty) (after : ℕ) (vs : List Value) (scope : List Typed) (t : Ty) → IsGiven g ps r after → ArgsFit defs ps r vs t → Kept scope t (called setting calls (Some (thing.Given g)) at vs)
  given_call_kept at g ps r after vs scope t f h =
      given_of defs ranges accesses scope at g vs t f.access (subst (λ r. ArgsFit defs (given_asks g) r vs t) (sym f.gives) (subst (λ ps. ArgsFit defs ps r vs t) (sym f.asks) h))

  call_kept : (args : Trees) (at : ℕ) (scope : List Typed) (t : Ty) → ((ps : List Asked) (r : Option Ty) → ArgsHave globals here args ps r scope t → Keeps defs scope (λ vs. ArgsFit defs ps r vs t) (eval_all setting calls args []))
      → (i : Option Item) (o : Option Thing) → AsFound defs i o → CallsAbove here i (λ params result. ArgsHave globals here args params result scope t)
      → Kept scope t (bind (eval_all setting calls args []) (λ vs. called setting calls o at vs))
  call_kept args at scope t each (Some (item.Function ps r after)) (Some (thing.Function i)) f h =
      bind_of defs scope (λ vs. ArgsFit defs ps r vs t) (Is defs t) (eval_all setting calls args []) (λ vs. called setting calls (Some (thing.Function i)) at vs) (each ps r h.1) (λ vs k. function_call i ps r after vs scope t f h.0 k)
  call_kept args at scope t each (Some (item.Function ps r after)) (Some (thing.Given g)) f h =
      bind_of defs scope (λ vs. ArgsFit defs ps r vs t) (Is defs t) (eval_all setting calls args []) (λ vs. called setting calls (Some (thing.Given g)) at vs) (each ps r h.1) (λ vs k. given_call_kept at g ps r after vs scope t f k)
  call_kept args at scope t each (Some (item.Function ps r after)) (Some (thing.Register n)) f h = absurd f
  call_kept args at scope t each (Some (item.Function ps r after)) (Some (thing.Member e n)) f h = absurd f
  call_kept args at scope t each (Some (item.Function ps r after)) None f h = absurd f
  call_kept args at scope t each (Some (item.Register w)) o f h = absurd h
  call_kept args at scope t each (Some (item.Member e)) o f h = absurd h
  call_kept args at scope t each (Some item.Enum) o f h = absurd h
  call_kept args at scope t each None o f h = absurd h

  -- ---- small steps

  -- the bits turned round
  flip_of : (t : Ty) (v : Value) → IsOfBits t → IsOfType defs v t → IsOfType defs (flipped v) t
  flip_of (ty.Bits w) v b p = from_bits defs (flipped v) w (one_of op.Not v w w (as_bits defs v w p) refl)
  flip_of ty.Unit v b p = absurd b
  flip_of ty.Bool v b p = absurd b
  flip_of (ty.Enum x) v b p = absurd b

  -- an arm whose pattern fits
  arm_kept : (p : Pattern) (v : Value) (u t : Ty) (scope : List Typed) (body : Meaning Value) → PatternFits globals p u → IsOfType defs v u → Kept (entered globals p (Some u) scope) t body → Kept scope t (within (bind (enter setting p v) (λ _. body)))
  arm_kept p v u t scope body f k a =
      within_of defs scope (Is defs t) (bind (enter setting p v) (λ _. body))
      (λ locals world h s. ends_map defs (λ after. LocalsFit defs after (entered globals p (Some u) scope)) (Behind defs scope) (Is defs t) (Is defs t) (body (pattern_bound things p v locals) world)
      (a (pattern_bound things p v locals) world (pattern_fits defs globals things found p v u locals scope f k h) s)
      (λ ls l. entered_behind defs globals things found p (Some u) scope ls (fits_behind defs (entered globals p (Some u) scope) ls l)) (λ x q. q))

  -- a new local, and what comes after it
  defined_kept : (x : Text) (u t : Ty) (m : Bool) (scope : List Typed) (by : Meaning Value) (rest : Value → Meaning Value) → Kept scope u by
      → ((v : Value) → IsOfType defs v ty.Unit → Enters defs (record { name = x; sort = Holds (Some u) m } ∷ scope) (Is defs t) (rest v))
      → Enters defs scope (Is defs t) (bind (bind by (λ v. define x (local.Is v))) rest)
  defined_kept x u t m scope by rest a b locals world h s =
      let d : Typed = record { name = x; sort = Holds (Some u) m } in
      after_of defs (λ after. LocalsFit defs after (d ∷ scope)) (Behind defs scope) (Is defs ty.Unit) (Is defs t) (bind by (λ v. define x (local.Is v)) locals world) rest
      (after_of defs (λ after. LocalsFit defs after scope) (λ after. LocalsFit defs after (d ∷ scope)) (Is defs u) (Is defs ty.Unit) (by locals world) (λ v. define x (local.Is v)) (a locals world h s) (λ v ls w p l k. (refl, (refl, p, l), k)))
      (λ v ls w p l k. ends_map defs (Behind defs (d ∷ scope)) (Behind defs scope) (Is defs t) (Is defs t) (rest v ls w) (b v p ls w l k) (λ ls l. one_less defs d scope ls l) (λ x p. p))

  -- the types of a chain's parts
  all_or_two : (o : Infix) (rest : Trees) (scope : List Typed) (u t : Ty) (v : Value)
      → (compares o ≡ true → t ≡ ty.Bool → is_chain_of o (count rest + 1) ≡ true → Kept scope t (eval_rest setting calls rest o v))
      → (compares o ≡ false → t ≡ u → Kept scope t (eval_rest setting calls rest o v))
      → (b : Bool) → compares o ≡ b → is_chain_of o (count rest + 1) ≡ true → Where b (t ≡ ty.Bool) (t ≡ u) → Kept scope t (eval_rest setting calls rest o v)
  all_or_two o rest scope u t v f g true c n e = f c e n
  all_or_two o rest scope u t v f g false c n e = g c e

  chain_step : (o : Infix) (parts : Trees) (scope : List Typed) (t : Ty) → (is_join o ≡ true → JoinHas globals here parts 0 scope t → Kept scope t (eval_chain setting calls parts between.Join))
      → (is_join o ≡ false → ChainHas globals here parts o scope t → Kept scope t (eval_chain setting calls parts o))
      → (j : Bool) → is_join o ≡ j → Where j (JoinHas globals here parts 0 scope t) (ChainHas globals here parts o scope t) → Kept scope t (eval_chain setting calls parts o)
  chain_step o parts scope t f g true e h = subst (λ o. Kept scope t (eval_chain setting calls parts o)) (sym (is_join_is o e)) (f e h)
  chain_step o parts scope t f g false e h = g e h

  compare_two : (o : Infix) (n : ℕ) → compares o ≡ true → is_chain_of o n ≡ true → n ≡ 2
  compare_two o n c h = eqb-true n 2 (subst (λ b. (if b then nat_eq n 2 else nat_le 2 n) ≡ true) c h)

  joins_grow : (parts : Trees) (total : ℕ) (scope : List Typed) (t : Ty) → JoinHas globals here parts total scope t → total ≤ 128
  joins_grow none total scope t h = h.0
  joins_grow (some p rest) total scope t h = let k = joins_grow rest (total + h.0) scope t h.1.1 in omega (arith, k)

  mutual
    pub tree_kept : (e : Tree) (want : Option Ty) (scope : List Typed) (t : Ty) → HasType globals here e want scope t → Kept scope t (eval setting calls e)
    tree_kept (node at form) want scope t h = form_kept form at want scope t h

    form_kept : (form : Form) (at : ℕ) (want : Option Ty) (scope : List Typed) (t : Ty) → FormHas globals here form want scope t → Kept scope t (eval_form setting calls form at)
    form_kept unit at want scope t h = pure_of defs scope (Is defs t) value.Unit h.0
    form_kept (lit b) at want scope t h = pure_of defs scope (Is defs t) (value.Bits b) (h.0, h.1)
    form_kept (truth b) at want scope t h = pure_of defs scope (Is defs t) (value.Truth b) h.0
    form_kept (name x) at want scope t h = read_kept defs globals things found x scope t h.0
    form_kept (chain o parts) at want scope t h =
        chain_step o parts scope t (λ j k. joins_kept parts scope t k (subst (λ o. is_chain_of o (count parts) ≡ true) (is_join_is o j) h.0)) (λ j k. chain_kept parts o scope t j h.0 k) (is_join o) refl h.1
    form_kept (flip of) at want scope t h =
        bind_of defs scope (Is defs t) (Is defs t) (eval setting calls of) (λ v. pure (flipped v)) (tree_kept of None scope t h.0) (λ v p. pure_of defs scope (Is defs t) (flipped v) (flip_of t v h.1 p))
    form_kept (slice of hi lo) at want scope t h =
        bind_of defs scope (Is defs (ty.Bits h.0)) (Is defs t) (eval setting calls of) (λ v. slice_now hi lo v) (tree_kept of None scope (ty.Bits h.0) h.1.0) (λ v p. slice_kept defs hi lo scope h.0 t v h.1.1 h.1.2 p)
    form_kept (update of hi lo by) at want scope t h =
        bind_of defs scope (Is defs (ty.Bits h.0)) (Is defs t) (eval setting calls of) (λ v. bind (eval setting calls by) (λ u. update_now hi lo v u)) (tree_kept of None scope (ty.Bits h.0) h.1.0) (λ v p.
        bind_of defs scope (Is defs (ty.Bits (bits_between hi lo))) (Is defs t) (eval setting calls by) (λ u. update_now hi lo v u) (tree_kept by (Some (ty.Bits (bits_between hi lo))) scope (ty.Bits (bits_between hi lo)) h.1.2)
        (λ u q. update_kept defs hi lo scope h.0 t v u h.1.1 h.1.3 p q))
    form_kept (call f args) at want scope t h = call_kept args at scope t (λ ps r k. args_kept args ps r scope t k) (find f globals) (find_thing f things) (found f) h.0
    form_kept (widen signed to of) at want scope t h =
        bind_of defs scope (Is defs (ty.Bits h.0)) (Is defs t) (eval setting calls of) (λ v. pure (widened signed to v)) (tree_kept of None scope (ty.Bits h.0) h.1.0) (λ v p.
        pure_of defs scope (Is defs t) (widened signed to v) (subst (IsOfType defs (widened signed to v)) (sym h.1.3) (from_bits defs (widened signed to v) to (widened_of signed to v h.0 (as_bits defs v h.0 p) h.1.2 h.1.1.at_most))))
    form_kept (choose test one other) at want scope t h =
        bind_of defs scope (Is defs ty.Bool) (Is defs t) (eval setting calls test) (λ v. if is_true v then eval setting calls one else eval setting calls other) (tree_kept test (Some ty.Bool) scope ty.Bool h.0) (λ v p.
        choose_kept defs scope t (is_true v) (eval setting calls one) (eval setting calls other) (tree_kept one want scope t h.1) (tree_kept other (Some t) scope t h.2))
    form_kept (when test one) at want scope t h =
        bind_of defs scope (Is defs ty.Bool) (Is defs t) (eval setting calls test) (λ v. if is_true v then eval setting calls one else pure value.Unit) (tree_kept test (Some ty.Bool) scope ty.Bool h.0) (λ v p.
        choose_kept defs scope t (is_true v) (eval setting calls one) (pure value.Unit) (subst (λ t. Kept scope t (eval setting calls one)) (sym h.2) (tree_kept one (Some ty.Unit) scope ty.Unit h.1)) (pure_of defs scope (Is defs t) value.Unit h.2))
    form_kept (cases on arms) at want scope t h =
        bind_of defs scope (Is defs h.0) (Is defs t) (eval setting calls on) (λ v. eval_arms setting calls arms at v) (tree_kept on None scope h.0 h.1.0) (λ v p. arms_kept arms at v h.0 want scope t p h.1.1)
    form_kept (foreach x from to body) at want scope t h =
        subst (λ t. Kept scope t (turns (to + 1 - from) from (counted x (eval setting calls body)))) (sym h.2)
        (turns_kept defs (to + 1 - from) from scope (counted x (eval setting calls body)) from to (omega arith) (λ k m. omega (arith, m))
        (λ j p q. counted_kept defs x from to j scope (eval setting calls body) p q (tree_kept body (Some ty.Unit) (record { name = x; sort = Counts from to } ∷ scope) ty.Unit h.1)))
    form_kept (check test text) at want scope t h =
        bind_of defs scope (Is defs ty.Bool) (Is defs t) (eval setting calls test) _ (tree_kept test (Some ty.Bool) scope ty.Bool h.0) (λ v p.
        choose_kept defs scope t (is_true v) (pure value.Unit) _ (pure_of defs scope (Is defs t) value.Unit h.1) (λ locals world l s. s))
    form_kept exit at want scope t h = λ locals world l s. s
    form_kept (assign x by) at want scope t h =
        subst (λ t. Kept scope t (bind (eval setting calls by) (λ v. write things x v))) (sym h.1.2)
        (bind_of defs scope (Is defs h.0) (Is defs ty.Unit) (eval setting calls by) (λ v. write things x v) (tree_kept by (Some h.0) scope h.0 h.1.1) (λ v p. write_kept defs globals things found x v h.0 scope h.1.0 p))
    form_kept (block steps) at want scope t h = within_of defs scope (Is defs t) (eval_steps setting calls steps value.Unit) (steps_kept steps want scope t value.Unit refl h)

    -- ---- chains

    chain_kept : (parts : Trees) (o : Infix) (scope : List Typed) (t : Ty) → is_join o ≡ false → is_chain_of o (count parts) ≡ true → ChainHas globals here parts o scope t → Kept scope t (eval_chain setting calls parts o)
    chain_kept none o scope t j n h = absurd h
    chain_kept (some p rest) o scope t j n h =
        bind_of defs scope (Is defs h.0) (Is defs t) (eval setting calls p) (λ v. eval_rest setting calls rest o v) (tree_kept p None scope h.0 h.1.0) (λ v q.
        all_or_two o rest scope h.0 t v (λ c e k. compare_kept rest o scope h.0 t v c e k h.1.2)
        (λ c e. subst (λ t. Kept scope t (eval_rest setting calls rest o v)) (sym e) (rest_kept rest o scope h.0 v j c h.1.1 q h.1.2)) (compares o) refl n h.1.3)

    -- a comparison has just one more part
    compare_kept : (rest : Trees) (o : Infix) (scope : List Typed) (u t : Ty) (v : Value) → compares o ≡ true → t ≡ ty.Bool → is_chain_of o (count rest + 1) ≡ true → AllHave globals here rest u scope
        → Kept scope t (eval_rest setting calls rest o v)
    compare_kept none o scope u t v c e n h = let k = compare_two o (0 + 1) c n in absurd (omega (arith, k))
    compare_kept (some p none) o scope u t v c e n h =
        subst (λ b. Kept scope t (if b then pure v else bind (eval setting calls p) (λ x. pure (applied o v x)))) (sym (compares_last o v c))
        (bind_of defs scope (Is defs u) (Is defs t) (eval setting calls p) (λ x. pure (applied o v x)) (tree_kept p (Some u) scope u h.0)
        (λ x q. pure_of defs scope (Is defs t) (applied o v x) (subst (IsOfType defs (applied o v x)) (sym e) (compared_of defs o v x c))))
    compare_kept (some p (some q rest)) o scope u t v c e n h = let k = compare_two o (count rest + 1 + 1 + 1) c n in absurd (omega (arith, k))

    rest_kept : (rest : Trees) (o : Infix) (scope : List Typed) (u : Ty) (v : Value) → is_join o ≡ false → compares o ≡ false → takes o u ≡ true → IsOfType defs v u → AllHave globals here rest u scope
        → Kept scope u (eval_rest setting calls rest o v)
    rest_kept none o scope u v j c k p h = pure_of defs scope (Is defs u) v p
    rest_kept (some a rest) o scope u v j c k p h =
        choose_kept defs scope u (decides o v) (pure v) (bind (eval setting calls a) (λ x. eval_rest setting calls rest o (applied o v x))) (pure_of defs scope (Is defs u) v p)
        (bind_of defs scope (Is defs u) (Is defs u) (eval setting calls a) (λ x. eval_rest setting calls rest o (applied o v x)) (tree_kept a (Some u) scope u h.0)
        (λ x q. rest_kept rest o scope u (applied o v x) j c k (applied_of defs o u v x k c j p q) h.1))

    joins_kept : (parts : Trees) (scope : List Typed) (t : Ty) → JoinHas globals here parts 0 scope t → is_chain_of between.Join (count parts) ≡ true → Kept scope t (eval_chain setting calls parts between.Join)
    joins_kept none scope t h n = absurd cc
    joins_kept (some p rest) scope t h n =
        let e : 0 + h.0 ≡ h.0 = omega arith in
        bind_of defs scope (Is defs (ty.Bits h.0)) (Is defs t) (eval setting calls p) (λ v. eval_rest setting calls rest between.Join v) (tree_kept p None scope (ty.Bits h.0) h.1.0) (λ v q.
        more_kept rest h.0 scope t v (as_bits defs v h.0 q) (subst (λ n. JoinHas globals here rest n scope t) e h.1.1))

    more_kept : (rest : Trees) (total : ℕ) (scope : List Typed) (t : Ty) (v : Value) → OfBits v total → JoinHas globals here rest total scope t → Kept scope t (eval_rest setting calls rest between.Join v)
    more_kept none total scope t v a h = pure_of defs scope (Is defs t) v (subst (IsOfType defs v) (sym h.1) (from_bits defs v total a))
    more_kept (some p rest) total scope t v a h =
        bind_of defs scope (Is defs (ty.Bits h.0)) (Is defs t) (eval setting calls p) (λ x. eval_rest setting calls rest between.Join (applied between.Join v x)) (tree_kept p None scope (ty.Bits h.0) h.1.0) (λ x q.
        more_kept rest (total + h.0) scope t (applied between.Join v x) (join_of v x total h.0 a (as_bits defs x h.0 q) (joins_grow rest (total + h.0) scope t h.1.1)) h.1.1)

    -- ---- arguments

    pub args_kept : (args : Trees) (ps : List Asked) (r : Option Ty) (scope : List Typed) (t : Ty) → ArgsHave globals here args ps r scope t → Keeps defs scope (λ vs. ArgsFit defs ps r vs t) (eval_all setting calls args [])
    args_kept none [] r scope t h = pure_of defs scope (λ vs. ArgsFit defs [] r vs t) [] h
    args_kept none (q ∷ qs) r scope t h = absurd h
    args_kept (some a rest) [] r scope t h = absurd h
    args_kept (some a rest) (q ∷ qs) r scope t h =
        bind_of defs scope (Is defs h.0) (λ vs. ArgsFit defs (q ∷ qs) r vs t) (eval setting calls a) (λ v. eval_all setting calls rest (v ∷ [])) (tree_kept a (slot_asks q None) scope h.0 h.1.0) (λ v p locals world l s.
        ends_map defs (λ after. LocalsFit defs after scope) (λ after. LocalsFit defs after scope) (OthersBehind defs qs h.0 (v ∷ [])) (λ vs. ArgsFit defs (q ∷ qs) r vs t) (eval_all setting calls rest (v ∷ []) locals world)
        (others_kept rest qs h.0 scope (v ∷ []) h.1.2 locals world l s) (λ ls l. l)
        (λ vs b. subst (λ vs. ArgsFit defs (q ∷ qs) r vs t) (sym b.is) (h.0, (record { asks = asks_of globals here a (slot_asks q None) scope h.0 h.1.0; takes = h.1.1; fit = p }, b.fit, h.1.3))))

    others_kept : (args : Trees) (qs : List Asked) (one : Ty) (scope : List Typed) (front : List Value) → OthersHave globals here args qs one scope → Keeps defs scope (OthersBehind defs qs one front) (eval_all setting calls args front)
    others_kept none [] one scope front h = pure_of defs scope (OthersBehind defs [] one front) front (record { others = []; is = sym (append-nil front); fit = tt })
    others_kept none (q ∷ qs) one scope front h = absurd h
    others_kept (some a rest) [] one scope front h = absurd h
    others_kept (some a rest) (q ∷ qs) one scope front h =
        bind_of defs scope (Is defs h.0) (OthersBehind defs (q ∷ qs) one front) (eval setting calls a) (λ v. eval_all setting calls rest (front ++ v ∷ [])) (tree_kept a (slot_asks q (Some one)) scope h.0 h.1.0) (λ v p locals world l s.
        ends_map defs (λ after. LocalsFit defs after scope) (λ after. LocalsFit defs after scope) (OthersBehind defs qs one (front ++ v ∷ [])) (OthersBehind defs (q ∷ qs) one front) (eval_all setting calls rest (front ++ v ∷ []) locals world)
        (others_kept rest qs one scope (front ++ v ∷ []) h.1.2 locals world l s) (λ ls l. l)
        (λ vs b. record { others = v ∷ b.others; is = b.is ∙ append_assoc front (v ∷ []) b.others; fit = ((h.0, record { asks = asks_of globals here a (slot_asks q (Some one)) scope h.0 h.1.0; takes = h.1.1; fit = p }), b.fit) }))

    -- ---- arms

    arms_kept : (arms : Cases) (at : ℕ) (v : Value) (u : Ty) (want : Option Ty) (scope : List Typed) (t : Ty) → IsOfType defs v u → ArmsHave globals here arms u want scope t → Kept scope t (eval_arms setting calls arms at v)
    arms_kept no_case at v u want scope t p h = absurd h
    arms_kept (case (arm q body) rest) at v u want scope t p h =
        choose_kept defs scope t (fits things q v) (within (bind (enter setting q v) (λ _. eval setting calls body))) (eval_arms setting calls rest at v)
        (arm_kept q v u t scope (eval setting calls body) h.0 p (tree_kept body want (entered globals q (Some u) scope) t h.1)) (later_kept rest at v u scope t p h.2)

    later_kept : (arms : Cases) (at : ℕ) (v : Value) (u : Ty) (scope : List Typed) (t : Ty) → IsOfType defs v u → RestHave globals here arms u scope t → Kept scope t (eval_arms setting calls arms at v)
    later_kept no_case at v u scope t p h = λ locals world l s. s
    later_kept (case (arm q body) rest) at v u scope t p h =
        choose_kept defs scope t (fits things q v) (within (bind (enter setting q v) (λ _. eval setting calls body))) (eval_arms setting calls rest at v)
        (arm_kept q v u t scope (eval setting calls body) h.0 p (tree_kept body (Some t) (entered globals q (Some u) scope) t h.1)) (later_kept rest at v u scope t p h.2)

    -- ---- statements

    steps_kept : (steps : Steps) (want : Option Ty) (scope : List Typed) (t : Ty) (v : Value) → IsOfType defs v ty.Unit → StepsHave globals here steps want scope t → Enters defs scope (Is defs t) (eval_steps setting calls steps v)
    steps_kept done want scope t v p h = λ locals world l s. (subst (IsOfType defs v) (sym h.0) p, fits_behind defs scope locals l, s)
    steps_kept (next (does e) done) want scope t v p h = λ locals world l s.
        after_of defs (λ after. LocalsFit defs after scope) (Behind defs scope) (Is defs t) (Is defs t) (eval setting calls e locals world) (λ u. pure u) (tree_kept e want scope t h locals world l s) (λ u ls w q l k. (q, fits_behind defs scope ls l, k))
    steps_kept (next (does e) (next s rest)) want scope t v p h = λ locals world l k.
        after_of defs (λ after. LocalsFit defs after scope) (Behind defs scope) (Is defs ty.Unit) (Is defs t) (eval setting calls e locals world) (λ u. eval_steps setting calls (next s rest) u)
        (tree_kept e (Some ty.Unit) scope ty.Unit h.0 locals world l k) (λ u ls w q l k. steps_kept (next s rest) want scope t u q h.1 ls w l k)
    steps_kept (next (binds x d by) rest) want scope t v p h =
        defined_kept x h.0 t false scope (eval setting calls by) (λ u. eval_steps setting calls rest u) (tree_kept by d scope h.0 h.1.2) (λ u q. steps_kept rest want (record { name = x; sort = Holds (Some h.0) false } ∷ scope) t u q h.1.3)
    steps_kept (next (holds x d by) rest) want scope t v p h =
        defined_kept x h.0 t true scope (eval setting calls by) (λ u. eval_steps setting calls rest u) (tree_kept by d scope h.0 h.1.2) (λ u q. steps_kept rest want (record { name = x; sort = Holds (Some h.0) true } ∷ scope) t u q h.1.3)
