-- The law for programs.
use Rattle.std.proofs.Common.{◌≡◌, ℕ, Bool, true, false, List, [], ◌∷◌, length, reverse, map, nat_eq, refl, sym, ap, ◌∙◌, subst, arith, Contains, ◌⊎◌, inl, inr}
use Rattle.std.specs.Prelude.{if◌then◌else◌}
use Rattle.std.proofs.lemmas.List.Elements.{Contains-push, Contains-push_cases}
use Rattle.bv_bits.specs.declared.Bits.{Bits}
use Rattle.sail_syntax.specs.Program.{Definition, Function, order, register, enumeration, signature, function}
use Rattle.state_core.specs.declared.kinds.Range.{Range}
use Rattle.state_core.specs.World.{World}
use Rattle.state_core.specs.Laws.{Grows}
use Rattle.term_tree.specs.Terms as term
use Rattle.term_tree.proofs.PairLemmas.{values_are}
use Rattle.term_arena.specs.Said.{single}
use Rattle.trace_plain.specs.declared.trace.FailKind.TheVariants as failure
use Rattle.trace_plain.specs.Following.{Path, path_from, Ending, whole, failed, faulted, unanswered, Outcome, ended, outcomes}
use Rattle.trace_plain.specs.Trace.{Trace}
use Rattle.trace_plain.specs.Laws.{FollowsTheList}
use Rattle.sail_values.specs.declared.value.Slot.{Slot}
use Rattle.sail_values.specs.declared.value.Value.{Value}
use Rattle.sail_values.specs.declared.value.Value.TheVariants as concrete
use Rattle.sail_names.specs.Things.{find_thing, things_of}
use Rattle.eval_rules.specs.Flow.{Out, gives, stops, Meaning}
use Rattle.eval_rules.specs.Eval.{calls_of, called, call_of, bound, entered}
use Rattle.eval_types.proofs.GivenLemmas.{Accesses}
use Rattle.eval_uses.specs.Uses.{world_in}
use Rattle.sym_rules.specs.Values.{SymValue, SymPath, SymSetting}
use Rattle.sym_rules.specs.Trees.{SymTree, Leaf, SymMeaning, with_locals, traced}
use Rattle.sym_rules.specs.Operators.{as_bits}
use Rattle.sym_rules.specs.Sym.{sym_calls, sym_bound, sym_entered, sym_setting, fresh_path, sym_of}
use Rattle.sym_follows.specs.Follows.{Meets, Says, FollowsAlone, EvaluationFollows}
use Rattle.sym_follows.proofs.Trees.{arrivals}
use Rattle.sym_follows.proofs.Bridge.{final, outcomes_traced, short_of_size}
use Rattle.sym_follows.proofs.Sound.{IsSound, AreSoundDefinitions}
use Rattle.sym_follows.proofs.Values.{Is}
use Rattle.sym_follows.proofs.Agree.{Comes, Always, Agrees, comes_here, agrees_locals}
use Rattle.sym_follows.proofs.Does.{GaveUp, Full, Sim, full, gives_up, Does, on_to, does_leaf, does_told, does_restored, does_earlier, unit_always}
use Rattle.sym_follows.proofs.Things.{AreProper, found_proper, things_proper}
use Rattle.sym_follows.proofs.Grow.{grow_called}
use Rattle.sym_follows.proofs.Calls.{AreAll, all_one, bound_are}
use Rattle.sym_follows.proofs.Simulate.{setting, CallsFollow, called_does, tree_does, literal_is}
use Rattle.sym_follows.proofs.Typed.{sound_program}

-- ---- calls

module _ (here : SymSetting) (ranges : List Range) (accesses : Accesses ranges) (proper : AreProper (length here.widths) here.things) where
  if_does : (c : Bool) (a b : SymMeaning SymValue) (m n : Meaning Value) (p : SymPath) (x : Path) (l : List Slot) → Does here ranges Is p x (a p) (m l x.world) → Does here ranges Is p x (b p) (n l x.world)
      → Does here ranges Is p x ((if c then a else b) p) ((if c then m else n) l x.world)
  if_does true a b m n p x l h k = h
  if_does false a b m n p x l h k = k

  -- a call of the first of them, among the others
  entered_does : (d : Function) (ds : List Definition) → IsSound d.body → CallsFollow here ranges accesses proper ds (sym_calls here ds)
      → {ss : List SymValue} {vs : List Value} {p : SymPath} {x : Path} {l : List Slot} → Agrees here p x.vars x.world l → Always AreAll p x.vars ss vs
      → Does here ranges Is p x (sym_entered here (sym_calls here ds) d.params d.body ss p)
      (entered (setting here ranges accesses proper) (calls_of (setting here ranges accesses proper) ds) d.params d.body vs l x.world)
  entered_does d ds h follow {ss} {vs} {p} {x} {l} ag k =
      let inside : Agrees here (with_locals (sym_bound d.params ss 0 []) p) x.vars x.world (bound d.params vs 0 []) =
      agrees_locals here (sym_bound d.params ss 0 []) (bound d.params vs 0 []) (record { is = λ v i. bound_are v d.params 0 (k.is v i) (record { typed = tt; same = refl }) }) ag in
      let come : Comes p x.vars (with_locals (sym_bound d.params ss 0 []) p) x.vars = record { later = (comes_here here ag).later; count = omega (arith) } in
      does_earlier here ranges {P = Is} come
      (does_restored here ranges {q = with_locals (sym_bound d.params ss 0 []) p} ag come
      (tree_does here ranges accesses proper ds (sym_calls here ds) follow d.body h inside))

  function_does : (d : Function) (ds : List Definition) → IsSound d.body → CallsFollow here ranges accesses proper ds (sym_calls here ds) → (i : ℕ)
      → {ss : List SymValue} {vs : List Value} {p : SymPath} {x : Path} {l : List Slot} → Agrees here p x.vars x.world l → Always AreAll p x.vars ss vs
      → Does here ranges Is p x (sym_calls here (function d ∷ ds) i ss p) (calls_of (setting here ranges accesses proper) (function d ∷ ds) i vs l x.world)
  function_does d ds h follow i {ss} {vs} {p} {x} {l} ag k =
      if_does (nat_eq i (length ds)) (sym_entered here (sym_calls here ds) d.params d.body ss) (sym_calls here ds i ss)
      (entered (setting here ranges accesses proper) (calls_of (setting here ranges accesses proper) ds) d.params d.body vs) (calls_of (setting here ranges accesses proper) ds i vs) p x l
      (entered_does d ds h follow ag k) (follow.each i ag k)

  -- the tree of a call of one of these functions does what the call does
  pub calls_follow : (ds : List Definition) → AreSoundDefinitions ds → CallsFollow here ranges accesses proper ds (sym_calls here ds)
  calls_follow [] h = record { each = λ i ag k. does_leaf here ranges {P = Is} ag (unit_always here ranges) }
  calls_follow (order ∷ ds) h = record { each = λ i ag k. (calls_follow ds h.1).each i ag k }
  calls_follow (register x width at ∷ ds) h = record { each = λ i ag k. (calls_follow ds h.1).each i ag k }
  calls_follow (enumeration x members at ∷ ds) h = record { each = λ i ag k. (calls_follow ds h.1).each i ag k }
  calls_follow (signature x args result at ∷ ds) h = record { each = λ i ag k. (calls_follow ds h.1).each i ag k }
  calls_follow (function d ∷ ds) h = record { each = λ i ag k. function_does d ds h.0 (calls_follow ds h.1) i ag k }

-- ---- what the outcome says

-- the one outcome of a list
one_of : (out other : Outcome) (list : List Outcome) → list ≡ out ∷ [] → Contains list other → other ≡ out
one_of out other list e h = either (Contains-push_cases [] out other (subst (λ l. Contains l other) e h))
  where
    either : Contains [] other ⊎ (out ≡ other) → other ≡ out
    either (inl k) = absurd (omega (arith, k.1))
    either (inr k) = sym k

-- just one outcome is in the list of those that follow
alone : FollowsTheList → (ranges : List Range) (t : Trace) (x : Path) (r : Out Value) (out : Outcome) → outcomes ranges t x ≡ out ∷ [] → Says out.ending out.world r → FollowsAlone ranges t x r
alone list ranges t x r out e h = record {
  outcome = out;
  follows = (list ranges t x out).1 (subst (λ l. Contains l out) (sym e) (Contains-push [] out));
  alone = λ other k. one_of out other (outcomes ranges t x) e ((list ranges t x other).0 k);
  once = e;
  says = h;
}

gave_up_says : (e : Ending) (w : World) (r : Out Value) → GaveUp e → Grows w (world_in r) → Says e w r
gave_up_says whole w r h g = absurd h
gave_up_says (failed failure.Match) w r h g = absurd h
gave_up_says (failed failure.Assert) w r h g = absurd h
gave_up_says (failed failure.Exit) w r h g = absurd h
gave_up_says (failed failure.Unsupported) w r h g = g
gave_up_says (failed failure.AssumedWritten) w r h g = g
gave_up_says (faulted k) w r h g = absurd h
gave_up_says unanswered w r h g = absurd h

module _ (list : FollowsTheList) (here : SymSetting) (ranges : List Range) (p : SymPath) (t : SymTree (Leaf SymValue)) (x : Path) where
  full_says : (r : Out Value) → Full here Is p x.vars (arrivals ranges t x) r → FollowsAlone ranges (traced t) x r
  full_says (gives a l w) h = alone list ranges (traced t) x (gives a l w) (ended whole h.there) (outcomes_traced ranges t x ∙ ap (map final) h.only) (sym h.world)
  full_says (stops why w) h = alone list ranges (traced t) x (stops why w) h.out (outcomes_traced ranges t x ∙ ap (map final) h.only) h.says

  sim_says : (r : Out Value) → Sim here Is p x.vars (arrivals ranges t x) r → FollowsAlone ranges (traced t) x r
  sim_says r (full h) = full_says r h
  sim_says r (gives_up h) =
      alone list ranges (traced t) x r h.out (outcomes_traced ranges t x ∙ ap (map final) h.only) (gave_up_says h.out.ending h.out.world r h.gave h.grows)

-- ---- the law

-- the beginning of a path
pub start : (defs : List Definition) (given : List (ℕ × Bits)) (w : World) → Meets defs given w → Agrees (sym_setting defs given) fresh_path [] w []
start defs given w meets = record {
  locals = record { is = λ v k. record { typed = tt; same = refl } };
  known = λ r t e. absurd cc;
  assumed = meets.assumed;
  state = meets.state.values;
  widths = meets.state.widths;
  valid = values_are (record { bits = []; arrays = [] }) (record { bits = λ i d h. absurd (omega (arith, h)); arrays = λ i d h. absurd (omega (arith, h)) });
  counted = omega (arith);
}

pub evaluation_follows : FollowsTheList → ((ranges : List Range) → Accesses ranges) → EvaluationFollows
evaluation_follows list accesses defs given ranges f at b w typed bits meets named =
    let here = sym_setting defs given in
    let proper = things_proper defs in
    let x : Path = path_from [] w in
    let set = setting here ranges (accesses ranges) proper in
    let ds = reverse defs in
    let called_at : Value → Meaning Value = λ v. called set (calls_of set ds) (find_thing f (things_of defs)) at (v ∷ []) in
    let follow = calls_follow here ranges (accesses ranges) proper ds (sound_program defs typed) in
    let does : Does here ranges Is fresh_path x (sym_of defs given f b) (call_of defs ranges f at (concrete.Bits b ∷ []) w) =
    on_to here ranges {P = Is} {Q = Is} {o = gives (concrete.Bits b) [] w} called_at
    (does_told here ranges {P = Is} (as_bits (single (term.lit b))) (concrete.Bits b) (start defs given w meets) (λ v k. literal_is v b bits))
    (λ v. grow_called set ds (find_thing f (things_of defs)) at (v ∷ []))
    (λ m y v l come more is. called_does here ranges (accesses ranges) proper ds (sym_calls here ds) follow (find_thing f (things_of defs)) at
    (found_proper (length here.widths) f here.things proper) more (record { is = λ u k. all_one u m.value v (is.is u k) })) in
    sim_says list here ranges fresh_path (sym_of defs given f b) x (call_of defs ranges f at (concrete.Bits b ∷ []) w)
    (does.is (short_of_size ranges (sym_of defs given f b) x (omega (arith, named))))
