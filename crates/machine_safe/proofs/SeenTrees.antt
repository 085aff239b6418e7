-- What is seen of each expression, and of each call.
use Rattle.std.proofs.Common.{◌≡◌, ℕ, zero, suc, ◌+◌, ◌-◌, Bool, true, false, List, [], ◌∷◌, ◌++◌, length, reverse, Option, Some, None, nat_eq, refl}
use Rattle.std.specs.Prelude.{if◌then◌else◌}
use Rattle.sail_syntax.specs.Tree.{Text, Tree, node, Form, unit, lit, truth, name, chain, flip, slice, update, call, widen, choose, when, cases, foreach, check, exit, assign, block, Trees, none, some, arm, Cases, no_case, case, Step, binds, holds, does, Steps, done, next}
use Rattle.sail_syntax.specs.Program.{Definition, order, register, enumeration, signature, function}
use Rattle.sail_syntax.specs.declared.tree.Infix.{Infix}
use Rattle.state_core.specs.World.{World, fault}
use Rattle.state_core.specs.declared.kinds.FaultKind.TheVariants as kind
use Rattle.state_core.specs.declared.kinds.Range.{Range}
use Rattle.sail_values.specs.declared.value.Slot.{Slot}
use Rattle.sail_values.specs.declared.value.Local.TheVariants as local
use Rattle.sail_values.specs.declared.value.Value.{Value}
use Rattle.sail_values.specs.declared.value.Value.TheVariants as value
use Rattle.sail_values.specs.Values.{nth, flipped, widened, is_true, applied, decides}
use Rattle.sail_names.specs.declared.things.Thing.{Thing}
use Rattle.sail_names.specs.declared.things.Thing.TheVariants as thing
use Rattle.sail_names.specs.Things.{find_thing, things_of}
use Rattle.eval_rules.specs.Flow.{Out, gives, stops, Meaning, after, bind, pure, within}
use Rattle.eval_rules.specs.Parts.{index_at, sliced, updated, fits, pattern_bound}
use Rattle.eval_rules.specs.Names.{Setting, write, define}
use Rattle.eval_rules.specs.Eval.{slice_now, update_now, enter, faulty, Calls, called, turns, eval, eval_form, eval_chain, eval_rest, eval_all, eval_arms, eval_step, eval_steps, turn, bound, restores, entered, calls_of, setting_of, call_of}
use Rattle.eval_rules.specs.Moments.{Moment, Passing, still, following, name_written, CallMoments, called_moments, turns_moments, moments, form_moments, chain_moments, rest_moments, args_moments, arms_moments, step_moments, steps_moments, moments_of_calls, moments_of}
use Rattle.eval_uses.proofs.Told.{gave, stopped, reaching}
use Rattle.machine_safe.proofs.Seen.{IsPlainTail, Seen, seen_same, seen_gives, seen_stops, seen_if, seen_bind, seen_then, seen_changed, seen_leaves, seen_enters}
use Rattle.machine_safe.proofs.SeenParts.{ThingBelow, seen_read, seen_write, seen_given}

-- the turns of a foreach
seen_turns : (size n i : ℕ) (body : ℕ → Meaning Value) (passing : ℕ → Passing) → ((i : ℕ) (l : List Slot) → Seen size (body i l) (passing i l)) → (l : List Slot)
    → Seen size (turns n i body l) (turns_moments n i body passing l)
seen_turns size zero i body passing each l = seen_gives size value.Unit l
seen_turns size (suc n) i body passing each l =
    seen_bind size (λ _. turns n (i + 1) body) (λ _. turns_moments n (i + 1) body passing) (λ _ l. seen_turns size n (i + 1) body passing each l) (body i l) (passing i l) (each i l)

-- one after another, and then something, however it is put together
after_after : {X Y Z : Type 0} (o : Out X) (f : X → Meaning Y) (h : Y → Meaning Z) → after (after o f) h ≡ after o (λ x. bind (f x) h)
after_after (gives x l w) f h = refl
after_after (stops why w) f h = refl

-- a check that fails ends early
checked : (b : Bool) (at : ℕ) (l : List Slot) (w : World)
    → (if b then pure value.Unit else faulty kind.AssertFail at) l w ≡ reaching (if b then gave value.Unit l else stopped (fault kind.AssertFail at)) w
checked true at l w = refl
checked false at l w = refl

check_plain : (b : Bool) (at : ℕ) (l : List Slot) → IsPlainTail (if b then gave value.Unit l else stopped (fault kind.AssertFail at))
check_plain true at l = tt
check_plain false at l = (kind.AssertFail, at, refl, refl)

module _ (size : ℕ) (here : Setting) (below : (x : Text) → ThingBelow size (find_thing x here.things)) (calls : Calls) (call_moments : CallMoments) (ok : (i : ℕ) (vs : List Value) (l : List Slot) → Seen size (calls i vs l) (call_moments i vs l)) where
  seen_called : (t : Option Thing) (at : ℕ) (vs : List Value) (l : List Slot) → Seen size (called here calls t at vs l) (called_moments here call_moments t vs l)
  seen_called (Some (thing.Function i)) at vs l = ok i vs l
  seen_called (Some (thing.Given g)) at vs l = seen_given size here.ranges g at (nth 0 vs) (nth 1 vs) l
  seen_called (Some (thing.Register r)) at vs l = seen_gives size value.Unit l
  seen_called (Some (thing.Member e i)) at vs l = seen_gives size value.Unit l
  seen_called None at vs l = seen_gives size value.Unit l

  mutual
    seen_tree : (t : Tree) (l : List Slot) → Seen size (eval here calls t l) (moments here calls call_moments t l)
    seen_tree (node at form) l = seen_form form at l

    seen_form : (form : Form) (at : ℕ) (l : List Slot) → Seen size (eval_form here calls form at l) (form_moments here calls call_moments form l)
    seen_form unit at l = seen_gives size value.Unit l
    seen_form (lit b) at l = seen_gives size (value.Bits b) l
    seen_form (truth b) at l = seen_gives size (value.Truth b) l
    seen_form (name x) at l = seen_read size here.things x l (below x)
    seen_form (chain op parts) at l = seen_chain parts op l
    seen_form (flip of) at l =
        seen_then size (λ v. pure (flipped v)) (λ v l. gave (flipped v) l) (λ v l w. refl) (λ v l. tt) (eval here calls of l) (moments here calls call_moments of l) (seen_tree of l)
    seen_form (slice of hi lo) at l =
        seen_then size (λ v. slice_now hi lo v) (λ v l. gave (sliced v (index_at hi l) (index_at lo l)) l) (λ v l w. refl) (λ v l. tt) (eval here calls of l)
        (moments here calls call_moments of l) (seen_tree of l)
    seen_form (update of hi lo by) at l =
        seen_bind size (λ v. bind (eval here calls by) (λ u. update_now hi lo v u)) (λ _. moments here calls call_moments by)
        (λ v l. seen_then size (λ u. update_now hi lo v u) (λ u l. gave (updated v (index_at hi l) (index_at lo l) u) l) (λ u l w. refl) (λ u l. tt) (eval here calls by l)
        (moments here calls call_moments by l) (seen_tree by l))
        (eval here calls of l) (moments here calls call_moments of l) (seen_tree of l)
    seen_form (call f args) at l =
        seen_args args [] (called here calls (find_thing f here.things) at) (called_moments here call_moments (find_thing f here.things))
        (λ vs l. seen_called (find_thing f here.things) at vs l) l
    seen_form (widen signed to of) at l =
        seen_then size (λ v. pure (widened signed to v)) (λ v l. gave (widened signed to v) l) (λ v l w. refl) (λ v l. tt) (eval here calls of l)
        (moments here calls call_moments of l) (seen_tree of l)
    seen_form (choose test one other) at l =
        seen_bind size (λ v. if is_true v then eval here calls one else eval here calls other)
        (λ v. if is_true v then moments here calls call_moments one else moments here calls call_moments other)
        (λ v l. seen_if size (is_true v) (eval here calls one) (eval here calls other) (moments here calls call_moments one) (moments here calls call_moments other) l
        (seen_tree one l) (seen_tree other l))
        (eval here calls test l) (moments here calls call_moments test l) (seen_tree test l)
    seen_form (when test one) at l =
        seen_bind size (λ v. if is_true v then eval here calls one else pure value.Unit) (λ v. if is_true v then moments here calls call_moments one else still)
        (λ v l. seen_if size (is_true v) (eval here calls one) (pure value.Unit) (moments here calls call_moments one) still l (seen_tree one l) (seen_gives size value.Unit l))
        (eval here calls test l) (moments here calls call_moments test l) (seen_tree test l)
    seen_form (cases on arms) at l =
        seen_bind size (λ v. eval_arms here calls arms at v) (λ v. arms_moments here calls call_moments arms v) (λ v l. seen_arms arms at v l)
        (eval here calls on l) (moments here calls call_moments on l) (seen_tree on l)
    seen_form (foreach x from to body) at l =
        seen_turns size (to + 1 - from) from (turn here calls x body)
        (λ i locals world. moments here calls call_moments body (record { name = x; local = local.Counts i } ∷ locals) world)
        (λ i l. seen_leaves size (length l) (eval here calls body (record { name = x; local = local.Counts i } ∷ l))
        (moments here calls call_moments body (record { name = x; local = local.Counts i } ∷ l)) (seen_tree body (record { name = x; local = local.Counts i } ∷ l)))
        l
    seen_form (check test text) at l =
        seen_then size (λ v. if is_true v then pure value.Unit else faulty kind.AssertFail at)
        (λ v l. if is_true v then gave value.Unit l else stopped (fault kind.AssertFail at)) (λ v l w. checked (is_true v) at l w) (λ v l. check_plain (is_true v) at l)
        (eval here calls test l) (moments here calls call_moments test l) (seen_tree test l)
    seen_form exit at l = seen_stops size (fault kind.Exit at) (kind.Exit, at, refl, refl)
    seen_form (assign x by) at l =
        seen_bind size (λ v. write here.things x v) (λ v. name_written here.things x v) (λ v l. seen_write size here.things x v l (below x))
        (eval here calls by l) (moments here calls call_moments by l) (seen_tree by l)
    seen_form (block steps) at l =
        seen_leaves size (length l) (eval_steps here calls steps value.Unit l) (steps_moments here calls call_moments steps l) (seen_steps steps value.Unit l)

    seen_chain : (parts : Trees) (op : Infix) (l : List Slot) → Seen size (eval_chain here calls parts op l) (chain_moments here calls call_moments parts op l)
    seen_chain none op l = seen_gives size value.Unit l
    seen_chain (some t rest) op l =
        seen_bind size (λ v. eval_rest here calls rest op v) (λ v. rest_moments here calls call_moments rest op v) (λ v l. seen_rest rest op v l)
        (eval here calls t l) (moments here calls call_moments t l) (seen_tree t l)

    seen_rest : (parts : Trees) (op : Infix) (v : Value) (l : List Slot) → Seen size (eval_rest here calls parts op v l) (rest_moments here calls call_moments parts op v l)
    seen_rest none op v l = seen_gives size v l
    seen_rest (some t rest) op v l =
        seen_if size (decides op v) (pure v) (bind (eval here calls t) (λ u. eval_rest here calls rest op (applied op v u))) still
        (λ locals world. moments here calls call_moments t locals world ++ following (eval here calls t locals world) (λ u. rest_moments here calls call_moments rest op (applied op v u)))
        l (seen_gives size v l)
        (seen_bind size (λ u. eval_rest here calls rest op (applied op v u)) (λ u. rest_moments here calls call_moments rest op (applied op v u))
        (λ u l. seen_rest rest op (applied op v u) l) (eval here calls t l) (moments here calls call_moments t l) (seen_tree t l))

    -- arguments with the call behind them
    seen_args : (ts : Trees) (vs : List Value) (h : List Value → Meaning Value) (p : List Value → Passing) → ((us : List Value) (l : List Slot) → Seen size (h us l) (p us l))
        → (l : List Slot) → Seen size (bind (eval_all here calls ts vs) h l) (args_moments here calls call_moments ts vs p l)
    seen_args none vs h p later l = later vs l
    seen_args (some t rest) vs h p later l =
        seen_same size (λ w. after (eval here calls t l w) (λ v. bind (eval_all here calls rest (vs ++ v ∷ [])) h)) (bind (eval_all here calls (some t rest) vs) h l)
        (args_moments here calls call_moments (some t rest) vs p l)
        (λ w. after_after (eval here calls t l w) (λ v. eval_all here calls rest (vs ++ v ∷ [])) h)
        (seen_bind size (λ v. bind (eval_all here calls rest (vs ++ v ∷ [])) h) (λ v. args_moments here calls call_moments rest (vs ++ v ∷ []) p)
        (λ v l. seen_args rest (vs ++ v ∷ []) h p later l) (eval here calls t l) (moments here calls call_moments t l) (seen_tree t l))

    seen_arms : (arms : Cases) (at : ℕ) (v : Value) (l : List Slot) → Seen size (eval_arms here calls arms at v l) (arms_moments here calls call_moments arms v l)
    seen_arms no_case at v l = seen_stops size (fault kind.MatchFail at) (kind.MatchFail, at, refl, refl)
    seen_arms (case (arm p body) rest) at v l =
        seen_if size (fits here.things p v) (within (bind (enter here p v) (λ _. eval here calls body))) (eval_arms here calls rest at v)
        (λ locals world. following (enter here p v locals world) (λ _. moments here calls call_moments body)) (arms_moments here calls call_moments rest v) l
        (seen_leaves size (length l) (eval here calls body (pattern_bound here.things p v l)) (λ w. following (enter here p v l w) (λ _. moments here calls call_moments body))
        (seen_enters size (pattern_bound here.things p v l) (eval here calls body) (moments here calls call_moments body) (λ l. seen_tree body l)))
        (seen_arms rest at v l)

    seen_step : (s : Step) (l : List Slot) → Seen size (eval_step here calls s l) (step_moments here calls call_moments s l)
    seen_step (binds x ty by) l =
        seen_then size (λ v. define x (local.Is v)) (λ v l. gave value.Unit (record { name = x; local = local.Is v } ∷ l)) (λ v l w. refl) (λ v l. tt)
        (eval here calls by l) (moments here calls call_moments by l) (seen_tree by l)
    seen_step (holds x ty by) l =
        seen_then size (λ v. define x (local.Is v)) (λ v l. gave value.Unit (record { name = x; local = local.Is v } ∷ l)) (λ v l w. refl) (λ v l. tt)
        (eval here calls by l) (moments here calls call_moments by l) (seen_tree by l)
    seen_step (does e) l = seen_tree e l

    seen_steps : (steps : Steps) (v : Value) (l : List Slot) → Seen size (eval_steps here calls steps v l) (steps_moments here calls call_moments steps l)
    seen_steps done v l = seen_gives size v l
    seen_steps (next s rest) v l =
        seen_bind size (λ u. eval_steps here calls rest u) (λ _. steps_moments here calls call_moments rest) (λ u l. seen_steps rest u l)
        (eval_step here calls s l) (step_moments here calls call_moments s l) (seen_step s l)

-- ---- calls

seen_entered : (size : ℕ) (l : List Slot) (run : World → Out Value) (ms : World → List Moment) → Seen size run ms → Seen size (λ w. restores l (run w)) ms
seen_entered size l run ms t = seen_changed size (restores l) (λ v _. gave v l) (λ v _ w. refl) (λ v _. tt) (λ why w. refl) run ms t

-- a call of a function by the number of its definition
pub seen_calls : (size : ℕ) (here : Setting) (below : (x : Text) → ThingBelow size (find_thing x here.things)) (ds : List Definition) (i : ℕ) (vs : List Value) (l : List Slot) → Seen size (calls_of here ds i vs l) (moments_of_calls here ds i vs l)
seen_calls size here below [] i vs l = seen_gives size value.Unit l
seen_calls size here below (order ∷ ds) i vs l = seen_calls size here below ds i vs l
seen_calls size here below (register x width at ∷ ds) i vs l = seen_calls size here below ds i vs l
seen_calls size here below (enumeration x members at ∷ ds) i vs l = seen_calls size here below ds i vs l
seen_calls size here below (signature x args result at ∷ ds) i vs l = seen_calls size here below ds i vs l
seen_calls size here below (function d ∷ ds) i vs l =
    seen_if size (nat_eq i (length ds)) (entered here (calls_of here ds) d.params d.body vs) (calls_of here ds i vs)
    (λ locals world. moments here (calls_of here ds) (moments_of_calls here ds) d.body (bound d.params vs 0 []) world) (moments_of_calls here ds i vs) l
    (seen_entered size l (eval here (calls_of here ds) d.body (bound d.params vs 0 []))
    (moments here (calls_of here ds) (moments_of_calls here ds) d.body (bound d.params vs 0 []))
    (seen_tree size here below (calls_of here ds) (moments_of_calls here ds) (λ i vs l. seen_calls size here below ds i vs l) d.body (bound d.params vs 0 [])))
    (seen_calls size here below ds i vs l)

-- a call of a name of a text
pub seen_call : (size : ℕ) (defs : List Definition) → ((x : Text) → ThingBelow size (find_thing x (things_of defs))) → (ranges : List Range) (f : Text) (at : ℕ) (vs : List Value)
    → Seen size (call_of defs ranges f at vs) (moments_of defs ranges f vs)
seen_call size defs below ranges f at vs =
    seen_called size (setting_of defs ranges) below (calls_of (setting_of defs ranges) (reverse defs)) (moments_of_calls (setting_of defs ranges) (reverse defs))
    (λ i vs l. seen_calls size (setting_of defs ranges) below (reverse defs) i vs l) (find_thing f (things_of defs)) at vs []
