-- What the moments tell of each expression, and of each call.
use Rattle.std.proofs.Common.{◌≡◌, ℕ, zero, suc, ◌+◌, ◌-◌, Bool, true, false, List, [], ◌∷◌, ◌++◌, length, reverse, Option, Some, None, nat_eq, refl}
use Rattle.std.specs.Prelude.{if◌then◌else◌}
use Rattle.sail_syntax.specs.Tree.{Text, Tree, node, Form, unit, lit, truth, name, chain, flip, slice, update, call, widen, choose, when, cases, foreach, check, exit, assign, block, Trees, none, some, arm, Cases, no_case, case, Step, binds, holds, does, Steps, done, next}
use Rattle.sail_syntax.specs.Program.{Definition, order, register, enumeration, signature, function}
use Rattle.sail_syntax.specs.declared.tree.Infix.{Infix}
use Rattle.state_core.specs.World.{World, fault}
use Rattle.state_core.specs.declared.kinds.FaultKind.TheVariants as kind
use Rattle.state_core.specs.declared.kinds.Range.{Range}
use Rattle.sail_values.specs.declared.value.Slot.{Slot}
use Rattle.sail_values.specs.declared.value.Local.TheVariants as local
use Rattle.sail_values.specs.declared.value.Value.{Value}
use Rattle.sail_values.specs.declared.value.Value.TheVariants as value
use Rattle.sail_values.specs.Values.{nth, flipped, widened, is_true, applied, decides}
use Rattle.sail_names.specs.declared.things.Thing.{Thing}
use Rattle.sail_names.specs.declared.things.Thing.TheVariants as thing
use Rattle.sail_names.specs.Things.{find_thing, things_of}
use Rattle.eval_rules.specs.Flow.{Out, gives, stops, Meaning, after, bind, pure, within}
use Rattle.eval_rules.specs.Parts.{index_at, sliced, updated, fits, pattern_bound}
use Rattle.eval_rules.specs.Names.{Setting, write, define}
use Rattle.eval_rules.specs.Eval.{slice_now, update_now, enter, faulty, Calls, called, turns, eval, eval_form, eval_chain, eval_rest, eval_all, eval_arms, eval_step, eval_steps, turn, bound, restores, entered, calls_of, setting_of, call_of}
use Rattle.eval_rules.specs.Moments.{Moment, Passing, still, following, name_written, CallMoments, called_moments, turns_moments, moments, form_moments, chain_moments, rest_moments, args_moments, arms_moments, step_moments, steps_moments, moments_of_calls, moments_of}
use Rattle.eval_uses.proofs.Told.{Told, gave, stopped, reaching, told_same, told_gives, told_stops, told_if, told_bind, told_then, told_changed, told_leaves, told_enters}
use Rattle.eval_uses.proofs.Registers.{told_read, told_write}
use Rattle.eval_uses.proofs.Accesses.{told_given}

-- the turns of a foreach
told_turns : (n i : ℕ) (body : ℕ → Meaning Value) (passing : ℕ → Passing) → ((i : ℕ) (l : List Slot) → Told (body i l) (passing i l)) → (l : List Slot)
    → Told (turns n i body l) (turns_moments n i body passing l)
told_turns zero i body passing each l = told_gives value.Unit l
told_turns (suc n) i body passing each l =
    told_bind (λ _. turns n (i + 1) body) (λ _. turns_moments n (i + 1) body passing) (λ _ l. told_turns n (i + 1) body passing each l) (body i l) (passing i l) (each i l)

-- one after another, and then something, however it is put together
after_after : {X Y Z : Type 0} (o : Out X) (f : X → Meaning Y) (h : Y → Meaning Z) → after (after o f) h ≡ after o (λ x. bind (f x) h)
after_after (gives x l w) f h = refl
after_after (stops why w) f h = refl

-- a check that fails ends early
checked : (b : Bool) (at : ℕ) (l : List Slot) (w : World)
    → (if b then pure value.Unit else faulty kind.AssertFail at) l w ≡ reaching (if b then gave value.Unit l else stopped (fault kind.AssertFail at)) w
checked true at l w = refl
checked false at l w = refl

module _ (here : Setting) (calls : Calls) (call_moments : CallMoments) (ok : (i : ℕ) (vs : List Value) (l : List Slot) → Told (calls i vs l) (call_moments i vs l)) where
  told_called : (t : Option Thing) (at : ℕ) (vs : List Value) (l : List Slot) → Told (called here calls t at vs l) (called_moments here call_moments t vs l)
  told_called (Some (thing.Function i)) at vs l = ok i vs l
  told_called (Some (thing.Given g)) at vs l = told_given here.ranges g at (nth 0 vs) (nth 1 vs) l
  told_called (Some (thing.Register r)) at vs l = told_gives value.Unit l
  told_called (Some (thing.Member e i)) at vs l = told_gives value.Unit l
  told_called None at vs l = told_gives value.Unit l

  mutual
    told_tree : (t : Tree) (l : List Slot) → Told (eval here calls t l) (moments here calls call_moments t l)
    told_tree (node at form) l = told_form form at l

    told_form : (form : Form) (at : ℕ) (l : List Slot) → Told (eval_form here calls form at l) (form_moments here calls call_moments form l)
    told_form unit at l = told_gives value.Unit l
    told_form (lit b) at l = told_gives (value.Bits b) l
    told_form (truth b) at l = told_gives (value.Truth b) l
    told_form (name x) at l = told_read here.things x l
    told_form (chain op parts) at l = told_chain parts op l
    told_form (flip of) at l =
        told_then (λ v. pure (flipped v)) (λ v l. gave (flipped v) l) (λ v l w. refl) (eval here calls of l) (moments here calls call_moments of l) (told_tree of l)
    told_form (slice of hi lo) at l =
        told_then (λ v. slice_now hi lo v) (λ v l. gave (sliced v (index_at hi l) (index_at lo l)) l) (λ v l w. refl) (eval here calls of l)
        (moments here calls call_moments of l) (told_tree of l)
    told_form (update of hi lo by) at l =
        told_bind (λ v. bind (eval here calls by) (λ u. update_now hi lo v u)) (λ _. moments here calls call_moments by)
        (λ v l. told_then (λ u. update_now hi lo v u) (λ u l. gave (updated v (index_at hi l) (index_at lo l) u) l) (λ u l w. refl) (eval here calls by l)
        (moments here calls call_moments by l) (told_tree by l))
        (eval here calls of l) (moments here calls call_moments of l) (told_tree of l)
    told_form (call f args) at l =
        told_args args [] (called here calls (find_thing f here.things) at) (called_moments here call_moments (find_thing f here.things))
        (λ vs l. told_called (find_thing f here.things) at vs l) l
    told_form (widen signed to of) at l =
        told_then (λ v. pure (widened signed to v)) (λ v l. gave (widened signed to v) l) (λ v l w. refl) (eval here calls of l)
        (moments here calls call_moments of l) (told_tree of l)
    told_form (choose test one other) at l =
        told_bind (λ v. if is_true v then eval here calls one else eval here calls other)
        (λ v. if is_true v then moments here calls call_moments one else moments here calls call_moments other)
        (λ v l. told_if (is_true v) (eval here calls one) (eval here calls other) (moments here calls call_moments one) (moments here calls call_moments other) l
        (told_tree one l) (told_tree other l))
        (eval here calls test l) (moments here calls call_moments test l) (told_tree test l)
    told_form (when test one) at l =
        told_bind (λ v. if is_true v then eval here calls one else pure value.Unit) (λ v. if is_true v then moments here calls call_moments one else still)
        (λ v l. told_if (is_true v) (eval here calls one) (pure value.Unit) (moments here calls call_moments one) still l (told_tree one l) (told_gives value.Unit l))
        (eval here calls test l) (moments here calls call_moments test l) (told_tree test l)
    told_form (cases on arms) at l =
        told_bind (λ v. eval_arms here calls arms at v) (λ v. arms_moments here calls call_moments arms v) (λ v l. told_arms arms at v l)
        (eval here calls on l) (moments here calls call_moments on l) (told_tree on l)
    told_form (foreach x from to body) at l =
        told_turns (to + 1 - from) from (turn here calls x body)
        (λ i locals world. moments here calls call_moments body (record { name = x; local = local.Counts i } ∷ locals) world)
        (λ i l. told_leaves (length l) (eval here calls body (record { name = x; local = local.Counts i } ∷ l))
        (moments here calls call_moments body (record { name = x; local = local.Counts i } ∷ l)) (told_tree body (record { name = x; local = local.Counts i } ∷ l)))
        l
    told_form (check test text) at l =
        told_then (λ v. if is_true v then pure value.Unit else faulty kind.AssertFail at)
        (λ v l. if is_true v then gave value.Unit l else stopped (fault kind.AssertFail at)) (λ v l w. checked (is_true v) at l w)
        (eval here calls test l) (moments here calls call_moments test l) (told_tree test l)
    told_form exit at l = told_stops (fault kind.Exit at)
    told_form (assign x by) at l =
        told_bind (λ v. write here.things x v) (λ v. name_written here.things x v) (λ v l. told_write here.things x v l)
        (eval here calls by l) (moments here calls call_moments by l) (told_tree by l)
    told_form (block steps) at l =
        told_leaves (length l) (eval_steps here calls steps value.Unit l) (steps_moments here calls call_moments steps l) (told_steps steps value.Unit l)

    told_chain : (parts : Trees) (op : Infix) (l : List Slot) → Told (eval_chain here calls parts op l) (chain_moments here calls call_moments parts op l)
    told_chain none op l = told_gives value.Unit l
    told_chain (some t rest) op l =
        told_bind (λ v. eval_rest here calls rest op v) (λ v. rest_moments here calls call_moments rest op v) (λ v l. told_rest rest op v l)
        (eval here calls t l) (moments here calls call_moments t l) (told_tree t l)

    told_rest : (parts : Trees) (op : Infix) (v : Value) (l : List Slot) → Told (eval_rest here calls parts op v l) (rest_moments here calls call_moments parts op v l)
    told_rest none op v l = told_gives v l
    told_rest (some t rest) op v l =
        told_if (decides op v) (pure v) (bind (eval here calls t) (λ u. eval_rest here calls rest op (applied op v u))) still
        (λ locals world. moments here calls call_moments t locals world ++ following (eval here calls t locals world) (λ u. rest_moments here calls call_moments rest op (applied op v u)))
        l (told_gives v l)
        (told_bind (λ u. eval_rest here calls rest op (applied op v u)) (λ u. rest_moments here calls call_moments rest op (applied op v u))
        (λ u l. told_rest rest op (applied op v u) l) (eval here calls t l) (moments here calls call_moments t l) (told_tree t l))

    -- arguments with the call behind them
    told_args : (ts : Trees) (vs : List Value) (h : List Value → Meaning Value) (p : List Value → Passing) → ((us : List Value) (l : List Slot) → Told (h us l) (p us l))
        → (l : List Slot) → Told (bind (eval_all here calls ts vs) h l) (args_moments here calls call_moments ts vs p l)
    told_args none vs h p later l = later vs l
    told_args (some t rest) vs h p later l =
        told_same (λ w. after (eval here calls t l w) (λ v. bind (eval_all here calls rest (vs ++ v ∷ [])) h)) (bind (eval_all here calls (some t rest) vs) h l)
        (args_moments here calls call_moments (some t rest) vs p l) (args_moments here calls call_moments (some t rest) vs p l)
        (λ w. after_after (eval here calls t l w) (λ v. eval_all here calls rest (vs ++ v ∷ [])) h) (λ w. refl)
        (told_bind (λ v. bind (eval_all here calls rest (vs ++ v ∷ [])) h) (λ v. args_moments here calls call_moments rest (vs ++ v ∷ []) p)
        (λ v l. told_args rest (vs ++ v ∷ []) h p later l) (eval here calls t l) (moments here calls call_moments t l) (told_tree t l))

    told_arms : (arms : Cases) (at : ℕ) (v : Value) (l : List Slot) → Told (eval_arms here calls arms at v l) (arms_moments here calls call_moments arms v l)
    told_arms no_case at v l = told_stops (fault kind.MatchFail at)
    told_arms (case (arm p body) rest) at v l =
        told_if (fits here.things p v) (within (bind (enter here p v) (λ _. eval here calls body))) (eval_arms here calls rest at v)
        (λ locals world. following (enter here p v locals world) (λ _. moments here calls call_moments body)) (arms_moments here calls call_moments rest v) l
        (told_leaves (length l) (eval here calls body (pattern_bound here.things p v l)) (λ w. following (enter here p v l w) (λ _. moments here calls call_moments body))
        (told_enters (pattern_bound here.things p v l) (eval here calls body) (moments here calls call_moments body) (λ l. told_tree body l)))
        (told_arms rest at v l)

    told_step : (s : Step) (l : List Slot) → Told (eval_step here calls s l) (step_moments here calls call_moments s l)
    told_step (binds x ty by) l =
        told_then (λ v. define x (local.Is v)) (λ v l. gave value.Unit (record { name = x; local = local.Is v } ∷ l)) (λ v l w. refl)
        (eval here calls by l) (moments here calls call_moments by l) (told_tree by l)
    told_step (holds x ty by) l =
        told_then (λ v. define x (local.Is v)) (λ v l. gave value.Unit (record { name = x; local = local.Is v } ∷ l)) (λ v l w. refl)
        (eval here calls by l) (moments here calls call_moments by l) (told_tree by l)
    told_step (does e) l = told_tree e l

    told_steps : (steps : Steps) (v : Value) (l : List Slot) → Told (eval_steps here calls steps v l) (steps_moments here calls call_moments steps l)
    told_steps done v l = told_gives v l
    told_steps (next s rest) v l =
        told_bind (λ u. eval_steps here calls rest u) (λ _. steps_moments here calls call_moments rest) (λ u l. told_steps rest u l)
        (eval_step here calls s l) (step_moments here calls call_moments s l) (told_step s l)

-- ---- calls

told_entered : (l : List Slot) (run : World → Out Value) (ms : World → List Moment) → Told run ms → Told (λ w. restores l (run w)) ms
told_entered l run ms t = told_changed (restores l) (λ v _. gave v l) (λ v _ w. refl) (λ why w. refl) run ms t

-- a call of a function by the number of its definition
pub told_calls : (here : Setting) (ds : List Definition) (i : ℕ) (vs : List Value) (l : List Slot) → Told (calls_of here ds i vs l) (moments_of_calls here ds i vs l)
told_calls here [] i vs l = told_gives value.Unit l
told_calls here (order ∷ ds) i vs l = told_calls here ds i vs l
told_calls here (register x width at ∷ ds) i vs l = told_calls here ds i vs l
told_calls here (enumeration x members at ∷ ds) i vs l = told_calls here ds i vs l
told_calls here (signature x args result at ∷ ds) i vs l = told_calls here ds i vs l
told_calls here (function d ∷ ds) i vs l =
    told_if (nat_eq i (length ds)) (entered here (calls_of here ds) d.params d.body vs) (calls_of here ds i vs)
    (λ locals world. moments here (calls_of here ds) (moments_of_calls here ds) d.body (bound d.params vs 0 []) world) (moments_of_calls here ds i vs) l
    (told_entered l (eval here (calls_of here ds) d.body (bound d.params vs 0 []))
    (moments here (calls_of here ds) (moments_of_calls here ds) d.body (bound d.params vs 0 []))
    (told_tree here (calls_of here ds) (moments_of_calls here ds) (λ i vs l. told_calls here ds i vs l) d.body (bound d.params vs 0 [])))
    (told_calls here ds i vs l)

-- an expression, among the functions of a text
pub told_eval : (here : Setting) (ds : List Definition) (t : Tree) (l : List Slot)
    → Told (eval here (calls_of here ds) t l) (moments here (calls_of here ds) (moments_of_calls here ds) t l)
told_eval here ds t l = told_tree here (calls_of here ds) (moments_of_calls here ds) (λ i vs l. told_calls here ds i vs l) t l

-- a call of a name of a text
pub told_call : (defs : List Definition) (ranges : List Range) (f : Text) (at : ℕ) (vs : List Value) → Told (call_of defs ranges f at vs) (moments_of defs ranges f vs)
told_call defs ranges f at vs =
    told_called (setting_of defs ranges) (calls_of (setting_of defs ranges) (reverse defs)) (moments_of_calls (setting_of defs ranges) (reverse defs))
    (λ i vs l. told_calls (setting_of defs ranges) (reverse defs) i vs l) (find_thing f (things_of defs)) at vs []
