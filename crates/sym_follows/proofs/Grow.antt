-- What was done only grows, in each part of an evaluation.
use Rattle.std.proofs.Common.{ℕ, zero, suc, ◌+◌, Bool, true, false, List, [], ◌∷◌, ◌++◌, length, Option, Some, None}
use Rattle.std.specs.Prelude.{if◌then◌else◌}
use Rattle.sail_syntax.specs.Tree.{Text, Tree, Trees, none, some, arm, Cases, no_case, case, Step, binds, holds, does, Steps, done, next}
use Rattle.sail_syntax.specs.Program.{Definition}
use Rattle.sail_syntax.specs.declared.tree.Infix.{Infix}
use Rattle.state_core.specs.World.{World}
use Rattle.state_core.specs.Laws.{Grows}
use Rattle.sail_values.specs.declared.value.Slot.{Slot}
use Rattle.sail_values.specs.declared.value.Local.TheVariants as local
use Rattle.sail_values.specs.declared.value.Value.{Value}
use Rattle.sail_values.specs.declared.value.Value.TheVariants as value
use Rattle.sail_values.specs.Slots.{has, put}
use Rattle.sail_values.specs.Values.{nth, applied, decides}
use Rattle.sail_names.specs.declared.things.Thing.{Thing}
use Rattle.sail_names.specs.declared.things.Thing.TheVariants as thing
use Rattle.sail_names.specs.Things.{find_thing}
use Rattle.eval_rules.specs.Flow.{Out, gives, stops, Meaning, after, bind, pure, within, leaves}
use Rattle.eval_rules.specs.Parts.{fits}
use Rattle.eval_rules.specs.Names.{Setting, in_state, assigned, write, define}
use Rattle.eval_rules.specs.Eval.{enter, called, turns, counted, eval, eval_rest, eval_all, eval_arms, eval_step, eval_steps, calls_of}
use Rattle.eval_uses.specs.Uses.{world_in}
use Rattle.eval_uses.proofs.Trees.{told_eval, told_calls}
use Rattle.eval_uses.proofs.Accesses.{told_given}
use Rattle.sym_follows.proofs.Does.{grows_none, grows_join}
use Rattle.sym_follows.proofs.Names.{grows_state}

-- from each locals and world
abbrev pub Grow : {A : Type 0} → Meaning A → Type 0
Grow m = (l : List Slot) (w : World) → Grows w (world_in (m l w))

pub grow_after : {A B : Type 0} (w : World) (o : Out A) (k : A → Meaning B) → Grows w (world_in o) → ((a : A) → Grow (k a)) → Grows w (world_in (after o k))
grow_after w (gives a l z) k h each = grows_join w z (world_in (k a l z)) h (each a l z)
grow_after w (stops why z) k h each = h

pub grow_bind : {A B : Type 0} (m : Meaning A) (k : A → Meaning B) → Grow m → ((a : A) → Grow (k a)) → Grow (bind m k)
grow_bind m k h each l w = grow_after w (m l w) k (h l w) each

pub grow_if : {A : Type 0} (c : Bool) (m n : Meaning A) → Grow m → Grow n → Grow (if c then m else n)
grow_if true m n h k = h
grow_if false m n h k = k

grow_leaves : (n : ℕ) (w : World) (o : Out Value) → Grows w (world_in o) → Grows w (world_in (leaves n o))
grow_leaves n w (gives a l z) h = h
grow_leaves n w (stops why z) h = h

pub grow_within : (m : Meaning Value) → Grow m → Grow (within m)
grow_within m h l w = grow_leaves (length l) w (m l w) (h l w)

pub grow_turns : (n i : ℕ) (body : ℕ → Meaning Value) → ((i : ℕ) → Grow (body i)) → Grow (turns n i body)
grow_turns zero i body each l w = grows_none w
grow_turns (suc n) i body each l w = grow_after w (body i l w) (λ _. turns n (i + 1) body) (each i l w) (λ a. grow_turns n (i + 1) body each)

-- an assignment
pub grow_write : (here : Setting) (x : Text) (v : Value) → Grow (write here.things x v)
grow_write here x v l w = step (has x l)
  where
    step : (c : Bool) → Grows w (world_in (if c then gives value.Unit (put x (local.Is v) l) w else gives value.Unit l (in_state (assigned (find_thing x here.things) v w.state) w)))
    step true = grows_none w
    step false = grows_state w (assigned (find_thing x here.things) v w.state)

-- among the functions of a text
module _ (here : Setting) (ds : List Definition) where
  pub grow_eval : (t : Tree) → Grow (eval here (calls_of here ds) t)
  grow_eval t l w = ((told_eval here ds t l).keeps w).grows

  pub grow_called : (o : Option Thing) (at : ℕ) (vs : List Value) → Grow (called here (calls_of here ds) o at vs)
  grow_called (Some (thing.Function i)) at vs l w = ((told_calls here ds i vs l).keeps w).grows
  grow_called (Some (thing.Given g)) at vs l w = ((told_given here.ranges g at (nth 0 vs) (nth 1 vs) l).keeps w).grows
  grow_called (Some (thing.Register r)) at vs l w = grows_none w
  grow_called (Some (thing.Member e i)) at vs l w = grows_none w
  grow_called None at vs l w = grows_none w

  pub grow_rest : (ts : Trees) (op : Infix) (v : Value) → Grow (eval_rest here (calls_of here ds) ts op v)
  grow_rest none op v = λ l w. grows_none w
  grow_rest (some t rest) op v =
      grow_if (decides op v) (pure v) (bind (eval here (calls_of here ds) t) (λ u. eval_rest here (calls_of here ds) rest op (applied op v u))) (λ l w. grows_none w)
      (grow_bind (eval here (calls_of here ds) t) (λ u. eval_rest here (calls_of here ds) rest op (applied op v u)) (grow_eval t) (λ u. grow_rest rest op (applied op v u)))

  pub grow_all : (ts : Trees) (vs : List Value) → Grow (eval_all here (calls_of here ds) ts vs)
  grow_all none vs = λ l w. grows_none w
  grow_all (some t rest) vs = grow_bind (eval here (calls_of here ds) t) (λ v. eval_all here (calls_of here ds) rest (vs ++ v ∷ [])) (grow_eval t) (λ v. grow_all rest (vs ++ v ∷ []))

  pub grow_arms : (arms : Cases) (at : ℕ) (v : Value) → Grow (eval_arms here (calls_of here ds) arms at v)
  grow_arms no_case at v = λ l w. grows_none w
  grow_arms (case (arm p body) rest) at v =
      grow_if (fits here.things p v) (within (bind (enter here p v) (λ _. eval here (calls_of here ds) body))) (eval_arms here (calls_of here ds) rest at v)
      (grow_within (bind (enter here p v) (λ _. eval here (calls_of here ds) body)) (grow_bind (enter here p v) (λ _. eval here (calls_of here ds) body) (λ l w. grows_none w) (λ _. grow_eval body)))
      (grow_arms rest at v)

  pub grow_step : (s : Step) → Grow (eval_step here (calls_of here ds) s)
  grow_step (binds x ty by) = grow_bind (eval here (calls_of here ds) by) (λ v. define x (local.Is v)) (grow_eval by) (λ v l w. grows_none w)
  grow_step (holds x ty by) = grow_bind (eval here (calls_of here ds) by) (λ v. define x (local.Is v)) (grow_eval by) (λ v l w. grows_none w)
  grow_step (does e) = grow_eval e

  pub grow_steps : (ss : Steps) (v : Value) → Grow (eval_steps here (calls_of here ds) ss v)
  grow_steps done v = λ l w. grows_none w
  grow_steps (next s rest) v = grow_bind (eval_step here (calls_of here ds) s) (λ u. eval_steps here (calls_of here ds) rest u) (grow_step s) (λ u. grow_steps rest u)

  pub grow_counted : (x : Text) (body : Tree) (i : ℕ) → Grow (counted x (eval here (calls_of here ds) body) i)
  grow_counted x body i =
      grow_within (bind (define x (local.Counts i)) (λ _. eval here (calls_of here ds) body))
      (grow_bind (define x (local.Counts i)) (λ _. eval here (calls_of here ds) body) (λ l w. grows_none w) (λ _. grow_eval body))
