-- What is left of lists after the first element, and of a foreach after a turn, evaluates as all of them.
use Rattle.std.proofs.Common.{◌≡◌, ℕ, suc, ◌+◌, ◌-◌, ◌<◌, ◌≤◌, true, false, List, [], ◌∷◌, ◌++◌, length, get_or, take, drop, sym, ap, ◌∙◌, arith}
use Rattle.std.specs.Prelude.{Err, if◌then◌else◌}
use Rattle.std.proofs.lemmas.List.{drop_more, take_all}
use Rattle.sail_syntax.specs.Tree.{Text, Tree, Trees, some, arm, Cases, case, Step, Steps, next}
use Rattle.sail_syntax.specs.declared.tree.Infix.{Infix}
use Rattle.sail_syntax.specs.declared.patterns.Pattern.{Pattern}
use Rattle.state_core.specs.World.{World}
use Rattle.sail_values.specs.declared.value.Local.TheVariants as local
use Rattle.sail_values.specs.declared.value.Slot.{Slot}
use Rattle.sail_values.specs.declared.value.Stop.{Stop}
use Rattle.sail_values.specs.declared.value.Stop.TheVariants as stop
use Rattle.sail_values.specs.declared.value.Value.{Value}
use Rattle.sail_values.specs.Values.{applied, decides}
use Rattle.eval_rules.specs.Flow.{Out, gives, after, bind, pure, leaves, within}
use Rattle.eval_rules.specs.Names as names
use Rattle.eval_rules.specs.Parts.{fits, pattern_bound}
use Rattle.eval_rules.specs.Eval.{Calls, eval, eval_step, eval_steps, eval_chain, eval_rest, eval_all, eval_arms, enter, turn, turns}
use Rattle.eval_parts.specs.Worlds.{Agrees}
use Rattle.eval_trees.specs.Inside.{here_now, calls_now}
use Rattle.eval_trees.specs.declared.setting.Setting.{Setting}

-- ---- lists

-- what is left from an element on
pub front : {X : Type 0} (xs : List X) (i : ℕ) (x : X) → i < length xs → x ≡ get_or xs i x → drop i xs ≡ x ∷ drop (i + 1) xs
front xs i x within is = drop_more xs i x within ∙ ap (λ y. y ∷ drop (i + 1) xs) (sym is)

-- the first element, and the others
pub first_rest : {X : Type 0} (xs : List X) (x : X) → 1 ≤ length xs → x ≡ get_or xs 0 x → xs ≡ x ∷ take (length xs - 1) (drop 1 xs)
first_rest [] x many is = absurd (omega (arith, many))
first_rest (y ∷ ys) x many is =
    let n : length (y ∷ ys) - 1 ≡ length ys = omega arith in
    ap (λ z. z ∷ ys) (sym is) ∙ ap (λ zs. x ∷ zs) (sym (ap (λ k. take k ys) n ∙ take_all (length ys) ys (omega arith)))

-- ---- what ends early

-- what ends early doesn't look at the locals
pub ends_within : {X : Type 0} (why : Stop) (l m : List Slot) (n : ℕ) (x : World) (out : Out X) → Agrees {X = X} (Err why) m x out → Agrees {X = X} (Err why) l x (leaves n out)
ends_within (stop.Fault k at) l m n x out h = ap (leaves n) h
ends_within stop.NoAnswer l m n x out h = ap (leaves n) h
ends_within stop.NoMemory l m n x out h = tt

-- of a text
module _ (text : Setting) where
  abbrev here : names.Setting
  here = here_now text

  abbrev calls : Calls
  calls = calls_now text

  module _ (l : List Slot) (w : World) where
    -- ---- chains and arguments

    pub chain_rest : (m : List Slot) (x : World) (ts rest : Trees) (t : Tree) (op : Infix) (v : Value) → ts ≡ some t rest → eval here calls t l w ≡ gives v m x
        → eval_rest here calls rest op v m x ≡ eval_chain here calls ts op l w
    chain_rest m x ts rest t op v is gave =
        sym (ap (λ us. eval_chain here calls us op l w) is ∙ ap (λ o. after o (λ v. eval_rest here calls rest op v)) gave)

    pub rest_rest : (m : List Slot) (x : World) (ts rest : Trees) (t : Tree) (op : Infix) (v u : Value) → ts ≡ some t rest → decides op v ≡ false → eval here calls t l w ≡ gives u m x
        → eval_rest here calls rest op (applied op v u) m x ≡ eval_rest here calls ts op v l w
    rest_rest m x ts rest t op v u is goes_on gave =
        sym (ap (λ us. eval_rest here calls us op v l w) is
        ∙ ap (λ b. (if b then pure v else bind (eval here calls t) (λ u. eval_rest here calls rest op (applied op v u))) l w) goes_on
        ∙ ap (λ o. after o (λ u. eval_rest here calls rest op (applied op v u))) gave)

    pub args_rest : (m : List Slot) (x : World) (ts rest : Trees) (t : Tree) (vs us : List Value) (v : Value) → ts ≡ some t rest → us ≡ vs ++ v ∷ [] → eval here calls t l w ≡ gives v m x
        → eval_all here calls rest us m x ≡ eval_all here calls ts vs l w
    args_rest m x ts rest t vs us v is more gave =
        ap (λ qs. eval_all here calls rest qs m x) more
        ∙ sym (ap (λ qs. eval_all here calls qs vs l w) is ∙ ap (λ o. after o (λ v. eval_all here calls rest (vs ++ v ∷ []))) gave)

    -- ---- arms

    -- an arm that doesn't fit
    pub arms_rest : (cs rest : Cases) (p : Pattern) (body : Tree) (at : ℕ) (v : Value) → cs ≡ case (arm p body) rest → fits here.things p v ≡ false
        → eval_arms here calls rest at v l w ≡ eval_arms here calls cs at v l w
    arms_rest cs rest p body at v is fails =
        sym (ap (λ ds. eval_arms here calls ds at v l w) is
        ∙ ap (λ b. (if b then within (bind (enter here p v) (λ _. eval here calls body)) else eval_arms here calls rest at v) l w) fails)

    -- the one that fits
    pub arms_fit : (k : List Slot) (cs rest : Cases) (p : Pattern) (body : Tree) (at : ℕ) (v : Value) → cs ≡ case (arm p body) rest → fits here.things p v ≡ true
        → k ≡ pattern_bound here.things p v l → leaves (length l) (eval here calls body k w) ≡ eval_arms here calls cs at v l w
    arms_fit k cs rest p body at v is holds bound =
        ap (λ m. leaves (length l) (eval here calls body m w)) bound
        ∙ sym (ap (λ ds. eval_arms here calls ds at v l w) is
        ∙ ap (λ b. (if b then within (bind (enter here p v) (λ _. eval here calls body)) else eval_arms here calls rest at v) l w) holds)

    -- ---- statements

    pub steps_rest : (m : List Slot) (x : World) (ss rest : Steps) (s : Step) (u v : Value) → ss ≡ next s rest → eval_step here calls s l w ≡ gives v m x
        → eval_steps here calls rest v m x ≡ eval_steps here calls ss u l w
    steps_rest m x ss rest s u v is gave =
        sym (ap (λ us. eval_steps here calls us u l w) is ∙ ap (λ o. after o (λ v. eval_steps here calls rest v)) gave)

    -- ---- turns

    module _ (y : Text) (body : Tree) (to i : ℕ) where
      -- what a turn gives
      pub turn_gives : (k q m : List Slot) (x : World) (v : Value) (depth : ℕ) → k ≡ record { name = y; local = local.Counts i } ∷ l → eval here calls body k w ≡ gives v q x
          → depth ≡ length l → m ≡ drop (length q - depth) q → turn here calls y body i l w ≡ gives v m x
      turn_gives k q m x v depth is gave deep left =
          ap (λ j. leaves (length l) (eval here calls body j w)) (sym is) ∙ ap (leaves (length l)) gave
          ∙ ap (λ n. gives v (drop (length q - n) q) x) (sym deep) ∙ ap (λ j. gives v j x) (sym left)

      pub turns_rest : (m : List Slot) (x : World) (v : Value) → i < to + 1 → turn here calls y body i l w ≡ gives v m x
          → turns (to + 1 - (i + 1)) (i + 1) (turn here calls y body) m x ≡ turns (to + 1 - i) i (turn here calls y body) l w
      turns_rest m x v below gave =
          let e : to + 1 - i ≡ suc (to + 1 - (i + 1)) = omega (arith, below) in
          sym (ap (λ n. turns n i (turn here calls y body) l w) e ∙ ap (λ o. after o (λ _. turns (to + 1 - (i + 1)) (i + 1) (turn here calls y body))) gave)
