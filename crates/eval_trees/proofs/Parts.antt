-- The parts of expressions, each with what it passes: what comes first, and what comes after an outcome.
use Rattle.std.proofs.Common.{◌≡◌, ℕ, suc, ◌+◌, ◌-◌, ◌<◌, true, false, List, [], ◌∷◌, ◌++◌, Some, None, map, reverse, inl, inr, sym, ap, ◌∙◌, subst, arith}
use Rattle.std.specs.declared.option.Option.{Option}
use Rattle.std.specs.Prelude.{◌⊎◌, if◌then◌else◌}
use Rattle.sail_syntax.specs.Tree.{Text, Tree, node, update, call, choose, when, cases, foreach, assign, Trees, some, arm, Cases, case, Step, Steps, next}
use Rattle.sail_syntax.specs.View.{tree, step_of, definition_of}
use Rattle.sail_syntax.specs.declared.types.Ty.{Ty}
use Rattle.sail_syntax.specs.declared.tree.Stmt.{Stmt}
use Rattle.sail_syntax.specs.declared.tree.Stmt.TheVariants as the_stmt
use Rattle.sail_syntax.specs.declared.tree.Expr.{Expr}
use Rattle.sail_syntax.specs.declared.tree.Node.TheVariants as the_node
use Rattle.sail_syntax.specs.declared.tree.Index.{Index}
use Rattle.sail_syntax.specs.declared.tree.Infix.{Infix}
use Rattle.sail_syntax.specs.declared.patterns.Pattern.{Pattern}
use Rattle.state_core.specs.World.{World}
use Rattle.sail_values.specs.declared.value.Local.TheVariants as local
use Rattle.sail_values.specs.declared.value.Slot.{Slot}
use Rattle.sail_values.specs.declared.value.Value.{Value}
use Rattle.sail_values.specs.Values.{is_true, applied, decides}
use Rattle.eval_rules.specs.Flow.{gives}
use Rattle.eval_rules.specs.Names as names
use Rattle.eval_rules.specs.Parts.{fits}
use Rattle.sail_names.specs.declared.things.Thing.{Thing}
use Rattle.sail_names.specs.Things.{find_thing}
use Rattle.eval_rules.specs.Eval.{Calls, eval, eval_all, eval_step, enter, turn}
use Rattle.eval_rules.specs.Moments.{Passing, IsPassed, CallMoments, following, still, moments, chain_moments, rest_moments, args_moments, arms_moments, step_moments, steps_moments, turns_moments, name_written, called_moments}
use Rattle.eval_rules.proofs.Passed.{IsPart, part_whole, part_of_part, part_first, part_after}
use Rattle.eval_uses.specs.Uses.{world_in}
use Rattle.eval_uses.proofs.EachLemmas.{each_passed}
use Rattle.eval_trees.specs.Inside.{here_now, calls_now, moments_now, turn_moments}
use Rattle.eval_trees.specs.declared.setting.Setting.{Setting}
use Rattle.eval_trees.proofs.MomentLemmas.{call_part}
use Rattle.eval_trees.proofs.Shown.{tree_choose, tree_when, step_let, step_var}

-- a statement that binds a name: one of the two kinds
abbrev pub IsBinding : Stmt → Text → Expr → Type 0
IsBinding s x by = ((ty : Option Ty) × (s ≡ the_stmt.Let x ty by)) ⊎ ((ty : Option Ty) × (s ≡ the_stmt.Var x ty by))

-- of a text
module _ (text : Setting) where
  abbrev here : names.Setting
  here = here_now text

  abbrev calls : Calls
  calls = calls_now text

  abbrev during : CallMoments
  during = moments_now text

  module _ (l : List Slot) (w : World) where
    -- ---- expressions

    pub update_first : (t of by : Tree) (at : ℕ) (hi lo : Index) → t ≡ node at (update of hi lo by)
        → IsPart w (moments here calls during of l w) w (moments here calls during t l w)
    update_first t of by at hi lo is = subst (λ u. IsPart w (moments here calls during of l w) w (moments here calls during u l w)) (sym is)
        (part_first w (moments here calls during of l w) (following (eval here calls of l w) (λ _. moments here calls during by)))

    pub update_after : (m : List Slot) (x : World) (t of by : Tree) (at : ℕ) (hi lo : Index) (v : Value) → t ≡ node at (update of hi lo by) → eval here calls of l w ≡ gives v m x
        → IsPart x (moments here calls during by m x) w (moments here calls during t l w)
    update_after m x t of by at hi lo v is gave = subst (λ u. IsPart x (moments here calls during by m x) w (moments here calls during u l w)) (sym is)
        (part_after w x (moments here calls during of l w) (λ _. moments here calls during by) v m (eval here calls of l w) gave)

    pub choose_first : (t test one other : Tree) (at : ℕ) → t ≡ node at (choose test one other)
        → IsPart w (moments here calls during test l w) w (moments here calls during t l w)
    choose_first t test one other at is = subst (λ u. IsPart w (moments here calls during test l w) w (moments here calls during u l w)) (sym is)
        (part_first w (moments here calls during test l w)
        (following (eval here calls test l w) (λ v. if is_true v then moments here calls during one else moments here calls during other)))

    pub when_first : (t test one : Tree) (at : ℕ) → t ≡ node at (when test one)
        → IsPart w (moments here calls during test l w) w (moments here calls during t l w)
    when_first t test one at is = subst (λ u. IsPart w (moments here calls during test l w) w (moments here calls during u l w)) (sym is)
        (part_first w (moments here calls during test l w) (following (eval here calls test l w) (λ v. if is_true v then moments here calls during one else still)))

    pub choose_one : (m : List Slot) (x : World) (t test one other : Tree) (at : ℕ) (v : Value) → t ≡ node at (choose test one other) → eval here calls test l w ≡ gives v m x → is_true v ≡ true
        → IsPart x (moments here calls during one m x) w (moments here calls during t l w)
    choose_one m x t test one other at v is gave holds =
        subst (λ u. IsPart x (moments here calls during one m x) w (moments here calls during u l w)) (sym is)
        (subst (λ b. IsPart x ((if b then moments here calls during one else moments here calls during other) m x) w (moments here calls during (node at (choose test one other)) l w)) holds
        (part_after w x (moments here calls during test l w) (λ v. if is_true v then moments here calls during one else moments here calls during other) v m (eval here calls test l w) gave))

    pub choose_other : (m : List Slot) (x : World) (t test one other : Tree) (at : ℕ) (v : Value) → t ≡ node at (choose test one other) → eval here calls test l w ≡ gives v m x → is_true v ≡ false
        → IsPart x (moments here calls during other m x) w (moments here calls during t l w)
    choose_other m x t test one other at v is gave holds =
        subst (λ u. IsPart x (moments here calls during other m x) w (moments here calls during u l w)) (sym is)
        (subst (λ b. IsPart x ((if b then moments here calls during one else moments here calls during other) m x) w (moments here calls during (node at (choose test one other)) l w)) holds
        (part_after w x (moments here calls during test l w) (λ v. if is_true v then moments here calls during one else moments here calls during other) v m (eval here calls test l w) gave))

    pub when_one : (m : List Slot) (x : World) (t test one : Tree) (at : ℕ) (v : Value) → t ≡ node at (when test one) → eval here calls test l w ≡ gives v m x → is_true v ≡ true
        → IsPart x (moments here calls during one m x) w (moments here calls during t l w)
    when_one m x t test one at v is gave holds =
        subst (λ u. IsPart x (moments here calls during one m x) w (moments here calls during u l w)) (sym is)
        (subst (λ b. IsPart x ((if b then moments here calls during one else still) m x) w (moments here calls during (node at (when test one)) l w)) holds
        (part_after w x (moments here calls during test l w) (λ v. if is_true v then moments here calls during one else still) v m (eval here calls test l w) gave))

    pub cases_first : (t on : Tree) (arms : Cases) (at : ℕ) → t ≡ node at (cases on arms)
        → IsPart w (moments here calls during on l w) w (moments here calls during t l w)
    cases_first t on arms at is = subst (λ u. IsPart w (moments here calls during on l w) w (moments here calls during u l w)) (sym is)
        (part_first w (moments here calls during on l w) (following (eval here calls on l w) (λ v. arms_moments here calls during arms v)))

    pub cases_after : (m : List Slot) (x : World) (t on : Tree) (arms : Cases) (at : ℕ) (v : Value) → t ≡ node at (cases on arms) → eval here calls on l w ≡ gives v m x
        → IsPart x (arms_moments here calls during arms v m x) w (moments here calls during t l w)
    cases_after m x t on arms at v is gave = subst (λ u. IsPart x (arms_moments here calls during arms v m x) w (moments here calls during u l w)) (sym is)
        (part_after w x (moments here calls during on l w) (λ v. arms_moments here calls during arms v) v m (eval here calls on l w) gave)

    pub assign_first : (t by : Tree) (at : ℕ) (y : Text) → t ≡ node at (assign y by)
        → IsPart w (moments here calls during by l w) w (moments here calls during t l w)
    assign_first t by at y is = subst (λ u. IsPart w (moments here calls during by l w) w (moments here calls during u l w)) (sym is)
        (part_first w (moments here calls during by l w) (following (eval here calls by l w) (λ v. name_written here.things y v)))

    -- a call: its arguments, and then itself
    pub call_whole : (t : Tree) (ts : Trees) (at : ℕ) (f : Text) → t ≡ node at (call f ts)
        → IsPart w (args_moments here calls during ts [] (called_moments here during (find_thing f here.things)) l w) w (moments here calls during t l w)
    call_whole t ts at f is =
        subst (λ u. IsPart w (args_moments here calls during ts [] (called_moments here during (find_thing f here.things)) l w) w (moments here calls during u l w)) (sym is)
        (part_whole w (args_moments here calls during ts [] (called_moments here during (find_thing f here.things)) l w))

    pub call_after : (m : List Slot) (x : World) (t : Tree) (ts : Trees) (at : ℕ) (f : Text) (thing : Option Thing) (vs us : List Value) → t ≡ node at (call f ts)
        → thing ≡ find_thing f here.things → us ≡ vs → eval_all here calls ts [] l w ≡ gives vs m x
        → IsPart x (called_moments here during thing us m x) w (moments here calls during t l w)
    call_after m x t ts at f thing vs us is same values gave =
        subst (λ o. IsPart x (called_moments here during o us m x) w (moments here calls during t l w)) (sym same)
        (subst (λ qs. IsPart x (called_moments here during (find_thing f here.things) qs m x) w (moments here calls during t l w)) (sym values)
        (part_of_part (call_part here calls during (called_moments here during (find_thing f here.things)) ts [] vs l m w x gave) (call_whole t ts at f is)))

    -- a foreach
    pub turns_whole : (t body : Tree) (at : ℕ) (y : Text) (from to : ℕ) → t ≡ node at (foreach y from to body)
        → IsPart w (turns_moments (to + 1 - from) from (turn here calls y body) (turn_moments here calls during y body) l w) w (moments here calls during t l w)
    turns_whole t body at y from to is =
        subst (λ u. IsPart w (turns_moments (to + 1 - from) from (turn here calls y body) (turn_moments here calls during y body) l w) w (moments here calls during u l w)) (sym is)
        (part_whole w (turns_moments (to + 1 - from) from (turn here calls y body) (turn_moments here calls during y body) l w))

    -- ---- chains

    pub chain_first : (ts rest : Trees) (t : Tree) (op : Infix) → ts ≡ some t rest
        → IsPart w (moments here calls during t l w) w (chain_moments here calls during ts op l w)
    chain_first ts rest t op is = subst (λ us. IsPart w (moments here calls during t l w) w (chain_moments here calls during us op l w)) (sym is)
        (part_first w (moments here calls during t l w) (following (eval here calls t l w) (λ v. rest_moments here calls during rest op v)))

    pub chain_after : (m : List Slot) (x : World) (ts rest : Trees) (t : Tree) (op : Infix) (v : Value) → ts ≡ some t rest → eval here calls t l w ≡ gives v m x
        → IsPart x (rest_moments here calls during rest op v m x) w (chain_moments here calls during ts op l w)
    chain_after m x ts rest t op v is gave = subst (λ us. IsPart x (rest_moments here calls during rest op v m x) w (chain_moments here calls during us op l w)) (sym is)
        (part_after w x (moments here calls during t l w) (λ v. rest_moments here calls during rest op v) v m (eval here calls t l w) gave)

    -- the rest of a chain that isn't decided
    rest_is : (ts rest : Trees) (t : Tree) (op : Infix) (v : Value) → ts ≡ some t rest → decides op v ≡ false
        → rest_moments here calls during ts op v l w ≡ moments here calls during t l w ++ following (eval here calls t l w) (λ u. rest_moments here calls during rest op (applied op v u))
    rest_is ts rest t op v is goes_on =
        ap (λ us. rest_moments here calls during us op v l w) is
        ∙ ap (λ b. (if b then still else (λ (k : List Slot) (y : World). moments here calls during t k y ++ following (eval here calls t k y) (λ u. rest_moments here calls during rest op (applied op v u)))) l w) goes_on

    pub rest_first : (ts rest : Trees) (t : Tree) (op : Infix) (v : Value) → ts ≡ some t rest → decides op v ≡ false
        → IsPart w (moments here calls during t l w) w (rest_moments here calls during ts op v l w)
    rest_first ts rest t op v is goes_on = subst (λ ms. IsPart w (moments here calls during t l w) w ms) (sym (rest_is ts rest t op v is goes_on))
        (part_first w (moments here calls during t l w) (following (eval here calls t l w) (λ u. rest_moments here calls during rest op (applied op v u))))

    pub rest_after : (m : List Slot) (x : World) (ts rest : Trees) (t : Tree) (op : Infix) (v u : Value) → ts ≡ some t rest → decides op v ≡ false → eval here calls t l w ≡ gives u m x
        → IsPart x (rest_moments here calls during rest op (applied op v u) m x) w (rest_moments here calls during ts op v l w)
    rest_after m x ts rest t op v u is goes_on gave =
        subst (λ ms. IsPart x (rest_moments here calls during rest op (applied op v u) m x) w ms) (sym (rest_is ts rest t op v is goes_on))
        (part_after w x (moments here calls during t l w) (λ u. rest_moments here calls during rest op (applied op v u)) u m (eval here calls t l w) gave)

    -- ---- arguments

    module _ (call : List Value → Passing) where
      pub args_first : (ts rest : Trees) (t : Tree) (vs : List Value) → ts ≡ some t rest
          → IsPart w (moments here calls during t l w) w (args_moments here calls during ts vs call l w)
      args_first ts rest t vs is = subst (λ us. IsPart w (moments here calls during t l w) w (args_moments here calls during us vs call l w)) (sym is)
          (part_first w (moments here calls during t l w) (following (eval here calls t l w) (λ v. args_moments here calls during rest (vs ++ v ∷ []) call)))

      pub args_after : (m : List Slot) (x : World) (ts rest : Trees) (t : Tree) (vs us : List Value) (v : Value) → ts ≡ some t rest → us ≡ vs ++ v ∷ [] → eval here calls t l w ≡ gives v m x
          → IsPart x (args_moments here calls during rest us call m x) w (args_moments here calls during ts vs call l w)
      args_after m x ts rest t vs us v is more gave =
          subst (λ qs. IsPart x (args_moments here calls during rest us call m x) w (args_moments here calls during qs vs call l w)) (sym is)
          (subst (λ qs. IsPart x (args_moments here calls during rest qs call m x) w (args_moments here calls during (some t rest) vs call l w)) (sym more)
          (part_after w x (moments here calls during t l w) (λ v. args_moments here calls during rest (vs ++ v ∷ []) call) v m (eval here calls t l w) gave))

    -- ---- arms

    -- an arm that doesn't fit
    pub arms_over : (cs rest : Cases) (p : Pattern) (body : Tree) (v : Value) → cs ≡ case (arm p body) rest → fits here.things p v ≡ false
        → IsPart w (arms_moments here calls during rest v l w) w (arms_moments here calls during cs v l w)
    arms_over cs rest p body v is fails =
        subst (λ ds. IsPart w (arms_moments here calls during rest v l w) w (arms_moments here calls during ds v l w)) (sym is)
        (subst (λ b. IsPart w (arms_moments here calls during rest v l w) w
        ((if b then (λ (k : List Slot) (y : World). following (enter here p v k y) (λ _. moments here calls during body)) else arms_moments here calls during rest v) l w)) (sym fails)
        (part_whole w (arms_moments here calls during rest v l w)))

    -- the one that fits
    pub arms_body : (m : List Slot) (x : World) (cs rest : Cases) (p : Pattern) (body : Tree) (v u : Value) → cs ≡ case (arm p body) rest → fits here.things p v ≡ true → enter here p v l w ≡ gives u m x
        → IsPart x (moments here calls during body m x) w (arms_moments here calls during cs v l w)
    arms_body m x cs rest p body v u is holds gave =
        subst (λ ds. IsPart x (moments here calls during body m x) w (arms_moments here calls during ds v l w)) (sym is)
        (subst (λ b. IsPart x (moments here calls during body m x) w
        ((if b then (λ (k : List Slot) (y : World). following (enter here p v k y) (λ _. moments here calls during body)) else arms_moments here calls during rest v) l w)) (sym holds)
        (part_after w x [] (λ _. moments here calls during body) u m (enter here p v l w) gave))

    -- ---- statements

    pub steps_first : (ss rest : Steps) (s : Step) → ss ≡ next s rest
        → IsPart w (step_moments here calls during s l w) w (steps_moments here calls during ss l w)
    steps_first ss rest s is = subst (λ us. IsPart w (step_moments here calls during s l w) w (steps_moments here calls during us l w)) (sym is)
        (part_first w (step_moments here calls during s l w) (following (eval_step here calls s l w) (λ _. steps_moments here calls during rest)))

    pub steps_after : (m : List Slot) (x : World) (ss rest : Steps) (s : Step) (v : Value) → ss ≡ next s rest → eval_step here calls s l w ≡ gives v m x
        → IsPart x (steps_moments here calls during rest m x) w (steps_moments here calls during ss l w)
    steps_after m x ss rest s v is gave = subst (λ us. IsPart x (steps_moments here calls during rest m x) w (steps_moments here calls during us l w)) (sym is)
        (part_after w x (step_moments here calls during s l w) (λ _. steps_moments here calls during rest) v m (eval_step here calls s l w) gave)

    -- ---- turns

    module _ (y : Text) (body : Tree) (to i : ℕ) (below : i < to + 1) where
      turns_is : turns_moments (to + 1 - i) i (turn here calls y body) (turn_moments here calls during y body) l w
          ≡ turn_moments here calls during y body i l w
          ++ following (turn here calls y body i l w) (λ _. turns_moments (to + 1 - (i + 1)) (i + 1) (turn here calls y body) (turn_moments here calls during y body))
      turns_is =
          let e : to + 1 - i ≡ suc (to + 1 - (i + 1)) = omega (arith, below) in
          ap (λ n. turns_moments n i (turn here calls y body) (turn_moments here calls during y body) l w) e

      pub turns_first : (k : List Slot) → k ≡ record { name = y; local = local.Counts i } ∷ l
          → IsPart w (moments here calls during body k w) w (turns_moments (to + 1 - i) i (turn here calls y body) (turn_moments here calls during y body) l w)
      turns_first k is = subst (λ ms. IsPart w (moments here calls during body k w) w ms) (sym turns_is)
          (subst (λ q. IsPart w (moments here calls during body q w) w
          (turn_moments here calls during y body i l w
          ++ following (turn here calls y body i l w) (λ _. turns_moments (to + 1 - (i + 1)) (i + 1) (turn here calls y body) (turn_moments here calls during y body)))) (sym is)
          (part_first w (turn_moments here calls during y body i l w)
          (following (turn here calls y body i l w) (λ _. turns_moments (to + 1 - (i + 1)) (i + 1) (turn here calls y body) (turn_moments here calls during y body)))))

      pub turns_after : (m : List Slot) (x : World) (v : Value) → turn here calls y body i l w ≡ gives v m x
          → IsPart x (turns_moments (to + 1 - (i + 1)) (i + 1) (turn here calls y body) (turn_moments here calls during y body) m x) w
          (turns_moments (to + 1 - i) i (turn here calls y body) (turn_moments here calls during y body) l w)
      turns_after m x v gave =
          subst (λ ms. IsPart x (turns_moments (to + 1 - (i + 1)) (i + 1) (turn here calls y body) (turn_moments here calls during y body) m x) w ms) (sym turns_is)
          (part_after w x (turn_moments here calls during y body i l w)
          (λ _. turns_moments (to + 1 - (i + 1)) (i + 1) (turn here calls y body) (turn_moments here calls during y body)) v m (turn here calls y body i l w) gave)

  -- ---- ifs, with an else or without

  module _ (l : List Slot) (w : World) (e test one : Expr) where
    pub if_first : (o : Option Expr) → e.node ≡ the_node.If test one o → IsPart w (moments here calls during (tree test) l w) w (moments here calls during (tree e) l w)
    if_first (Some other) is = choose_first l w (tree e) (tree test) (tree one) (tree other) e.at (tree_choose e test one other is)
    if_first None is = when_first l w (tree e) (tree test) (tree one) e.at (tree_when e test one is)

    pub if_one : (m : List Slot) (x : World) (v : Value) (o : Option Expr) → e.node ≡ the_node.If test one o → eval here calls (tree test) l w ≡ gives v m x → is_true v ≡ true
        → IsPart x (moments here calls during (tree one) m x) w (moments here calls during (tree e) l w)
    if_one m x v (Some other) is gave holds = choose_one l w m x (tree e) (tree test) (tree one) (tree other) e.at v (tree_choose e test one other is) gave holds
    if_one m x v None is gave holds = when_one l w m x (tree e) (tree test) (tree one) e.at v (tree_when e test one is) gave holds

  -- ---- statements that bind a name

  module _ (l : List Slot) (w : World) where
    -- it passes what its expression does
    pub binding_whole : (s : Stmt) (x : Text) (by : Expr) → IsBinding s x by → IsPart w (moments here calls during (tree by) l w) w (step_moments here calls during (step_of s) l w)
    binding_whole s x by (inl h) =
        subst (λ q. IsPart w (moments here calls during (tree by) l w) w (step_moments here calls during q l w)) (sym (step_let s x h.0 by h.1)) (part_whole w (moments here calls during (tree by) l w))
    binding_whole s x by (inr h) =
        subst (λ q. IsPart w (moments here calls during (tree by) l w) w (step_moments here calls during q l w)) (sym (step_var s x h.0 by h.1)) (part_whole w (moments here calls during (tree by) l w))

  -- the world that is reached is passed
  module _ (l m : List Slot) (w x : World) where
    pub reached_passed : (t : Tree) (v : Value) → eval here calls t l w ≡ gives v m x → IsPassed x w (moments here calls during t l w)
    reached_passed t v gave =
        subst (λ o. IsPassed (world_in o) w (moments here calls during t l w)) gave (each_passed.expressions here (reverse (map definition_of text.defs.now)) t l w)
