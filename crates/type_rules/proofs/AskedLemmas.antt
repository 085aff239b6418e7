-- A type that is asked for is the one that is given.
use Rattle.std.proofs.Common.{◌≡◌, ℕ, ◌+◌, Bool, true, false, List, [], ◌∷◌, Option, Some, None, refl, sym, ap, ◌∙◌, subst}
use Rattle.std.specs.Prelude.{⊤}
use Rattle.sail_syntax.specs.Tree.{Text, Tree, node, Form, unit, lit, truth, name, chain, flip, slice, update, call, widen, choose, when, cases, foreach, check, exit, assign, block, Trees, none, some, Case, arm, Cases, no_case, case, Step, binds, holds, does, Steps, done, next}
use Rattle.sail_syntax.specs.declared.types.Ty.{Ty}
use Rattle.sail_syntax.specs.declared.types.Ty.TheVariants as ty
use Rattle.type_rules.specs.declared.scope.Entry.{Entry}
use Rattle.type_rules.specs.declared.scope.Local.{Local}
use Rattle.type_rules.specs.declared.scope.Sort.TheVariants.{Holds, Counts}
use Rattle.type_rules.specs.declared.scope.Ending.{Ending}
use Rattle.type_rules.specs.declared.scope.Ending.TheVariants as ending
use Rattle.type_rules.specs.Judge.{entered}
use Rattle.type_rules.specs.HasType.{Asks, HasType, FormHas, ArmsHave, StepsHave}

-- a block that ends with a declaration or nothing
abbrev pub OpenAt : Steps → Ending → Type 0
OpenAt done ending.Open = ⊤
OpenAt done (ending.Value t) = ⊥
OpenAt (next s rest) e = ⊤

pub open_at : (steps : Steps) → OpenAt steps ending.Open
open_at done = tt
open_at (next s rest) = tt

module _ (globals : List Entry) (here : ℕ) where
  mutual
    pub asked : (e : Tree) (w : Ty) (scope : List Local) (t : Ty) → HasType globals here e (Some w) scope t → w ≡ t
    asked (node at form) w scope t h = form_asked form w scope t h

    form_asked : (form : Form) (w : Ty) (scope : List Local) (t : Ty) → FormHas globals here form (Some w) scope t → w ≡ t
    form_asked unit w scope t h = h.1
    form_asked (lit b) w scope t h = h.2
    form_asked (truth b) w scope t h = h.1
    form_asked (name x) w scope t h = h.1
    form_asked (chain op parts) w scope t h = h.2
    form_asked (flip of) w scope t h = h.2
    form_asked (slice of hi lo) w scope t h = h.1.3
    form_asked (update of hi lo by) w scope t h = h.1.4
    form_asked (call f args) w scope t h = h.1
    form_asked (widen signed to of) w scope t h = h.1.4
    form_asked (choose test one other) w scope t h = asked one w scope t h.1
    form_asked (when test one) w scope t h = h.3
    form_asked (cases on arms) w scope t h = arms_asked arms h.0 w scope t h.1.1
    form_asked (foreach x from to body) w scope t h = h.3
    form_asked (check test text) w scope t h = h.2
    form_asked exit w scope t h = sym h
    form_asked (assign x by) w scope t h = h.1.3
    form_asked (block steps) w scope t h = steps_asked steps w scope t h

    arms_asked : (arms : Cases) (u w : Ty) (scope : List Local) (t : Ty) → ArmsHave globals here arms u (Some w) scope t → w ≡ t
    arms_asked no_case u w scope t h = absurd h
    arms_asked (case (arm p body) rest) u w scope t h = asked body w (entered globals p (Some u) scope) t h.1

    steps_asked : (steps : Steps) (w : Ty) (scope : List Local) (t : Ty) → StepsHave globals here steps (Some w) scope t → w ≡ t
    steps_asked done w scope t h = h.1
    steps_asked (next (does e) done) w scope t h = asked e w scope t h
    steps_asked (next (does e) (next s rest)) w scope t h = steps_asked (next s rest) w scope t h.1
    steps_asked (next (binds x d by) rest) w scope t h = steps_asked rest w (record { name = x; sort = Holds (Some h.0) false } ∷ scope) t h.1.3
    steps_asked (next (holds x d by) rest) w scope t h = steps_asked rest w (record { name = x; sort = Holds (Some h.0) true } ∷ scope) t h.1.3

  -- what the place asks for
  pub asks_of : (e : Tree) (want : Option Ty) (scope : List Local) (t : Ty) → HasType globals here e want scope t → Asks want t
  asks_of e None scope t h = tt
  asks_of e (Some w) scope t h = asked e w scope t h
