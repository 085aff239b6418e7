-- What an expression calls lies above it, and has a lower height.
use Rattle.std.proofs.Common.{◌≡◌, ℕ, ◌+◌, ◌<◌, ◌≤◌, Bool, true, false, List, [], ◌∷◌, Option, Some, None, refl, sym, ap, ◌∙◌, subst, arith, inl, inr}
use Rattle.std.proofs.Math.Nat.{le-max_left, le-max_right}
use Rattle.std.specs.Prelude.{⊤, ◌⊎◌, max}
use Rattle.sail_syntax.specs.Tree.{Text, Tree, node, Form, unit, lit, truth, name, chain, flip, slice, update, call, widen, choose, when, cases, foreach, check, exit, assign, block, Trees, none, some, Case, arm, Cases, no_case, case, Step, binds, holds, does, Steps, done, next}
use Rattle.sail_syntax.specs.declared.tree.Infix.{Infix}
use Rattle.sail_syntax.specs.declared.types.Ty.{Ty}
use Rattle.sail_syntax.specs.declared.types.Ty.TheVariants as ty
use Rattle.type_rules.specs.declared.scope.Entry.{Entry}
use Rattle.type_rules.specs.declared.scope.Item.{Item}
use Rattle.type_rules.specs.declared.scope.Item.TheVariants as item
use Rattle.type_rules.specs.declared.scope.Slot.{Slot}
use Rattle.type_rules.specs.declared.scope.Local.{Local}
use Rattle.type_rules.specs.declared.scope.Sort.TheVariants.{Holds, Counts}
use Rattle.type_rules.specs.Names.{find, look}
use Rattle.type_rules.specs.Rules.{is_join, between}
use Rattle.type_rules.specs.Judge.{entered}
use Rattle.type_rules.specs.Heights.{Height, height_of, deepest, deepest_form, deepest_all, deepest_arms, deepest_step, deepest_steps, own_height}
use Rattle.type_rules.specs.HasType.{Where, slot_asks, Calls, HasType, FormHas, ChainHas, AllHave, JoinHas, ArgsHave, OthersHave, ArmsHave, RestHave, StepsHave}
use Rattle.type_rules.specs.Calls.{CallsIn, CallsInForm, CallsInAny, CallsInArms, CallsInStep, CallsInSteps}
use Rattle.type_rules.specs.ThereLaws.{IsAbove, CallsAreAbove, HeightsFall}

module _ (globals : List Entry) (here : ℕ) (f : Text) where
  own_call : (g : Text) (i : Option Item) (Args : List Slot → Option Ty → Type 0) → find g globals ≡ i → Calls here i Args → g ≡ f → IsAbove globals here f
  own_call g (Some (item.Function ps r after)) Args e h k = record { params = ps; result = r; after = after; found = subst (λ z. find z globals ≡ Some (item.Function ps r after)) k e; above = h.0 }
  own_call g (Some (item.Register w)) Args e h k = absurd h
  own_call g (Some (item.Member m)) Args e h k = absurd h
  own_call g (Some item.Enum) Args e h k = absurd h
  own_call g None Args e h k = absurd h

  args_call : (i : Option Item) (args : Trees) (scope : List Local) (t : Ty) → Calls here i (λ ps r. ArgsHave globals here args ps r scope t)
      → ((ps : List Slot) (r : Option Ty) → ArgsHave globals here args ps r scope t → IsAbove globals here f) → IsAbove globals here f
  args_call (Some (item.Function ps r after)) args scope t h k = k ps r h.1
  args_call (Some (item.Register w)) args scope t h k = absurd h
  args_call (Some (item.Member m)) args scope t h k = absurd h
  args_call (Some item.Enum) args scope t h k = absurd h
  args_call None args scope t h k = absurd h

  in_chain : (j : Bool) (A B : Type 0) → Where j A B → (A → IsAbove globals here f) → (B → IsAbove globals here f) → IsAbove globals here f
  in_chain true A B h a b = a h
  in_chain false A B h a b = b h

  mutual
    pub above : (e : Tree) (want : Option Ty) (scope : List Local) (t : Ty) → HasType globals here e want scope t → CallsIn f e → IsAbove globals here f
    above (node at form) want scope t h c = form_above form want scope t h c

    form_above : (form : Form) (want : Option Ty) (scope : List Local) (t : Ty) → FormHas globals here form want scope t → CallsInForm f form → IsAbove globals here f
    form_above unit want scope t h c = absurd c
    form_above (lit b) want scope t h c = absurd c
    form_above (truth b) want scope t h c = absurd c
    form_above (name x) want scope t h c = absurd c
    form_above (chain op parts) want scope t h c =
        in_chain (is_join op) (JoinHas globals here parts 0 scope t) (ChainHas globals here parts op scope t) h.1 (λ k. join_above parts 0 scope t k c) (λ k. chain_above parts op scope t k c)
    form_above (flip of) want scope t h c = above of None scope t h.0 c
    form_above (slice of hi lo) want scope t h c = above of None scope (ty.Bits h.0) h.1.0 c
    form_above (update of hi lo by) want scope t h (inl c) = above of None scope (ty.Bits h.0) h.1.0 c
    form_above (update of hi lo by) want scope t h (inr c) = above by (Some (ty.Bits (between hi lo))) scope (ty.Bits (between hi lo)) h.1.2 c
    form_above (call g args) want scope t h (inl c) = own_call g (find g globals) (λ ps r. ArgsHave globals here args ps r scope t) refl h.0 c
    form_above (call g args) want scope t h (inr c) = args_call (find g globals) args scope t h.0 (λ ps r k. args_above args ps r scope t k c)
    form_above (widen signed to of) want scope t h c = above of None scope (ty.Bits h.0) h.1.0 c
    form_above (choose test one other) want scope t h (inl c) = above test (Some ty.Bool) scope ty.Bool h.0 c
    form_above (choose test one other) want scope t h (inr (inl c)) = above one want scope t h.1 c
    form_above (choose test one other) want scope t h (inr (inr c)) = above other (Some t) scope t h.2 c
    form_above (when test one) want scope t h (inl c) = above test (Some ty.Bool) scope ty.Bool h.0 c
    form_above (when test one) want scope t h (inr c) = above one (Some ty.Unit) scope ty.Unit h.1 c
    form_above (cases on arms) want scope t h (inl c) = above on None scope h.0 h.1.0 c
    form_above (cases on arms) want scope t h (inr c) = arms_above arms h.0 want scope t h.1.1 c
    form_above (foreach x from to body) want scope t h c = above body (Some ty.Unit) (record { name = x; sort = Counts from to } ∷ scope) ty.Unit h.1 c
    form_above (check test text) want scope t h c = above test (Some ty.Bool) scope ty.Bool h.0 c
    form_above exit want scope t h c = absurd c
    form_above (assign x by) want scope t h c = above by (Some h.0) scope h.0 h.1.1 c
    form_above (block steps) want scope t h c = steps_above steps want scope t h c

    chain_above : (parts : Trees) (op : Infix) (scope : List Local) (t : Ty) → ChainHas globals here parts op scope t → CallsInAny f parts → IsAbove globals here f
    chain_above none op scope t h c = absurd h
    chain_above (some p rest) op scope t h (inl c) = above p None scope h.0 h.1.0 c
    chain_above (some p rest) op scope t h (inr c) = all_above rest h.0 scope h.1.2 c

    all_above : (parts : Trees) (u : Ty) (scope : List Local) → AllHave globals here parts u scope → CallsInAny f parts → IsAbove globals here f
    all_above none u scope h c = absurd c
    all_above (some p rest) u scope h (inl c) = above p (Some u) scope u h.0 c
    all_above (some p rest) u scope h (inr c) = all_above rest u scope h.1 c

    join_above : (parts : Trees) (total : ℕ) (scope : List Local) (t : Ty) → JoinHas globals here parts total scope t → CallsInAny f parts → IsAbove globals here f
    join_above none total scope t h c = absurd c
    join_above (some p rest) total scope t h (inl c) = above p None scope (ty.Bits h.0) h.1.0 c
    join_above (some p rest) total scope t h (inr c) = join_above rest (total + h.0) scope t h.1.1 c

    args_above : (args : Trees) (ps : List Slot) (r : Option Ty) (scope : List Local) (t : Ty) → ArgsHave globals here args ps r scope t → CallsInAny f args → IsAbove globals here f
    args_above none ps r scope t h c = absurd c
    args_above (some a rest) [] r scope t h c = absurd h
    args_above (some a rest) (q ∷ qs) r scope t h (inl c) = above a (slot_asks q None) scope h.0 h.1.0 c
    args_above (some a rest) (q ∷ qs) r scope t h (inr c) = others_above rest qs h.0 scope h.1.2 c

    others_above : (args : Trees) (ps : List Slot) (one : Ty) (scope : List Local) → OthersHave globals here args ps one scope → CallsInAny f args → IsAbove globals here f
    others_above none ps one scope h c = absurd c
    others_above (some a rest) [] one scope h c = absurd h
    others_above (some a rest) (q ∷ qs) one scope h (inl c) = above a (slot_asks q (Some one)) scope h.0 h.1.0 c
    others_above (some a rest) (q ∷ qs) one scope h (inr c) = others_above rest qs one scope h.1.2 c

    arms_above : (arms : Cases) (u : Ty) (want : Option Ty) (scope : List Local) (t : Ty) → ArmsHave globals here arms u want scope t → CallsInArms f arms → IsAbove globals here f
    arms_above no_case u want scope t h c = absurd h
    arms_above (case (arm p body) rest) u want scope t h (inl c) = above body want (entered globals p (Some u) scope) t h.1 c
    arms_above (case (arm p body) rest) u want scope t h (inr c) = more_above rest u scope t h.2 c

    more_above : (arms : Cases) (u : Ty) (scope : List Local) (t : Ty) → RestHave globals here arms u scope t → CallsInArms f arms → IsAbove globals here f
    more_above no_case u scope t h c = absurd c
    more_above (case (arm p body) rest) u scope t h (inl c) = above body (Some t) (entered globals p (Some u) scope) t h.1 c
    more_above (case (arm p body) rest) u scope t h (inr c) = more_above rest u scope t h.2 c

    steps_above : (steps : Steps) (want : Option Ty) (scope : List Local) (t : Ty) → StepsHave globals here steps want scope t → CallsInSteps f steps → IsAbove globals here f
    steps_above done want scope t h c = absurd c
    steps_above (next (does e) done) want scope t h (inl c) = above e want scope t h c
    steps_above (next (does e) done) want scope t h (inr c) = absurd c
    steps_above (next (does e) (next s rest)) want scope t h (inl c) = above e (Some ty.Unit) scope ty.Unit h.0 c
    steps_above (next (does e) (next s rest)) want scope t h (inr c) = steps_above (next s rest) want scope t h.1 c
    steps_above (next (binds x d by) rest) want scope t h (inl c) = above by d scope h.0 h.1.2 c
    steps_above (next (binds x d by) rest) want scope t h (inr c) = steps_above rest want (record { name = x; sort = Holds (Some h.0) false } ∷ scope) t h.1.3 c
    steps_above (next (holds x d by) rest) want scope t h (inl c) = above by d scope h.0 h.1.2 c
    steps_above (next (holds x d by) rest) want scope t h (inr c) = steps_above rest want (record { name = x; sort = Holds (Some h.0) true } ∷ scope) t h.1.3 c

pub calls_above : CallsAreAbove
calls_above globals here e want scope t f h c = above globals here f e want scope t h c

-- ---- heights

le_trans : (a b c : ℕ) → a ≤ b → b ≤ c → a ≤ c
le_trans a b c h k = omega (arith, h, k)

left_max : (n a b : ℕ) → n ≤ a → n ≤ max a b
left_max n a b h = let k : a ≤ max a b = le-max_left a b in le_trans n a (max a b) h k

right_max : (n a b : ℕ) → n ≤ b → n ≤ max a b
right_max n a b h = let k : b ≤ max a b = le-max_right a b in le_trans n b (max a b) h k

module _ (known : List Height) (f : Text) where
  mutual
    lower : (e : Tree) → CallsIn f e → height_of f known ≤ deepest known e
    lower (node at form) c = form_lower form c

    form_lower : (form : Form) → CallsInForm f form → height_of f known ≤ deepest_form known form
    form_lower unit c = absurd c
    form_lower (lit b) c = absurd c
    form_lower (truth b) c = absurd c
    form_lower (name x) c = absurd c
    form_lower (chain op parts) c = all_lower parts c
    form_lower (flip of) c = lower of c
    form_lower (slice of hi lo) c = lower of c
    form_lower (update of hi lo by) (inl c) = left_max _ (deepest known of) (deepest known by) (lower of c)
    form_lower (update of hi lo by) (inr c) = right_max _ (deepest known of) (deepest known by) (lower by c)
    form_lower (call g args) (inl c) = left_max _ (height_of g known) (deepest_all known args) (subst (λ z. height_of f known ≤ height_of z known) (sym c) (omega arith))
    form_lower (call g args) (inr c) = right_max _ (height_of g known) (deepest_all known args) (all_lower args c)
    form_lower (widen signed to of) c = lower of c
    form_lower (choose test one other) (inl c) = left_max _ (deepest known test) (max (deepest known one) (deepest known other)) (lower test c)
    form_lower (choose test one other) (inr (inl c)) =
        right_max _ (deepest known test) (max (deepest known one) (deepest known other)) (left_max _ (deepest known one) (deepest known other) (lower one c))
    form_lower (choose test one other) (inr (inr c)) =
        right_max _ (deepest known test) (max (deepest known one) (deepest known other)) (right_max _ (deepest known one) (deepest known other) (lower other c))
    form_lower (when test one) (inl c) = left_max _ (deepest known test) (deepest known one) (lower test c)
    form_lower (when test one) (inr c) = right_max _ (deepest known test) (deepest known one) (lower one c)
    form_lower (cases on arms) (inl c) = left_max _ (deepest known on) (deepest_arms known arms) (lower on c)
    form_lower (cases on arms) (inr c) = right_max _ (deepest known on) (deepest_arms known arms) (arms_lower arms c)
    form_lower (foreach x from to body) c = lower body c
    form_lower (check test text) c = lower test c
    form_lower exit c = absurd c
    form_lower (assign x by) c = lower by c
    form_lower (block steps) c = steps_lower steps c

    all_lower : (ts : Trees) → CallsInAny f ts → height_of f known ≤ deepest_all known ts
    all_lower none c = absurd c
    all_lower (some t rest) (inl c) = left_max _ (deepest known t) (deepest_all known rest) (lower t c)
    all_lower (some t rest) (inr c) = right_max _ (deepest known t) (deepest_all known rest) (all_lower rest c)

    arms_lower : (arms : Cases) → CallsInArms f arms → height_of f known ≤ deepest_arms known arms
    arms_lower no_case c = absurd c
    arms_lower (case (arm p body) rest) (inl c) = left_max _ (deepest known body) (deepest_arms known rest) (lower body c)
    arms_lower (case (arm p body) rest) (inr c) = right_max _ (deepest known body) (deepest_arms known rest) (arms_lower rest c)

    step_lower : (s : Step) → CallsInStep f s → height_of f known ≤ deepest_step known s
    step_lower (binds x t by) c = lower by c
    step_lower (holds x t by) c = lower by c
    step_lower (does e) c = lower e c

    steps_lower : (steps : Steps) → CallsInSteps f steps → height_of f known ≤ deepest_steps known steps
    steps_lower done c = absurd c
    steps_lower (next s rest) (inl c) = left_max _ (deepest_step known s) (deepest_steps known rest) (step_lower s c)
    steps_lower (next s rest) (inr c) = right_max _ (deepest_step known s) (deepest_steps known rest) (steps_lower rest c)

pub heights_fall : HeightsFall
heights_fall known body f c = let h = lower known f body c in omega (arith, h)
