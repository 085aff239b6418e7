-- Uses one after the other, and the parts of typed expressions.
use Rattle.std.proofs.Common.{◌≡◌, ℕ, ◌+◌, Bool, true, false, List, [], ◌∷◌, ◌++◌, Option, Some, None, refl, sym, ap, ◌∙◌}
use Rattle.std.specs.Prelude.{⊤, if◌then◌else◌}
use Rattle.sail_syntax.specs.Tree.{Text, Tree, Trees, none, some, arm, Cases, no_case, case, binds, holds, does, Steps, done, next}
use Rattle.sail_syntax.specs.Program.{Definition}
use Rattle.sail_syntax.specs.declared.tree.Infix.{Infix}
use Rattle.sail_syntax.specs.declared.types.Ty.{Ty}
use Rattle.sail_syntax.specs.declared.types.Ty.TheVariants as ty
use Rattle.state_core.specs.World.{World}
use Rattle.sail_values.specs.declared.value.Slot.{Slot}
use Rattle.sail_values.specs.declared.value.Local.TheVariants as local
use Rattle.sail_values.specs.declared.value.Value.{Value}
use Rattle.type_rules.specs.declared.scope.Slot.{Slot as Asked}
use Rattle.type_rules.specs.declared.scope.Sort.TheVariants.{Holds}
use Rattle.type_rules.specs.declared.scope.Local.{Local as Typed}
use Rattle.type_rules.specs.Names.{globals_of}
use Rattle.type_rules.specs.Judge.{entered}
use Rattle.type_rules.specs.HasType.{Where, PatternFits, HasType, ChainHas, AllHave, JoinHas, ArgsHave, OthersHave, ArmsHave, RestHave, StepsHave}
use Rattle.eval_rules.specs.Flow.{Out, gives, stops, Meaning, after}
use Rattle.eval_rules.specs.Names.{define}
use Rattle.eval_rules.specs.Moments.{Use, Moment, Passing, following, used_at, reads, writes, accesses, passes, Did, uses_in}
use Rattle.eval_types.specs.Types.{IsOfType, LocalsFit}
use Rattle.eval_types.specs.Keeps.{Ends}
use Rattle.sym_rules.specs.Trees.{SymTree, leaf, naming, on, split, fails, onto}
use Rattle.sym_uses.proofs.Covers.{uses_behind, IfGives}

-- ---- uses one after the other

used_append : (m : Moment) (us vs : List Use) → used_at m.did (us ++ vs) ≡ used_at m.did us ++ vs
used_append m us vs = step m.did
  where
    step : (d : Did) → used_at d (us ++ vs) ≡ used_at d us ++ vs
    step (reads r) = refl
    step (writes r) = refl
    step accesses = refl
    step passes = refl

pub uses_append : (ms ns : List Moment) → uses_in (ms ++ ns) ≡ uses_in ms ++ uses_in ns
uses_append [] ns = refl
uses_append (m ∷ ms) ns = ap (used_at m.did) (uses_append ms ns) ∙ used_append m (uses_in ms) (uses_in ns)

pub uses_follow : {A : Type 0} (o : Out A) (g : A → Passing) → uses_in (following o g) ≡ uses_behind o (λ a l w. uses_in (g a l w))
uses_follow (gives a l w) g = refl
uses_follow (stops why w) g = refl

-- the uses of one evaluation and of what comes behind it
pub uses_joined : {A : Type 0} (ms : List Moment) (o : Out A) (g : A → Passing) → uses_in ms ++ uses_behind o (λ a l w. uses_in (g a l w)) ≡ uses_in (ms ++ following o g)
uses_joined ms o g = ap (λ us. uses_in ms ++ us) (sym (uses_follow o g)) ∙ sym (uses_append ms (following o g))

pub uses_if : (c : Bool) (m n : Passing) (l : List Slot) (w : World) → (if c then uses_in (m l w) else uses_in (n l w)) ≡ uses_in ((if c then m else n) l w)
uses_if true m n l w = refl
uses_if false m n l w = refl

-- trees joined twice
pub onto_assoc : {L M N : Type 0} (t : SymTree L) (f : L → SymTree M) (g : M → SymTree N) → onto (onto t f) g ≡ onto t (λ l. onto (f l) g)
unfolding onto
onto_assoc (leaf l) f g = refl
onto_assoc (naming ms t) f g = ap (naming ms) (onto_assoc t f g)
onto_assoc (on e t) f g = ap (on e) (onto_assoc t f g)
onto_assoc (split a b) f g = ap (λ t. split t (onto (onto b f) g)) (onto_assoc a f g) ∙ ap (split (onto a (λ l. onto (f l) g))) (onto_assoc b f g)
onto_assoc (fails k) f g = refl

-- ---- what evaluation gives, of types

pub ends_given : (defs : List Definition) {A : Type 0} (L : List Slot → Type 0) (P : A → Type 0) (o : Out A) → Ends defs L P o → IfGives o (λ a l w. P a × L l)
ends_given defs L P (gives a l w) e = (e.0, e.1)
ends_given defs L P (stops why w) e = tt

pub with_rest : (defs : List Definition) {A B : Type 0} (F : A → List Slot → World → Type 0) (L : List Slot → Type 0) (P : B → Type 0) (k : A → Meaning B) (o : Out A) → IfGives o F → Ends defs L P (after o k)
    → IfGives o (λ a l w. F a l w × Ends defs L P (k a l w))
with_rest defs F L P k (gives a l w) f e = (f, e)
with_rest defs F L P k (stops why w) f e = tt

pub defined_given : (defs : List Definition) (y : Text) (u : Ty) (m : Bool) (scope : List Typed) (o : Out Value) → IfGives o (λ a l w. IsOfType defs a u × LocalsFit defs l scope)
    → IfGives (after o (λ v. define y (local.Is v))) (λ a l w. LocalsFit defs l (record { name = y; sort = Holds (Some u) m } ∷ scope))
defined_given defs y u m scope (gives a l w) e = (refl, e.0, e.1)
defined_given defs y u m scope (stops why w) e = tt

-- ---- parts that are typed, whatever their types

module _ (defs : List Definition) (n : ℕ) where
  -- an expression has some type
  pub record Has (e : Tree) (scope : List Typed) : Type 0 where
    pub want : Option Ty
    pub type : Ty
    pub has : HasType (globals_of defs) n e want scope type

  abbrev pub AllAre : Trees → List Typed → Type 0
  AllAre none scope = ⊤
  AllAre (some t rest) scope = Has t scope × AllAre rest scope

  abbrev pub ArmsAre : Cases → Ty → List Typed → Type 0
  ArmsAre no_case u scope = ⊤
  ArmsAre (case (arm p body) rest) u scope = PatternFits (globals_of defs) p u × Has body (entered (globals_of defs) p (Some u) scope) × ArmsAre rest u scope

  abbrev pub StepsAre : Steps → List Typed → Type 0
  StepsAre done scope = ⊤
  StepsAre (next (does e) rest) scope = Has e scope × StepsAre rest scope
  StepsAre (next (binds y d by) rest) scope = (u : Ty) × (HasType (globals_of defs) n by d scope u × StepsAre rest (record { name = y; sort = Holds (Some u) false } ∷ scope))
  StepsAre (next (holds y d by) rest) scope = (u : Ty) × (HasType (globals_of defs) n by d scope u × StepsAre rest (record { name = y; sort = Holds (Some u) true } ∷ scope))

  all_are : (ts : Trees) (u : Ty) (scope : List Typed) → AllHave (globals_of defs) n ts u scope → AllAre ts scope
  all_are none u scope h = tt
  all_are (some t rest) u scope h = (record { want = Some u; type = u; has = h.0 }, all_are rest u scope h.1)

  chain_are : (ts : Trees) (op : Infix) (scope : List Typed) (t : Ty) → ChainHas (globals_of defs) n ts op scope t → AllAre ts scope
  chain_are none op scope t h = absurd h
  chain_are (some p rest) op scope t h = (record { want = None; type = h.0; has = h.1.0 }, all_are rest h.0 scope h.1.2)

  join_are : (ts : Trees) (total : ℕ) (scope : List Typed) (t : Ty) → JoinHas (globals_of defs) n ts total scope t → AllAre ts scope
  join_are none total scope t h = tt
  join_are (some p rest) total scope t h = (record { want = None; type = ty.Bits h.0; has = h.1.0 }, join_are rest (total + h.0) scope t h.1.1)

  pub parts_are : (b : Bool) (ts : Trees) (op : Infix) (scope : List Typed) (t : Ty) → Where b (JoinHas (globals_of defs) n ts 0 scope t) (ChainHas (globals_of defs) n ts op scope t) → AllAre ts scope
  parts_are true ts op scope t h = join_are ts 0 scope t h
  parts_are false ts op scope t h = chain_are ts op scope t h

  others_are : (ts : Trees) (qs : List Asked) (u : Ty) (scope : List Typed) → OthersHave (globals_of defs) n ts qs u scope → AllAre ts scope
  others_are none qs u scope h = tt
  others_are (some a rest) [] u scope h = absurd h
  others_are (some a rest) (q ∷ qs) u scope h = (record { want = _; type = h.0; has = h.1.0 }, others_are rest qs u scope h.1.2)

  pub args_are : (ts : Trees) (qs : List Asked) (r : Option Ty) (scope : List Typed) (t : Ty) → ArgsHave (globals_of defs) n ts qs r scope t → AllAre ts scope
  args_are none qs r scope t h = tt
  args_are (some a rest) [] r scope t h = absurd h
  args_are (some a rest) (q ∷ qs) r scope t h = (record { want = _; type = h.0; has = h.1.0 }, others_are rest qs h.0 scope h.1.2)

  rest_are : (arms : Cases) (u : Ty) (scope : List Typed) (t : Ty) → RestHave (globals_of defs) n arms u scope t → ArmsAre arms u scope
  rest_are no_case u scope t h = tt
  rest_are (case (arm p body) rest) u scope t h = (h.0, record { want = Some t; type = t; has = h.1 }, rest_are rest u scope t h.2)

  pub arms_are : (arms : Cases) (u : Ty) (want : Option Ty) (scope : List Typed) (t : Ty) → ArmsHave (globals_of defs) n arms u want scope t → ArmsAre arms u scope
  arms_are no_case u want scope t h = tt
  arms_are (case (arm p body) rest) u want scope t h = (h.0, record { want = want; type = t; has = h.1 }, rest_are rest u scope t h.2)

  pub steps_are : (ss : Steps) (want : Option Ty) (scope : List Typed) (t : Ty) → StepsHave (globals_of defs) n ss want scope t → StepsAre ss scope
  steps_are done want scope t h = tt
  steps_are (next (does e) done) want scope t h = (record { want = want; type = t; has = h }, tt)
  steps_are (next (does e) (next s rest)) want scope t h = (record { want = _; type = _; has = h.0 }, steps_are (next s rest) want scope t h.1)
  steps_are (next (binds y d by) rest) want scope t h = (h.0, (h.1.2, steps_are rest want _ t h.1.3))
  steps_are (next (holds y d by) rest) want scope t h = (h.0, (h.1.2, steps_are rest want _ t h.1.3))
