-- What an evaluation ends with, one step after another.
use Rattle.std.proofs.Common.{◌≡◌, ℕ, suc, ◌-◌, List, [], ◌∷◌, ◌++◌, length, drop, refl, ap, sym, ◌∙◌, subst, arith, append_assoc, length-append}
use Rattle.std.proofs.Math.Seq.{drop-append_seam}
use Rattle.sail_syntax.specs.Program.{Definition}
use Rattle.state_core.specs.World.{World}
use Rattle.sail_values.specs.declared.value.Slot.{Slot}
use Rattle.type_rules.specs.declared.scope.Local.{Local as Typed}
use Rattle.eval_rules.specs.Flow.{Out, gives, stops, Meaning, after, bind, pure, leaves, within}
use Rattle.eval_types.specs.Types.{LocalsFit, StateFits}
use Rattle.eval_types.specs.Keeps.{Ends}

module _ (defs : List Definition) where
  -- from locals that fit, in a state that fits, it ends with such ones
  abbrev pub Keeps : {X : Type 0} → List Typed → (X → Type 0) → Meaning X → Type 0
  Keeps scope P m = (locals : List Slot) (world : World) → LocalsFit defs locals scope → StateFits defs world.state → Ends defs (λ after. LocalsFit defs after scope) P (m locals world)

  -- locals that fit, behind others
  pub record Behind (scope : List Typed) (locals : List Slot) : Type 0 where
    pub front : List Slot
    pub back : List Slot
    pub is : locals ≡ front ++ back
    pub fit : LocalsFit defs back scope

  -- it ends with locals behind which those stand that fit
  abbrev pub Enters : {X : Type 0} → List Typed → (X → Type 0) → Meaning X → Type 0
  Enters scope P m = (locals : List Slot) (world : World) → LocalsFit defs locals scope → StateFits defs world.state → Ends defs (Behind scope) P (m locals world)

  pub after_of : {X Y : Type 0} (L M : List Slot → Type 0) (P : X → Type 0) (Q : Y → Type 0) (o : Out X) (f : X → Meaning Y) → Ends defs L P o
      → ((x : X) (locals : List Slot) (world : World) → P x → L locals → StateFits defs world.state → Ends defs M Q (f x locals world)) → Ends defs M Q (after o f)
  after_of L M P Q (gives x locals world) f e g = g x locals world e.0 e.1 e.2
  after_of L M P Q (stops why world) f e g = e

  -- the same of what was given, in another way
  pub ends_map : {X : Type 0} (L M : List Slot → Type 0) (P Q : X → Type 0) (o : Out X) → Ends defs L P o → ((locals : List Slot) → L locals → M locals) → ((x : X) → P x → Q x) → Ends defs M Q o
  ends_map L M P Q (gives x locals world) e f g = (g x e.0, f locals e.1, e.2)
  ends_map L M P Q (stops why world) e f g = e

  pub pure_of : {X : Type 0} (scope : List Typed) (P : X → Type 0) (x : X) → P x → Keeps scope P (pure x)
  pure_of scope P x p locals world h s = (p, h, s)

  pub bind_of : {X Y : Type 0} (scope : List Typed) (P : X → Type 0) (Q : Y → Type 0) (m : Meaning X) (f : X → Meaning Y) → Keeps scope P m → ((x : X) → P x → Keeps scope Q (f x)) → Keeps scope Q (bind m f)
  bind_of scope P Q m f a b locals world h s =
      after_of (λ after. LocalsFit defs after scope) (λ after. LocalsFit defs after scope) P Q (m locals world) f (a locals world h s) (λ x ls w p l t. b x p ls w l t)

  -- ---- blocks

  pub same_length : (locals : List Slot) (scope : List Typed) → LocalsFit defs locals scope → length locals ≡ length scope
  same_length [] [] h = refl
  same_length [] (d ∷ scope) h = absurd h
  same_length (s ∷ locals) [] h = absurd h
  same_length (s ∷ locals) (d ∷ scope) h = ap suc (same_length locals scope h.2)

  pub fits_behind : (scope : List Typed) (locals : List Slot) → LocalsFit defs locals scope → Behind scope locals
  fits_behind scope locals h = record { front = []; back = locals; is = refl; fit = h }

  pub one_less : (d : Typed) (scope : List Typed) (locals : List Slot) → Behind (d ∷ scope) locals → Behind scope locals
  one_less d scope locals h = step h.back h.is h.fit
    where
      step : (back : List Slot) → locals ≡ h.front ++ back → LocalsFit defs back (d ∷ scope) → Behind scope locals
      step [] e f = absurd f
      step (s ∷ back) e f = record { front = h.front ++ s ∷ []; back = back; is = e ∙ sym (append_assoc h.front (s ∷ []) back); fit = f.2 }

  rest_is : (front back : List Slot) (n : ℕ) → n ≡ length back → drop (length (front ++ back) - n) (front ++ back) ≡ back
  rest_is front back n e =
      let k : length (front ++ back) - n ≡ length front = omega (arith, length-append front back, e) in
      ap (λ m. drop m (front ++ back)) k ∙ drop-append_seam front back

  leaves_of : {X : Type 0} (scope : List Typed) (P : X → Type 0) (n : ℕ) (o : Out X) → n ≡ length scope → Ends defs (Behind scope) P o → Ends defs (λ after. LocalsFit defs after scope) P (leaves n o)
  leaves_of scope P n (gives x locals world) e h =
      let b = h.1 in
      let r = ap (λ l. drop (length l - n) l) b.is ∙ rest_is b.front b.back n (e ∙ sym (same_length b.back scope b.fit)) in
      (h.0, subst (λ l. LocalsFit defs l scope) (sym r) b.fit, h.2)
  leaves_of scope P n (stops why world) e h = h

  pub within_of : {X : Type 0} (scope : List Typed) (P : X → Type 0) (m : Meaning X) → Enters scope P m → Keeps scope P (within m)
  within_of scope P m a locals world h s = leaves_of scope P (length locals) (m locals world) (same_length locals scope h) (a locals world h s)
