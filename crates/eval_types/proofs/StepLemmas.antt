-- The small steps of an evaluation, each after its parts.
use Rattle.std.proofs.Common.{◌≡◌, ℕ, zero, suc, ◌+◌, ◌-◌, ◌≤◌, ◌<◌, Bool, true, false, List, [], ◌∷◌, ◌++◌, Some, refl, ap, sym, subst, arith}
use Rattle.std.specs.Prelude.{if◌then◌else◌}
use Rattle.sail_syntax.specs.Tree.{Text}
use Rattle.sail_syntax.specs.Program.{Definition}
use Rattle.sail_syntax.specs.declared.tree.Infix.{Infix}
use Rattle.sail_syntax.specs.declared.tree.Infix.TheVariants as between
use Rattle.sail_syntax.specs.declared.tree.Index.{Index}
use Rattle.sail_syntax.specs.declared.types.Ty.{Ty}
use Rattle.sail_syntax.specs.declared.types.Ty.TheVariants as ty
use Rattle.sail_syntax.specs.declared.types.Param.{Param}
use Rattle.state_core.specs.World.{World}
use Rattle.sail_values.specs.declared.value.Value.{Value}
use Rattle.sail_values.specs.declared.value.Value.TheVariants as value
use Rattle.sail_values.specs.declared.value.Slot.{Slot}
use Rattle.sail_values.specs.declared.value.Local.TheVariants as local
use Rattle.type_rules.specs.declared.scope.Slot.{Slot as Asked}
use Rattle.type_rules.specs.declared.scope.Sort.TheVariants.{Counts}
use Rattle.type_rules.specs.declared.scope.Local.{Local as Typed}
use Rattle.type_rules.specs.Names.{slots_of}
use Rattle.type_rules.specs.Rules.{is_join, between as bits_between}
use Rattle.type_rules.specs.HasType.{AreIndices}
use Rattle.eval_rules.specs.Flow.{Meaning, bind}
use Rattle.eval_rules.specs.Parts.{base_of, index_at, sliced, updated}
use Rattle.eval_rules.specs.Names.{define}
use Rattle.eval_rules.specs.Eval.{slice_now, update_now, turns, counted}
use Rattle.eval_types.specs.Types.{IsOfType, AreOfTypes, LocalsFit, StateFits}
use Rattle.eval_types.specs.Keeps.{Ends}
use Rattle.eval_types.proofs.ValueLemmas.{OfBits, as_bits, from_bits, sliced_of, updated_of}
use Rattle.eval_types.proofs.FlowLemmas.{Keeps, Behind, fits_behind, one_less, ends_map, pure_of, bind_of, within_of}
use Rattle.eval_types.proofs.LocalLemmas.{base_fits}
use Rattle.eval_types.proofs.GivenLemmas.{OthersFit, ArgsFit}

pub is_join_is : (o : Infix) → is_join o ≡ true → o ≡ between.Join
is_join_is between.Join h = refl
is_join_is between.Add h = absurd cc
is_join_is between.Sub h = absurd cc
is_join_is between.Mul h = absurd cc
is_join_is between.And h = absurd cc
is_join_is between.Or h = absurd cc
is_join_is between.Xor h = absurd cc
is_join_is between.Eq h = absurd cc
is_join_is between.Ne h = absurd cc

module _ (defs : List Definition) where
  -- a value of the type
  abbrev pub Is : Ty → Value → Type 0
  Is t v = IsOfType defs v t

  pub choose_kept : (scope : List Typed) (t : Ty) (b : Bool) (m n : Meaning Value) → Keeps defs scope (Is t) m → Keeps defs scope (Is t) n → Keeps defs scope (Is t) (if b then m else n)
  choose_kept scope t true m n f g = f
  choose_kept scope t false m n f g = g

  -- ---- slices and updates

  -- the bits that two indices name
  pub record AreBits (hi lo : Index) (locals : List Slot) (w : ℕ) : Type 0 where
    pub below : index_at hi locals < w
    pub order : index_at lo locals ≤ index_at hi locals
    pub count : bits_between hi lo ≡ index_at hi locals - index_at lo locals + 1

  indices_fit : (hi lo : Index) (scope : List Typed) (w : ℕ) (locals : List Slot) → AreIndices hi lo scope w → LocalsFit defs locals scope → AreBits hi lo locals w
  indices_fit hi lo scope w locals a h =
      let i = base_of hi.var locals in
      let b : hi.plus + i < w = a.inside i (base_fits defs hi.var locals scope h a.there) in
      let e : base_of hi.var locals ≡ base_of lo.var locals = ap (λ x. base_of x locals) a.variable in
      record { below = omega (arith, b); order = omega (arith, e, a.order); count = omega (arith, e, a.order, a.at_most) }

  pub slice_kept : (hi lo : Index) (scope : List Typed) (w : ℕ) (t : Ty) (v : Value) → AreIndices hi lo scope w → t ≡ ty.Bits (bits_between hi lo) → IsOfType defs v (ty.Bits w) → Keeps defs scope (Is t) (slice_now hi lo v)
  slice_kept hi lo scope w t v a e p locals world h s =
      let b = indices_fit hi lo scope w locals a h in
      let r = sliced_of v w (index_at hi locals) (index_at lo locals) (bits_between hi lo) (as_bits defs v w p) b.below b.order b.count in
      (subst (IsOfType defs (sliced v (index_at hi locals) (index_at lo locals))) (sym e) (from_bits defs (sliced v (index_at hi locals) (index_at lo locals)) (bits_between hi lo) r), h, s)

  pub update_kept : (hi lo : Index) (scope : List Typed) (w : ℕ) (t : Ty) (v u : Value) → AreIndices hi lo scope w → t ≡ ty.Bits w → IsOfType defs v (ty.Bits w) → IsOfType defs u (ty.Bits (bits_between hi lo))
      → Keeps defs scope (Is t) (update_now hi lo v u)
  update_kept hi lo scope w t v u a e p q locals world h s =
      let b = indices_fit hi lo scope w locals a h in
      let r = updated_of v u w (index_at hi locals) (index_at lo locals) (as_bits defs v w p) (subst (OfBits u) b.count (as_bits defs u (bits_between hi lo) q)) b.below b.order in
      (subst (IsOfType defs (updated v (index_at hi locals) (index_at lo locals) u)) (sym e) (from_bits defs (updated v (index_at hi locals) (index_at lo locals) u) w r), h, s)

  -- ---- foreach

  -- within a new local
  pub local_kept : (d : Typed) (scope : List Typed) (t : Ty) (locals : List Slot) (world : World) (m : Meaning Value) → LocalsFit defs locals (d ∷ scope) → StateFits defs world.state → Keeps defs (d ∷ scope) (Is t) m
      → Ends defs (Behind defs scope) (Is t) (m locals world)
  local_kept d scope t locals world m h s a =
      ends_map defs (λ after. LocalsFit defs after (d ∷ scope)) (Behind defs scope) (Is t) (Is t) (m locals world) (a locals world h s) (λ ls l. one_less defs d scope ls (fits_behind defs (d ∷ scope) ls l)) (λ x p. p)

  pub counted_kept : (x : Text) (from to i : ℕ) (scope : List Typed) (body : Meaning Value) → from ≤ i → i ≤ to → Keeps defs (record { name = x; sort = Counts from to } ∷ scope) (Is ty.Unit) body → Keeps defs scope (Is ty.Unit) (counted x body i)
  counted_kept x from to i scope body p q a =
      within_of defs scope (Is ty.Unit) (bind (define x (local.Counts i)) (λ _. body))
      (λ locals world h s. local_kept (record { name = x; sort = Counts from to }) scope ty.Unit (record { name = x; local = local.Counts i } ∷ locals) world body (refl, (p, q), h) s a)

  pub turns_kept : (n i : ℕ) (scope : List Typed) (body : ℕ → Meaning Value) (from to : ℕ) → from ≤ i → ((k : ℕ) → k < n → i + k ≤ to) → ((j : ℕ) → from ≤ j → j ≤ to → Keeps defs scope (Is ty.Unit) (body j))
      → Keeps defs scope (Is ty.Unit) (turns n i body)
  turns_kept zero i scope body from to p q a = pure_of defs scope (Is ty.Unit) value.Unit refl
  turns_kept (suc n) i scope body from to p q a =
      let l : i ≤ to = let z = q 0 (omega arith) in omega (arith, z) in
      bind_of defs scope (Is ty.Unit) (Is ty.Unit) (body i) (λ _. turns n (i + 1) body) (a i p l)
      (λ v _. turns_kept n (i + 1) scope body from to (omega (arith, p)) (λ k m. let z = q (suc k) (omega (arith, m)) in omega (arith, z)) a)

  -- ---- arguments

  -- what was evaluated in front of the others
  pub record OthersBehind (qs : List Asked) (one : Ty) (front all : List Value) : Type 0 where
    pub others : List Value
    pub is : all ≡ front ++ others
    pub fit : OthersFit defs qs one others

  others_types : (ps : List Param) (one : Ty) (vs : List Value) → OthersFit defs (slots_of ps) one vs → AreOfTypes defs vs ps
  others_types [] one [] h = tt
  others_types [] one (v ∷ vs) h = absurd h
  others_types (p ∷ ps) one [] h = absurd h
  others_types (p ∷ ps) one (v ∷ vs) h = (subst (IsOfType defs v) (sym h.0.1.asks) h.0.1.fit, others_types ps one vs h.1)

  -- the arguments of a function of the text
  pub record IsTypedCall (ps : List Param) (r : Ty) (vs : List Value) (t : Ty) : Type 0 where
    pub types : AreOfTypes defs vs ps
    pub gives : r ≡ t

  pub args_types : (ps : List Param) (r : Ty) (vs : List Value) (t : Ty) → ArgsFit defs (slots_of ps) (Some r) vs t → IsTypedCall ps r vs t
  args_types [] r [] t h = record { types = tt; gives = h }
  args_types [] r (v ∷ vs) t h = absurd h
  args_types (p ∷ ps) r [] t h = absurd h
  args_types (p ∷ ps) r (v ∷ vs) t h = record { types = (subst (IsOfType defs v) (sym h.1.0.asks) h.1.0.fit, others_types ps h.0 vs h.1.1); gives = h.1.2 }
