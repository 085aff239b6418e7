-- The functions of a typed program keep types, from the first on: each calls those above it.
use Rattle.std.proofs.Common.{◌≡◌, ℕ, zero, suc, ◌+◌, ◌≤◌, Bool, true, false, List, [], ◌∷◌, ◌++◌, length, take, drop, reverse, Some, refl, ap, sym, ◌∙◌, subst, arith, append_assoc, nat_eq, length-take}
use Rattle.std.specs.Prelude.{◌≢◌, if◌then◌else◌, slice_get}
use Rattle.std.proofs.lemmas.Bool.{eqb-true, eqb-false}
use Rattle.std.proofs.lemmas.Option.{slice_get_within}
use Rattle.std.proofs.lemmas.List.{append-nil, reverse-append, reverse-reverse, length-reverse, take-append-drop}
use Rattle.sail_syntax.specs.Tree.{Text}
use Rattle.sail_syntax.specs.Program.{Definition, Function, order, register, enumeration, signature, function}
use Rattle.sail_syntax.specs.declared.types.Param.{Param}
use Rattle.state_core.specs.World.{World}
use Rattle.state_core.specs.declared.kinds.Range.{Range}
use Rattle.sail_values.specs.declared.value.Value.{Value}
use Rattle.sail_values.specs.declared.value.Slot.{Slot}
use Rattle.sail_values.specs.declared.value.Local.TheVariants as local
use Rattle.sail_values.specs.Values.{or_unit, nth}
use Rattle.sail_names.specs.declared.things.Named.{Named}
use Rattle.sail_names.specs.Things.{find_thing, things_of}
use Rattle.type_rules.specs.declared.scope.Entry.{Entry}
use Rattle.type_rules.specs.declared.scope.Sort.TheVariants.{Holds}
use Rattle.type_rules.specs.declared.scope.Local.{Local as Typed}
use Rattle.type_rules.specs.Names.{find, globals_of}
use Rattle.type_rules.specs.Heights.{Height}
use Rattle.type_rules.specs.Program.{heights_after}
use Rattle.type_rules.specs.IsTyped.{locals_of, IsTypedFunction, IsTypedDefinition, AreTypedDefinitions}
use Rattle.eval_rules.specs.Flow.{Out, gives, stops}
use Rattle.eval_rules.specs.Names.{Setting}
use Rattle.eval_rules.specs.Eval.{eval, bound, restores, entered, calls_of, setting_of}
use Rattle.eval_types.specs.Types.{IsOfType, AreOfTypes, LocalsFit, StateFits}
use Rattle.eval_types.specs.Keeps.{Ends, KeepsTypes}
use Rattle.eval_types.proofs.GivenLemmas.{Accesses}
use Rattle.eval_types.proofs.ThingLemmas.{AsFound, IsTail, tail_next, tail_head, from_none, found}
use Rattle.eval_types.proofs.KeepLemmas.{CallsKeep, tree_kept}

pub some_function : (f g : Function) → Some (function f) ≡ Some (function g) → f ≡ g
some_function f g h = cc

some_definition : (d e : Definition) → Some d ≡ Some e → d ≡ e
some_definition d e h = cc

-- ---- typed functions

pub record TypedAt (globals : List Entry) (f : Function) (i : ℕ) : Type 0 where
  pub above : List Height
  pub typed : IsTypedFunction globals f above i

pub typed_at : (globals : List Entry) (ds : List Definition) (above : List Height) (i n : ℕ) (f : Function) → AreTypedDefinitions globals ds above i → slice_get ds n ≡ Some (function f) → TypedAt globals f (i + n)
typed_at globals [] above i n f h e = absurd cc
typed_at globals (d ∷ ds) above i zero f h e =
    let t = subst (λ d. IsTypedDefinition globals d above i ds) (some_definition d (function f) e) h.0 in
    let k : i ≡ i + zero = omega arith in
    subst (TypedAt globals f) k (record { above = above; typed = t })
typed_at globals (d ∷ ds) above i (suc n) f h e =
    let k : i + 1 + n ≡ i + suc n = omega arith in subst (TypedAt globals f) k (typed_at globals ds (heights_after d above) (i + 1) n f h.1 e)

seam : {X : Type 0} (xs : List X) (x : X) (ys : List X) → slice_get (xs ++ x ∷ ys) (length xs) ≡ Some x
seam [] x ys = refl
seam (z ∷ xs) x ys = seam xs x ys

pub reverse_cons : {X : Type 0} (x : X) (xs ys : List X) → reverse (x ∷ xs) ++ ys ≡ reverse xs ++ x ∷ ys
reverse_cons x xs ys = ap (λ zs. zs ++ ys) (reverse-append (x ∷ []) xs) ∙ append_assoc (reverse xs) (x ∷ []) ys

module _ (defs : List Definition) where
  -- ---- the parameters

  pub bound_fits : (ps : List Param) (all vs : List Value) (i : ℕ) (scope : List Typed) (locals : List Slot) → IsTail defs all vs i → AreOfTypes defs vs ps → LocalsFit defs locals scope → LocalsFit defs (bound ps all i locals) (locals_of ps scope)
  bound_fits [] all [] i scope locals t h l = l
  bound_fits [] all (v ∷ vs) i scope locals t h l = absurd h
  bound_fits (p ∷ ps) all [] i scope locals t h l = absurd h
  bound_fits (p ∷ ps) all (v ∷ vs) i scope locals t h l =
      let e : nth i all ≡ v = ap or_unit (tail_head defs all vs v i t) in
      bound_fits ps all vs (i + 1) (record { name = p.name; sort = Holds (Some p.ty) false } ∷ scope) (record { name = p.name; local = local.Is (nth i all) } ∷ locals) (tail_next defs all vs v i t) h.1
      (refl, subst (λ v. IsOfType defs v p.ty) (sym e) h.0, l)

  restores_of : (L : List Slot → Type 0) (P : Value → Type 0) (locals : List Slot) (o : Out Value) → Ends defs L P o → Ends defs (λ after. after ≡ locals) P (restores locals o)
  restores_of L P locals (gives v ls world) h = (h.0, refl, h.2)
  restores_of L P locals (stops why world) h = h

  -- ---- one function after another

  -- a function that isn't the last definition stands in front of it
  pub in_front : (n i : ℕ) (d : Definition) (f : Function) → i + 1 ≤ suc n → slice_get defs n ≡ Some d → slice_get defs i ≡ Some (function f) → (Some d ≡ Some (function f) → ⊥) → i + 1 ≤ n
  in_front n i d f l e g other = step (nat_eq i n) refl
    where
      step : (b : Bool) → nat_eq i n ≡ b → i + 1 ≤ n
      step true p = let k : i ≡ n = eqb-true i n p in absurd (other (sym e ∙ ap (slice_get defs) (sym k) ∙ g))
      step false p = let k : i ≢ n = eqb-false i n p in omega (arith, k, l)

  module _ (ranges : List Range) (accesses : Accesses ranges) (globals : List Entry) (things : List Named) (named : (x : Text) → AsFound defs (find x globals) (find_thing x things))
      (typed : AreTypedDefinitions globals defs [] 0) where
    abbrev setting : Setting
    setting = record { things = things; ranges = ranges }

    pub last_is : (d : Definition) (rev rest : List Definition) → defs ≡ reverse (d ∷ rev) ++ rest → slice_get defs (length rev) ≡ Some d
    last_is d rev rest e = ap (λ ds. slice_get ds (length rev)) (e ∙ reverse_cons d rev rest) ∙ ap (slice_get (reverse rev ++ d ∷ rest)) (sym (length-reverse rev)) ∙ seam (reverse rev) d rest

    -- the last of some functions, where those above it keep types
    entered_kept : (rev : List Definition) (d : Function) (vs : List Value) (locals : List Slot) (world : World) → CallsKeep defs (length rev) (calls_of setting rev) → slice_get defs (length rev) ≡ Some (function d)
        → AreOfTypes defs vs d.params → StateFits defs world.state → Ends defs (λ after. after ≡ locals) (λ v. IsOfType defs v d.result) (entered setting (calls_of setting rev) d.params d.body vs locals world)
    entered_kept rev d vs locals world kept e h s =
        let t = typed_at globals defs [] 0 (length rev) d typed e in
        let z : 0 + length rev ≡ length rev = omega arith in
        let u = subst (TypedAt globals d) z t in
        restores_of (λ after. LocalsFit defs after (locals_of d.params [])) (λ v. IsOfType defs v d.result) locals (eval setting (calls_of setting rev) d.body (bound d.params vs 0 []) world)
        (tree_kept defs ranges accesses globals things named (length rev) (calls_of setting rev) kept d.body (Some d.result) (locals_of d.params []) d.result u.typed.body (bound d.params vs 0 []) world
        (bound_fits d.params vs vs 0 [] [] (from_none defs vs) h tt) s)

    function_kept : (d : Function) (rev rest : List Definition) → defs ≡ reverse (function d ∷ rev) ++ rest → CallsKeep defs (length rev) (calls_of setting rev)
        → (i : ℕ) (f : Function) (vs : List Value) (locals : List Slot) (world : World) → i + 1 ≤ suc (length rev) → slice_get defs i ≡ Some (function f) → AreOfTypes defs vs f.params → StateFits defs world.state
        → (b : Bool) → nat_eq i (length rev) ≡ b
        → Ends defs (λ after. after ≡ locals) (λ v. IsOfType defs v f.result) ((if b then entered setting (calls_of setting rev) d.params d.body vs else calls_of setting rev i vs) locals world)
    function_kept d rev rest e kept i f vs locals world l g h s true p =
        let k : i ≡ length rev = eqb-true i (length rev) p in
        let n = last_is (function d) rev rest e in
        let q = some_function f d (sym g ∙ ap (slice_get defs) k ∙ n) in
        subst (λ f. Ends defs (λ after. after ≡ locals) (λ v. IsOfType defs v f.result) (entered setting (calls_of setting rev) d.params d.body vs locals world)) (sym q)
        (entered_kept rev d vs locals world kept n (subst (λ f. AreOfTypes defs vs f.params) q h) s)
    function_kept d rev rest e kept i f vs locals world l g h s false p =
        let k : i ≢ length rev = eqb-false i (length rev) p in kept i f vs locals world (omega (arith, k, l)) g h s

    pub calls_kept : (rev rest : List Definition) → defs ≡ reverse rev ++ rest → CallsKeep defs (length rev) (calls_of setting rev)
    calls_kept [] rest e = λ i f vs locals world l g h s. absurd (omega (arith, l))
    calls_kept (order ∷ rev) rest e = λ i f vs locals world l g h s.
        calls_kept rev (order ∷ rest) (e ∙ reverse_cons order rev rest) i f vs locals world (in_front (length rev) i order f l (last_is order rev rest e) g (λ k. cc)) g h s
    calls_kept (register x w at ∷ rev) rest e = λ i f vs locals world l g h s.
        calls_kept rev (register x w at ∷ rest) (e ∙ reverse_cons (register x w at) rev rest) i f vs locals world (in_front (length rev) i (register x w at) f l (last_is (register x w at) rev rest e) g (λ k. cc)) g h s
    calls_kept (enumeration x ms at ∷ rev) rest e = λ i f vs locals world l g h s.
        calls_kept rev (enumeration x ms at ∷ rest) (e ∙ reverse_cons (enumeration x ms at) rev rest) i f vs locals world (in_front (length rev) i (enumeration x ms at) f l (last_is (enumeration x ms at) rev rest e) g (λ k. cc)) g h s
    calls_kept (signature x args result at ∷ rev) rest e = λ i f vs locals world l g h s.
        calls_kept rev (signature x args result at ∷ rest) (e ∙ reverse_cons (signature x args result at) rev rest) i f vs locals world
        (in_front (length rev) i (signature x args result at) f l (last_is (signature x args result at) rev rest e) g (λ k. cc)) g h s
    calls_kept (function d ∷ rev) rest e = λ i f vs locals world l g h s.
        function_kept d rev rest e (calls_kept rev (function d ∷ rest) (e ∙ reverse_cons (function d) rev rest)) i f vs locals world l g h s (nat_eq i (length rev)) refl

  -- the functions of the first definitions
  first_kept : (ranges : List Range) → Accesses ranges → AreTypedDefinitions (globals_of defs) defs [] 0 → (here : ℕ) → CallsKeep defs here (calls_of (setting_of defs ranges) (reverse (take here defs)))
  first_kept ranges accesses typed here i f vs locals world l g h s =
      let k = slice_get_within defs i (function f) g in
      let e = sym (ap (λ ds. ds ++ drop here defs) (reverse-reverse (take here defs)) ∙ take-append-drop here defs) in
      calls_kept ranges accesses (globals_of defs) (things_of defs) (found defs) typed (reverse (take here defs)) (drop here defs) e i f vs locals world
      (omega (arith, l, k, length-reverse (take here defs), length-take here defs)) g h s

  pub all_kept : (ranges : List Range) → Accesses ranges → AreTypedDefinitions (globals_of defs) defs [] 0 → CallsKeep defs (length defs) (calls_of (setting_of defs ranges) (reverse defs))
  all_kept ranges accesses typed i f vs locals world l g h s =
      let e = sym (append-nil (reverse (reverse defs)) ∙ reverse-reverse defs) in
      calls_kept ranges accesses (globals_of defs) (things_of defs) (found defs) typed (reverse defs) [] e i f vs locals world (omega (arith, l, length-reverse defs)) g h s

pub keeps_types : ((ranges : List Range) → Accesses ranges) → KeepsTypes
keeps_types accesses defs ranges here e want scope t locals world p h l s =
    tree_kept defs ranges (accesses ranges) (globals_of defs) (things_of defs) (found defs) here (calls_of (setting_of defs ranges) (reverse (take here defs))) (first_kept defs ranges (accesses ranges) p.definitions here) e want scope t h locals world l s
