-- A function by the number of its definition.
use Rattle.std.proofs.Common.{◌≡◌, ℕ, ◌+◌, ◌-◌, ◌<◌, ◌≤◌, nat_eq, Bool, true, false, List, [], ◌∷◌, ◌++◌, length, get_or, take, drop, reverse, refl, sym, ap, ◌∙◌, true≢false, arith}
use Rattle.std.specs.Prelude.{map, if◌then◌else◌}
use Rattle.std.proofs.lemmas.Bool.{eqb-true, eq-eqb}
use Rattle.std.proofs.lemmas.List.{length-reverse, length-append, length-map, length-take, reverse-append, map-append, take-append-drop, drop_more, drop_all}
use Rattle.sail_syntax.specs.Program.{Definition, order, register, enumeration, signature, function}
use Rattle.sail_syntax.specs.View.{definition_of}
use Rattle.sail_syntax.specs.declared.definitions.Def.{Def}
use Rattle.sail_values.specs.declared.value.Value.{Value}
use Rattle.sail_values.specs.declared.value.Value.TheVariants as value
use Rattle.state_core.specs.World.{World}
use Rattle.sail_values.specs.declared.value.Slot.{Slot}
use Rattle.eval_rules.specs.Flow.{Meaning, gives, pure}
use Rattle.eval_rules.specs.Names.{Setting}
use Rattle.eval_rules.specs.Eval.{calls_of, entered}
use Rattle.eval_trees.specs.Inside.{calls_in, on_last, is_function_definition}

pub apart : (i n : ℕ) → n < i → nat_eq i n ≡ false
apart i n h = step (nat_eq i n) refl
  where
    step : (b : Bool) → nat_eq i n ≡ b → nat_eq i n ≡ false
    step true e = let s = eqb-true i n e in absurd (omega (arith, s))
    step false e = e

pub lower : (i n : ℕ) → i < n → nat_eq i n ≡ false
lower i n h = step (nat_eq i n) refl
  where
    step : (b : Bool) → nat_eq i n ≡ b → nat_eq i n ≡ false
    step true e = let s = eqb-true i n e in absurd (omega (arith, s))
    step false e = e

module _ (here : Setting) (i : ℕ) (vs : List Value) where
  -- a number that no definition has
  far : (xs : List Definition) → length xs ≤ i → calls_of here xs i vs ≡ pure value.Unit
  far [] h = refl
  far (order ∷ xs) h = far xs (omega arith)
  far (register x w at ∷ xs) h = far xs (omega arith)
  far (enumeration x ms at ∷ xs) h = far xs (omega arith)
  far (signature x ts t at ∷ xs) h = far xs (omega arith)
  far (function f ∷ xs) h =
      ap (λ b. if b then entered here (calls_of here xs) f.params f.body vs else calls_of here xs i vs) (apart i (length xs) (omega arith)) ∙ far xs (omega arith)

  -- a definition behind it doesn't count
  behind : (d : Definition) (xs : List Definition) → i < length xs → calls_of here (d ∷ xs) i vs ≡ calls_of here xs i vs
  behind order xs h = refl
  behind (register x w at) xs h = refl
  behind (enumeration x ms at) xs h = refl
  behind (signature x ts t at) xs h = refl
  behind (function f) xs h = ap (λ b. if b then entered here (calls_of here xs) f.params f.body vs else calls_of here xs i vs) (lower i (length xs) h)

  -- definitions behind it don't count
  behind_all : (ys xs : List Definition) → i < length xs → calls_of here (ys ++ xs) i vs ≡ calls_of here xs i vs
  behind_all [] xs h = refl
  behind_all (y ∷ ys) xs h = behind y (ys ++ xs) (omega (arith, length-append ys xs)) ∙ behind_all ys xs h

-- a number that no definition has
pub too_far : (here : Setting) (defs : List Def) (i : ℕ) (vs : List Value) → length defs ≤ i → calls_in here defs i vs ≡ pure value.Unit
too_far here defs i vs h =
    far here i vs (reverse (map definition_of defs)) (omega (arith, length-reverse (map definition_of defs), length-map defs definition_of))

-- only the definitions up to its own count
pub only_upto : (here : Setting) (defs : List Def) (i : ℕ) (vs : List Value) → i < length defs → calls_in here defs i vs ≡ calls_in here (take (i + 1) defs) i vs
only_upto here defs i vs h =
    let one = take (i + 1) defs in
    let two = drop (i + 1) defs in
    let many : length (reverse (map definition_of one)) ≡ i + 1 = omega (arith, length-reverse (map definition_of one), length-map one definition_of, length-take (i + 1) defs) in
    ap (λ l. calls_of here (reverse (map definition_of l)) i vs) (sym (take-append-drop (i + 1) defs))
    ∙ ap (λ l. calls_of here (reverse l) i vs) (map-append definition_of one two)
    ∙ ap (λ l. calls_of here l i vs) (reverse-append (map definition_of one) (map definition_of two))
    ∙ behind_all here i vs (reverse (map definition_of two)) (reverse (map definition_of one)) (omega (arith, many))

-- the last definition
at_last : (here : Setting) (d : Definition) (xs : List Definition) (i : ℕ) (vs : List Value) → i ≡ length xs → calls_of here (d ∷ xs) i vs ≡ on_last here (calls_of here xs) d vs
at_last here order xs i vs h = far here i vs xs (omega (arith, h))
at_last here (register x w at) xs i vs h = far here i vs xs (omega (arith, h))
at_last here (enumeration x ms at) xs i vs h = far here i vs xs (omega (arith, h))
at_last here (signature x ts t at) xs i vs h = far here i vs xs (omega (arith, h))
at_last here (function f) xs i vs h = ap (λ b. if b then entered here (calls_of here xs) f.params f.body vs else calls_of here xs i vs) (eq-eqb i (length xs) h)

pub last_call : (here : Setting) (earlier : List Def) (d : Def) (vs : List Value)
    → calls_in here (earlier ++ d ∷ []) (length (earlier ++ d ∷ []) - 1) vs ≡ on_last here (calls_in here earlier) (definition_of d) vs
last_call here earlier d vs =
    let xs = reverse (map definition_of earlier) in
    let n : length (earlier ++ d ∷ []) - 1 ≡ length xs = omega (arith, length-append earlier (d ∷ []), length-reverse (map definition_of earlier), length-map earlier definition_of) in
    ap (λ l. calls_of here (reverse l) (length (earlier ++ d ∷ []) - 1) vs) (map-append definition_of earlier (d ∷ []))
    ∙ ap (λ l. calls_of here l (length (earlier ++ d ∷ []) - 1) vs) (reverse-append (map definition_of earlier) (definition_of d ∷ []))
    ∙ at_last here (definition_of d) xs (length (earlier ++ d ∷ []) - 1) vs n

-- the last of the definitions up to its own
pub last_upto : (here : Setting) (defs : List Def) (i : ℕ) (vs : List Value) → i < length defs
    → calls_in here (take (i + 1) defs) (length (take (i + 1) defs) - 1) vs ≡ calls_in here defs i vs
last_upto here defs i vs h =
    let n : length (take (i + 1) defs) - 1 ≡ i = omega (arith, length-take (i + 1) defs) in
    ap (λ m. calls_in here (take (i + 1) defs) m vs) n ∙ sym (only_upto here defs i vs h)

-- the last definition where it is no function
pub last_other : (here : Setting) (defs earlier : List Def) (d : Def) (vs : List Value) → defs ≡ earlier ++ d ∷ [] → is_function_definition (definition_of d) ≡ false
    → calls_in here defs (length defs - 1) vs ≡ pure value.Unit
last_other here defs earlier d vs h k =
    ap (λ l. calls_in here l (length l - 1) vs) h ∙ last_call here earlier d vs ∙ other (definition_of d) k
  where
    other : (e : Definition) → is_function_definition e ≡ false → on_last here (calls_in here earlier) e vs ≡ pure value.Unit
    other order k = refl
    other (register x w at) k = refl
    other (enumeration x ms at) k = refl
    other (signature x ts t at) k = refl
    other (function f) k = absurd (true≢false k)

-- the same of the one at the last place
pub last_is_other : (here : Setting) (defs : List Def) (d : Def) (vs : List Value) → 1 ≤ length defs → d ≡ get_or defs (length defs - 1) d → is_function_definition (definition_of d) ≡ false
    → (locals : List Slot) (world : World) → calls_in here defs (length defs - 1) vs locals world ≡ gives value.Unit locals world
last_is_other here defs d vs many h k locals world =
    let n = length defs - 1 in
    let within : n < length defs = omega (arith, many) in
    let none : drop (n + 1) defs ≡ [] = drop_all (n + 1) defs (omega (arith, many)) in
    let last : drop n defs ≡ d ∷ [] = drop_more defs n d within ∙ ap (λ (e : Def). e ∷ drop (n + 1) defs) (sym h) ∙ ap (λ (l : List Def). d ∷ l) none in
    let whole : defs ≡ take n defs ++ d ∷ [] = sym (take-append-drop n defs) ∙ ap (λ (l : List Def). take n defs ++ l) last in
    ap (λ (m : Meaning Value). m locals world) (last_other here defs (take n defs) d vs whole k)
