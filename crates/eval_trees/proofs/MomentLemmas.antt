-- The moments of parts of expressions, and of a call by the number of its definition.
use Rattle.std.proofs.Common.{◌≡◌, ℕ, ◌+◌, ◌-◌, ◌<◌, List, [], ◌∷◌, ◌++◌, length, take, drop, reverse, refl, sym, ap, ◌∙◌, subst, arith}
use Rattle.std.specs.Prelude.{map, if◌then◌else◌}
use Rattle.std.proofs.lemmas.Bool.{eq-eqb}
use Rattle.std.proofs.lemmas.List.{length-reverse, length-append, length-map, length-take, reverse-append, map-append, take-append-drop}
use Rattle.sail_syntax.specs.Tree.{Trees, none, some}
use Rattle.sail_syntax.specs.Program.{Definition, order, register, enumeration, signature, function, Function}
use Rattle.sail_syntax.specs.View.{definition_of}
use Rattle.sail_syntax.specs.declared.definitions.Def.{Def}
use Rattle.state_core.specs.World.{World}
use Rattle.sail_values.specs.declared.value.Slot.{Slot}
use Rattle.sail_values.specs.declared.value.Value.{Value}
use Rattle.eval_rules.specs.Flow.{Out, gives, stops, after}
use Rattle.eval_rules.specs.Names.{Setting}
use Rattle.eval_rules.specs.Eval.{Calls, eval, eval_all, calls_of, bound}
use Rattle.eval_rules.specs.Moments.{Moment, Passing, CallMoments, following, moments, args_moments, moments_of_calls}
use Rattle.eval_rules.proofs.Passed.{IsPart, part_whole, part_of_part, part_after}
use Rattle.eval_trees.specs.Inside.{calls_in, moments_in}
use Rattle.eval_trees.proofs.CallLemmas.{lower}

-- ---- arguments

-- what is behind an outcome is part of these moments
abbrev IsPartBehind : (List Value → Passing) → World → List Moment → Out (List Value) → Type 0
IsPartBehind call w ms (gives us m x) = IsPart x (call us m x) w ms
IsPartBehind call w ms (stops why x) = Unit {0}

behind_part : (call : List Value → Passing) {w y : World} {ms ns : List Moment} (o : Out (List Value)) → IsPart y ns w ms → IsPartBehind call y ns o → IsPartBehind call w ms o
behind_part call (gives us m x) part h = part_of_part h part
behind_part call (stops why x) part h = tt

-- the moments of a call are part of those of its arguments and the call
module _ (here : Setting) (calls : Calls) (during : CallMoments) (call : List Value → Passing) where
  call_behind : (ts : Trees) (vs : List Value) (l : List Slot) (w : World) → IsPartBehind call w (args_moments here calls during ts vs call l w) (eval_all here calls ts vs l w)
  call_behind none vs l w = part_whole w (call vs l w)
  call_behind (some t rest) vs l w = step (eval here calls t l w) refl (λ v k y. call_behind rest (vs ++ v ∷ []) k y)
    where
      step : (o : Out Value) → eval here calls t l w ≡ o
          → ((v : Value) (k : List Slot) (y : World) → IsPartBehind call y (args_moments here calls during rest (vs ++ v ∷ []) call k y) (eval_all here calls rest (vs ++ v ∷ []) k y))
          → IsPartBehind call w (moments here calls during t l w ++ following (eval here calls t l w) (λ v. args_moments here calls during rest (vs ++ v ∷ []) call))
          (after o (λ v. eval_all here calls rest (vs ++ v ∷ [])))
      step (gives v k y) e ih =
          behind_part call (eval_all here calls rest (vs ++ v ∷ []) k y)
          (part_after w y (moments here calls during t l w) (λ v. args_moments here calls during rest (vs ++ v ∷ []) call) v k (eval here calls t l w) e) (ih v k y)
      step (stops why y) e ih = tt

  pub call_part : (ts : Trees) (vs us : List Value) (l m : List Slot) (w x : World) → eval_all here calls ts vs l w ≡ gives us m x
      → IsPart x (call us m x) w (args_moments here calls during ts vs call l w)
  call_part ts vs us l m w x is = subst (IsPartBehind call w (args_moments here calls during ts vs call l w)) is (call_behind ts vs l w)

-- ---- calls

module _ (here : Setting) (i : ℕ) (vs : List Value) where
  -- a definition behind it doesn't count
  behind : (d : Definition) (xs : List Definition) → i < length xs → moments_of_calls here (d ∷ xs) i vs ≡ moments_of_calls here xs i vs
  behind order xs h = refl
  behind (register x w at) xs h = refl
  behind (enumeration x ms at) xs h = refl
  behind (signature x ts t at) xs h = refl
  behind (function f) xs h =
      ap (λ b. if b then (λ (l : List Slot) (w : World). moments here (calls_of here xs) (moments_of_calls here xs) f.body (bound f.params vs 0 []) w) else moments_of_calls here xs i vs)
      (lower i (length xs) h)

  -- definitions behind it don't count
  behind_all : (ys xs : List Definition) → i < length xs → moments_of_calls here (ys ++ xs) i vs ≡ moments_of_calls here xs i vs
  behind_all [] xs h = refl
  behind_all (y ∷ ys) xs h = behind y (ys ++ xs) (omega (arith, length-append ys xs)) ∙ behind_all ys xs h

-- only the definitions up to its own count
only_upto : (here : Setting) (defs : List Def) (i : ℕ) (vs : List Value) → i < length defs → moments_in here defs i vs ≡ moments_in here (take (i + 1) defs) i vs
only_upto here defs i vs h =
    let one = take (i + 1) defs in
    let two = drop (i + 1) defs in
    let many : length (reverse (map definition_of one)) ≡ i + 1 = omega (arith, length-reverse (map definition_of one), length-map one definition_of, length-take (i + 1) defs) in
    ap (λ l. moments_of_calls here (reverse (map definition_of l)) i vs) (sym (take-append-drop (i + 1) defs))
    ∙ ap (λ l. moments_of_calls here (reverse l) i vs) (map-append definition_of one two)
    ∙ ap (λ l. moments_of_calls here l i vs) (reverse-append (map definition_of one) (map definition_of two))
    ∙ behind_all here i vs (reverse (map definition_of two)) (reverse (map definition_of one)) (omega (arith, many))

-- the last of the definitions up to its own
pub last_upto_moments : (here : Setting) (defs : List Def) (i : ℕ) (vs : List Value) → i < length defs
    → moments_in here (take (i + 1) defs) (length (take (i + 1) defs) - 1) vs ≡ moments_in here defs i vs
last_upto_moments here defs i vs h =
    let n : length (take (i + 1) defs) - 1 ≡ i = omega (arith, length-take (i + 1) defs) in
    ap (λ m. moments_in here (take (i + 1) defs) m vs) n ∙ sym (only_upto here defs i vs h)

-- the moments of a call of a function
abbrev of_function : Setting → Calls → CallMoments → Function → List Value → Passing
of_function here above during f vs = λ locals world. moments here above during f.body (bound f.params vs 0 []) world

-- a function that is the last definition
at_last : (here : Setting) (f : Function) (xs : List Definition) (i : ℕ) (vs : List Value) → i ≡ length xs
    → moments_of_calls here (function f ∷ xs) i vs ≡ of_function here (calls_of here xs) (moments_of_calls here xs) f vs
at_last here f xs i vs h =
    ap (λ b. if b then of_function here (calls_of here xs) (moments_of_calls here xs) f vs else moments_of_calls here xs i vs) (eq-eqb i (length xs) h)

pub last_call_moments : (here : Setting) (earlier : List Def) (d : Def) (f : Function) (vs : List Value) → definition_of d ≡ function f
    → moments_in here (earlier ++ d ∷ []) (length (earlier ++ d ∷ []) - 1) vs ≡ of_function here (calls_in here earlier) (moments_in here earlier) f vs
last_call_moments here earlier d f vs is =
    let xs = reverse (map definition_of earlier) in
    let i = length (earlier ++ d ∷ []) - 1 in
    let n : i ≡ length xs = omega (arith, length-append earlier (d ∷ []), length-reverse (map definition_of earlier), length-map earlier definition_of) in
    ap (λ l. moments_of_calls here (reverse l) i vs) (map-append definition_of earlier (d ∷ []))
    ∙ ap (λ l. moments_of_calls here l i vs) (reverse-append (map definition_of earlier) (definition_of d ∷ []))
    ∙ ap (λ e. moments_of_calls here (e ∷ xs) i vs) is
    ∙ at_last here f xs i vs n
