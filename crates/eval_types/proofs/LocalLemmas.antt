-- Locals against a scope that they fit.
use Rattle.std.proofs.Common.{◌≡◌, Bool, true, false, List, [], ◌∷◌, Option, Some, None, refl, ap, sym, subst}
use Rattle.std.specs.Prelude.{⊤, is_some, bytes_eq, if◌then◌else◌}
use Rattle.sail_syntax.specs.Tree.{Text}
use Rattle.sail_syntax.specs.Program.{Definition}
use Rattle.sail_values.specs.declared.value.Slot.{Slot}
use Rattle.sail_values.specs.declared.value.Local.{Local}
use Rattle.sail_values.specs.declared.value.Local.TheVariants as local
use Rattle.sail_values.specs.Slots.{look, put, has}
use Rattle.type_rules.specs.declared.scope.Sort.{Sort}
use Rattle.type_rules.specs.declared.scope.Sort.TheVariants.{Holds, Counts}
use Rattle.type_rules.specs.declared.scope.Local.{Local as Typed}
use Rattle.type_rules.specs.Names.{look as look_type}
use Rattle.type_rules.specs.Rules.{span_of, span_sort}
use Rattle.type_rules.specs.HasType.{IsIn, IsThere}
use Rattle.eval_rules.specs.Parts.{number_in, base_of}
use Rattle.eval_types.specs.Types.{SortFits, LocalsFit}

module _ (defs : List Definition) where
  -- what a name stands for, and what it is of
  abbrev pub LookFits : Option Local → Option Sort → Type 0
  LookFits (Some l) (Some s) = SortFits defs l s
  LookFits None None = ⊤
  LookFits (Some l) None = ⊥
  LookFits None (Some s) = ⊥

  pub look_fits : (x : Text) (locals : List Slot) (scope : List Typed) → LocalsFit defs locals scope → LookFits (look x locals) (look_type x scope)
  look_fits x [] [] h = tt
  look_fits x [] (d ∷ scope) h = absurd h
  look_fits x (s ∷ locals) [] h = absurd h
  look_fits x (s ∷ locals) (d ∷ scope) h =
      subst (λ n. LookFits (if bytes_eq n x then Some s.local else look x locals) (if bytes_eq d.name x then Some d.sort else look_type x scope)) (sym h.0)
      (step (bytes_eq d.name x) (look_fits x locals scope h.2))
    where
      step : (b : Bool) → LookFits (look x locals) (look_type x scope) → LookFits (if b then Some s.local else look x locals) (if b then Some d.sort else look_type x scope)
      step true r = h.1
      step false r = r

  pub has_is : (x : Text) (locals : List Slot) → has x locals ≡ is_some (look x locals)
  has_is x [] = refl
  has_is x (s ∷ locals) = step (bytes_eq s.name x) (has_is x locals)
    where
      step : (b : Bool) → has x locals ≡ is_some (look x locals) → (if b then true else has x locals) ≡ is_some (if b then Some s.local else look x locals)
      step true r = refl
      step false r = r

  some_sort : (s k : Sort) → Some s ≡ Some k → s ≡ k
  some_sort s k h = cc

  pub put_fits : (x : Text) (l : Local) (k : Sort) (locals : List Slot) (scope : List Typed) → LocalsFit defs locals scope → look_type x scope ≡ Some k → SortFits defs l k
      → LocalsFit defs (put x l locals) scope
  put_fits x l k [] [] h e f = tt
  put_fits x l k [] (d ∷ scope) h e f = absurd h
  put_fits x l k (s ∷ locals) [] h e f = absurd h
  put_fits x l k (s ∷ locals) (d ∷ scope) h e f = step (bytes_eq s.name x) (bytes_eq d.name x) (ap (λ n. bytes_eq n x) h.0) e (λ r. put_fits x l k locals scope h.2 r f)
    where
      step : (b c : Bool) → b ≡ c → (if c then Some d.sort else look_type x scope) ≡ Some k → (look_type x scope ≡ Some k → LocalsFit defs (put x l locals) scope)
          → LocalsFit defs (if b then record s { local = l } ∷ locals else s ∷ put x l locals) (d ∷ scope)
      step true true p q r = (h.0, subst (SortFits defs l) (sym (some_sort d.sort k q)) f, h.2)
      step false false p q r = (h.0, h.1, r q)
      step true false p q r = absurd cc
      step false true p q r = absurd cc

  -- ---- indices

  number_fits : (o : Option Local) (s : Option Sort) → LookFits o s → IsThere (span_sort s) → IsIn (span_sort s) (number_in o)
  number_fits (Some (local.Counts n)) (Some (Counts a b)) h t = h
  number_fits (Some (local.Counts n)) (Some (Holds u v)) h t = absurd t
  number_fits (Some (local.Is x)) (Some (Counts a b)) h t = absurd h
  number_fits (Some (local.Is x)) (Some (Holds u v)) h t = absurd t
  number_fits (Some l) None h t = absurd t
  number_fits None None h t = absurd t
  number_fits None (Some s) h t = absurd h

  -- the number that an index adds to is one of those that its name stands for
  pub base_fits : (x : Option Text) (locals : List Slot) (scope : List Typed) → LocalsFit defs locals scope → IsThere (span_of x scope) → IsIn (span_of x scope) (base_of x locals)
  base_fits None locals scope h t = refl
  base_fits (Some x) locals scope h t = number_fits (look x locals) (look_type x scope) (look_fits x locals scope h) t
