-- What is found stands in the program.
use Rattle.std.proofs.Common.{◌≡◌, ℕ, zero, suc, ◌+◌, Bool, true, false, List, [], ◌∷◌, ◌++◌, map, Option, Some, None, refl, sym, ap, ◌∙◌, subst, arith, inl, inr}
use Rattle.std.proofs.lemmas.Slice.Eq.{bytes_eq-Decides}
use Rattle.std.specs.Prelude.{⊤, ◌⊎◌, bytes_eq, slice_get, if◌then◌else◌}
use Rattle.sail_syntax.specs.Tree.{Text}
use Rattle.sail_syntax.specs.Program.{Definition, Function, order, register, enumeration, signature, function}
use Rattle.sail_syntax.specs.declared.types.Ty.{Ty}
use Rattle.type_rules.specs.declared.scope.Entry.{Entry}
use Rattle.type_rules.specs.declared.scope.Item.{Item}
use Rattle.type_rules.specs.declared.scope.Item.TheVariants as item
use Rattle.type_rules.specs.declared.scope.Slot.{Slot}
use Rattle.type_rules.specs.Names.{find, Declared, members_of, slots_of, declared_from, prelude, entry_of, globals_of}
use Rattle.type_rules.specs.ThereLaws.{IsOneOf, IsRegister, IsEnum, IsMember, IsFunction, IsThereAs, FoundIsThere}

-- the entry in front is what was found, or those behind it
find_step : (x : Text) (e : Entry) (es : List Entry) (i : Item) → find x (e ∷ es) ≡ Some i → ((e.name ≡ x) × (e.item ≡ i)) ⊎ (find x es ≡ Some i)
find_step x e es i h = step (bytes_eq e.name x) refl h
  where
    step : (b : Bool) → bytes_eq e.name x ≡ b → (if b then Some e.item else find x es) ≡ Some i → ((e.name ≡ x) × (e.item ≡ i)) ⊎ (find x es ≡ Some i)
    step true p k = inl ((bytes_eq-Decides e.name x).0 p, cc)
    step false p k = inr k

find_append : (x : Text) (es fs : List Entry) (i : Item) → find x (es ++ fs) ≡ Some i → (find x es ≡ Some i) ⊎ (find x fs ≡ Some i)
find_append x [] fs i h = inr h
find_append x (e ∷ es) fs i h = step (bytes_eq e.name x) (find_append x es fs i) h
  where
    step : (b : Bool) → (find x (es ++ fs) ≡ Some i → (find x es ≡ Some i) ⊎ (find x fs ≡ Some i)) → (if b then Some e.item else find x (es ++ fs)) ≡ Some i
        → ((if b then Some e.item else find x es) ≡ Some i) ⊎ (find x fs ≡ Some i)
    step true r k = inl k
    step false r k = r k

-- a function among definitions behind so many others
record FunctionAt (ds : List Definition) (i : ℕ) (x : Text) (params : List Slot) (result : Option Ty) (after : ℕ) : Type 0 where
  pub number : ℕ
  pub there : Function
  pub is : slice_get ds number ≡ Some (function there)
  pub name : there.name ≡ x
  pub asks : slots_of there.params ≡ params
  pub gives : Some there.result ≡ result
  pub behind : after ≡ i + number + 1

abbrev At : List Definition → ℕ → Text → Item → Type 0
At ds i x (item.Register w) = IsRegister ds x w
At ds i x item.Enum = IsEnum ds x
At ds i x (item.Member e) = IsMember ds x e
At ds i x (item.Function ps r after) = FunctionAt ds i x ps r after

shift : (d : Definition) (ds : List Definition) (i : ℕ) (x : Text) (it : Item) → At ds (i + 1) x it → At (d ∷ ds) i x it
shift d ds i x (item.Register w) h = record { number = suc h.number; at = h.at; is = h.is }
shift d ds i x item.Enum h = record { number = suc h.number; at = h.at; members = h.members; is = h.is }
shift d ds i x (item.Member e) h = record { number = suc h.number; at = h.at; members = h.members; is = h.is; one = h.one }
shift d ds i x (item.Function ps r after) h =
    let b = h.behind in record { number = suc h.number; there = h.there; is = h.is; name = h.name; asks = h.asks; gives = h.gives; behind = omega (arith, b) }

-- a member of the enum, or what is found behind them
in_members : (x of : Text) (at : ℕ) (ms : List Text) (ds : List Declared) (it : Item) → find x (map entry_of (members_of of at ms ++ ds)) ≡ Some it
    → ((item.Member of ≡ it) × IsOneOf x ms) ⊎ (find x (map entry_of ds) ≡ Some it)
in_members x of at [] ds it h = inr h
in_members x of at (m ∷ ms) ds it h = elim (find_step x (record { name = m; item = item.Member of }) (map entry_of (members_of of at ms ++ ds)) it h) [
  | inl k ↦ inl (k.1, inl k.0)
  | inr k ↦ elim (in_members x of at ms ds it k) [ inl j ↦ inl (j.0, inr j.1) | inr j ↦ inr j ]
]

there : (ds : List Definition) (i : ℕ) (x : Text) (it : Item) → find x (map entry_of (declared_from ds i)) ≡ Some it → At ds i x it
there [] i x it h = absurd cc
there (order ∷ ds) i x it h = shift order ds i x it (there ds (i + 1) x it h)
there (register y w at ∷ ds) i x it h = elim (find_step x (record { name = y; item = item.Register w }) (map entry_of (declared_from ds (i + 1))) it h) [
  | inl k ↦ subst (At (register y w at ∷ ds) i x) k.1 (record { number = zero; at = at; is = ap (λ z. Some (register z w at)) k.0 })
  | inr k ↦ shift (register y w at) ds i x it (there ds (i + 1) x it k)
]
there (enumeration y ms at ∷ ds) i x it h = elim (find_step x (record { name = y; item = item.Enum }) (map entry_of (members_of y at ms ++ declared_from ds (i + 1))) it h) [
  | inl k ↦ subst (At (enumeration y ms at ∷ ds) i x) k.1 (record { number = zero; at = at; members = ms; is = ap (λ z. Some (enumeration z ms at)) k.0 })
  | inr k ↦ elim (in_members x y at ms (declared_from ds (i + 1)) it k) [
    | inl j ↦ subst (At (enumeration y ms at ∷ ds) i x) j.0 (record { number = zero; at = at; members = ms; is = refl; one = j.1 })
    | inr j ↦ shift (enumeration y ms at) ds i x it (there ds (i + 1) x it j)
  ]
]
there (signature y args result at ∷ ds) i x it h = shift (signature y args result at) ds i x it (there ds (i + 1) x it h)
there (function f ∷ ds) i x it h =
    elim (find_step x (record { name = f.name; item = item.Function (slots_of f.params) (Some f.result) (i + 1) }) (map entry_of (declared_from ds (i + 1))) it h) [
      | inl k ↦ subst (At (function f ∷ ds) i x) k.1 (record { number = zero; there = f; is = refl; name = k.0; asks = refl; gives = refl; behind = omega arith })
      | inr k ↦ shift (function f) ds i x it (there ds (i + 1) x it k)
    ]

from_front : (defs : List Definition) (x : Text) (it : Item) → At defs 0 x it → IsThereAs defs x it
from_front defs x (item.Register w) h = h
from_front defs x item.Enum h = h
from_front defs x (item.Member e) h = h
from_front defs x (item.Function ps r after) h =
    let b = h.behind in record { number = h.number; function_there = h.there; is = h.is; name = h.name; asks = h.asks; gives = h.gives; behind = omega (arith, b) }

pub found_is_there : FoundIsThere
found_is_there defs x it h = elim (find_append x prelude (map entry_of (declared_from defs 0)) it h) [ inl k ↦ inl k | inr k ↦ inr (from_front defs x it (there defs 0 x it k)) ]
