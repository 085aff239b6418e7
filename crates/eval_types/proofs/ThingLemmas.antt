-- What a name stands for in evaluation, against what it stands for in typing.
use Rattle.std.proofs.Common.{◌≡◌, ℕ, zero, suc, ◌+◌, ◌≤◌, ◌<◌, Bool, true, false, List, [], ◌∷◌, ◌++◌, map, length, Option, Some, None, refl, ap, sym, ◌∙◌, subst, arith}
use Rattle.std.specs.Prelude.{⊤, bytes_eq, slice_get, if◌then◌else◌}
use Rattle.sail_syntax.specs.Tree.{Text}
use Rattle.sail_syntax.specs.Program.{Definition, Function, order, register, enumeration, signature, function, registers_of}
use Rattle.sail_syntax.specs.declared.types.Ty.{Ty}
use Rattle.sail_syntax.specs.declared.types.Ty.TheVariants as ty
use Rattle.sail_names.specs.declared.things.Named.{Named}
use Rattle.sail_names.specs.declared.things.Thing.{Thing}
use Rattle.sail_names.specs.declared.things.Thing.TheVariants as thing
use Rattle.sail_names.specs.declared.things.Given.{Given}
use Rattle.sail_names.specs.declared.things.Given.TheVariants as given
use Rattle.sail_names.specs.Things.{find_thing, prelude_things, members_from, things_from, things_of}
use Rattle.type_rules.specs.declared.scope.Entry.{Entry}
use Rattle.type_rules.specs.declared.scope.Item.{Item}
use Rattle.type_rules.specs.declared.scope.Item.TheVariants as item
use Rattle.type_rules.specs.declared.scope.Slot.{Slot as Asked}
use Rattle.type_rules.specs.Names.{find, Declared, members_of, slots_of, declared_from, prelude, entry_of, globals_of}
use Rattle.eval_types.specs.Types.{Enum, enums_of, IsMemberOf, declared_width}
use Rattle.eval_types.proofs.GivenLemmas.{asks_of, result_of, IsAccess}

-- a function of the program, complete behind its own definition
pub record IsFunction (defs : List Definition) (i : ℕ) (params : List Asked) (result : Option Ty) (after : ℕ) : Type 0 where
  pub there : Function
  pub is : slice_get defs i ≡ Some (function there)
  pub asks : slots_of there.params ≡ params
  pub gives : Some there.result ≡ result
  pub behind : after ≡ i + 1

-- a function of the prelude
pub record IsGiven (g : Given) (params : List Asked) (result : Option Ty) (after : ℕ) : Type 0 where
  pub asks : asks_of g ≡ params
  pub gives : result_of g ≡ result
  pub access : IsAccess g
  pub first : after ≡ 0

module _ (defs : List Definition) where
  -- what was found is what it is of
  abbrev pub IsThing : Item → Option Thing → Type 0
  IsThing (item.Register w) (Some (thing.Register r)) = slice_get (map declared_width (registers_of defs)) r ≡ Some w
  IsThing (item.Member e) (Some (thing.Member of i)) = IsMemberOf (slice_get (enums_of defs) of) i (ty.Enum e)
  IsThing (item.Function ps r after) (Some (thing.Function i)) = IsFunction defs i ps r after
  IsThing (item.Function ps r after) (Some (thing.Given g)) = IsGiven g ps r after
  IsThing item.Enum o = ⊤
  IsThing i o = ⊥

  -- nothing is found of a name of no item; an enum's own name is nothing to evaluation
  abbrev pub AsFound : Option Item → Option Thing → Type 0
  AsFound (Some i) o = IsThing i o
  AsFound None None = ⊤
  AsFound None (Some t) = ⊥

  choose_found : (b : Bool) (i : Item) (t : Thing) (o : Option Item) (p : Option Thing) → IsThing i (Some t) → AsFound o p → AsFound (if b then Some i else o) (if b then Some t else p)
  choose_found true i t o p h k = h
  choose_found false i t o p h k = k

  -- entry by entry
  abbrev Matches : List Entry → List Named → Type 0
  Matches [] [] = ⊤
  Matches [] (n ∷ ns) = ⊥
  Matches (e ∷ es) [] = ⊥
  Matches (e ∷ es) (n ∷ ns) = ((e.name ≡ n.name) × IsThing e.item (Some n.thing)) × Matches es ns

  matched : (x : Text) (es fs : List Entry) (ns ms : List Named) → Matches es ns → AsFound (find x fs) (find_thing x ms) → AsFound (find x (es ++ fs)) (find_thing x (ns ++ ms))
  matched x [] fs [] ms h k = k
  matched x [] fs (n ∷ ns) ms h k = absurd h
  matched x (e ∷ es) fs [] ms h k = absurd h
  matched x (e ∷ es) fs (n ∷ ns) ms h k =
      subst (λ y. AsFound (if bytes_eq y x then Some e.item else find x (es ++ fs)) (find_thing x (n ∷ ns ++ ms))) (sym h.0.0)
      (choose_found (bytes_eq n.name x) e.item n.thing (find x (es ++ fs)) (find_thing x (ns ++ ms)) h.0.1 (matched x es fs ns ms h.1 k))

  -- ---- lists behind others

  -- what is left of a list from a number on
  abbrev pub IsTail : {X : Type 0} → List X → List X → ℕ → Type 0
  IsTail all part n = (k : ℕ) → slice_get all (n + k) ≡ slice_get part k

  pub tail_next : {X : Type 0} (all part : List X) (x : X) (n : ℕ) → IsTail all (x ∷ part) n → IsTail all part (n + 1)
  tail_next all part x n h k = let e : n + 1 + k ≡ n + suc k = omega arith in ap (slice_get all) e ∙ h (suc k)

  tail_same : {X : Type 0} (all part : List X) (n : ℕ) → IsTail all part n → IsTail all part (n + 0)
  tail_same all part n h k = let e : n + 0 + k ≡ n + k = omega arith in ap (slice_get all) e ∙ h k

  pub tail_head : {X : Type 0} (all part : List X) (x : X) (n : ℕ) → IsTail all (x ∷ part) n → slice_get all n ≡ Some x
  tail_head all part x n h = let e : n ≡ n + zero = omega arith in ap (slice_get all) e ∙ h zero

  -- ---- the program

  found_members : (x of : Text) (at e k : ℕ) (ms : List Text) (ds : List Declared) (ns : List Named) (all : Enum) → slice_get (enums_of defs) e ≡ Some all → all.name ≡ of → k + length ms ≤ length all.members
      → AsFound (find x (map entry_of ds)) (find_thing x ns) → AsFound (find x (map entry_of (members_of of at ms ++ ds))) (find_thing x (members_from e k ms ++ ns))
  found_members x of at e k [] ds ns all h n l r = r
  found_members x of at e k (m ∷ ms) ds ns all h n l r =
      let j : k < length all.members = omega (arith, l) in
      let f : k + 1 + length ms ≤ length all.members = omega (arith, l) in
      choose_found (bytes_eq m x) (item.Member of) (thing.Member e k) (find x (map entry_of (members_of of at ms ++ ds))) (find_thing x (members_from e (k + 1) ms ++ ns))
      (subst (λ o. IsMemberOf o k (ty.Enum of)) (sym h) (ap ty.Enum (sym n), j))
      (found_members x of at e (k + 1) ms ds ns all h n f r)

  found_enum : (b : Bool) (o : Option Item) (p : Option Thing) → AsFound o p → AsFound (if b then Some item.Enum else o) p
  found_enum true o p h = tt
  found_enum false o p h = h

  found_from : (x : Text) (ds : List Definition) (r e i : ℕ) → IsTail (map declared_width (registers_of defs)) (map declared_width (registers_of ds)) r → IsTail (enums_of defs) (enums_of ds) e → IsTail defs ds i
      → AsFound (find x (map entry_of (declared_from ds i))) (find_thing x (things_from ds r e i))
  found_from x [] r e i a b c = tt
  found_from x (order ∷ ds) r e i a b c =
      found_from x ds (r + 0) (e + 0) (i + 1) (tail_same (map declared_width (registers_of defs)) (map declared_width (registers_of ds)) r a) (tail_same (enums_of defs) (enums_of ds) e b) (tail_next defs ds order i c)
  found_from x (signature y args result at ∷ ds) r e i a b c =
      found_from x ds (r + 0) (e + 0) (i + 1) (tail_same (map declared_width (registers_of defs)) (map declared_width (registers_of ds)) r a) (tail_same (enums_of defs) (enums_of ds) e b) (tail_next defs ds (signature y args result at) i c)
  found_from x (register y w at ∷ ds) r e i a b c =
      choose_found (bytes_eq y x) (item.Register w) (thing.Register r) (find x (map entry_of (declared_from ds (i + 1)))) (find_thing x (things_from ds (r + 1) (e + 0) (i + 1)))
      (tail_head (map declared_width (registers_of defs)) (map declared_width (registers_of ds)) w r a)
      (found_from x ds (r + 1) (e + 0) (i + 1) (tail_next (map declared_width (registers_of defs)) (map declared_width (registers_of ds)) w r a) (tail_same (enums_of defs) (enums_of ds) e b) (tail_next defs ds (register y w at) i c))
  found_from x (function f ∷ ds) r e i a b c =
      choose_found (bytes_eq f.name x) (item.Function (slots_of f.params) (Some f.result) (i + 1)) (thing.Function i) (find x (map entry_of (declared_from ds (i + 1)))) (find_thing x (things_from ds (r + 0) (e + 0) (i + 1)))
      (record { there = f; is = tail_head defs ds (function f) i c; asks = refl; gives = refl; behind = refl })
      (found_from x ds (r + 0) (e + 0) (i + 1) (tail_same (map declared_width (registers_of defs)) (map declared_width (registers_of ds)) r a) (tail_same (enums_of defs) (enums_of ds) e b) (tail_next defs ds (function f) i c))
  found_from x (enumeration y ms at ∷ ds) r e i a b c =
      found_enum (bytes_eq y x) (find x (map entry_of (members_of y at ms ++ declared_from ds (i + 1)))) (find_thing x (members_from e 0 ms ++ things_from ds (r + 0) (e + 1) (i + 1)))
      (found_members x y at e 0 ms (declared_from ds (i + 1)) (things_from ds (r + 0) (e + 1) (i + 1)) (record { name = y; members = ms })
      (tail_head (enums_of defs) (enums_of ds) (record { name = y; members = ms }) e b) refl (omega arith)
      (found_from x ds (r + 0) (e + 1) (i + 1) (tail_same (map declared_width (registers_of defs)) (map declared_width (registers_of ds)) r a) (tail_next (enums_of defs) (enums_of ds) (record { name = y; members = ms }) e b) (tail_next defs ds (enumeration y ms at) i c)))

  -- ---- the prelude

  is_given : (g : Given) → IsAccess g → IsGiven g (asks_of g) (result_of g) 0
  is_given g h = record { asks = refl; gives = refl; access = h; first = refl }

  prelude_matches : Matches prelude prelude_things
  unfolding prelude_things
  prelude_matches =
      ((refl, is_given given.Not tt), ((refl, is_given given.LtU tt), ((refl, is_given given.LtS tt), ((refl, is_given given.ShiftLeft tt), ((refl, is_given given.ShiftRight tt), ((refl, is_given given.ShiftRightArith tt), ((refl, is_given given.DivU tt), ((refl, is_given given.RemU tt), ((refl, is_given given.DivS tt), ((refl, is_given given.RemS tt), ((refl, is_given (given.Read 1) (omega arith, omega arith)), ((refl, is_given (given.Read 2) (omega arith, omega arith)), ((refl, is_given (given.Read 4) (omega arith, omega arith)), ((refl, is_given (given.Read 8) (omega arith, omega arith)), ((refl, is_given (given.Read 16) (omega arith, omega arith)), ((refl, is_given (given.Write 1) (omega arith, omega arith)), ((refl, is_given (given.Write 2) (omega arith, omega arith)), ((refl, is_given (given.Write 4) (omega arith, omega arith)), ((refl, is_given (given.Write 8) (omega arith, omega arith)), ((refl, is_given (given.Write 16) (omega arith, omega arith)), tt))))))))))))))))))))

  pub from_none : {X : Type 0} (xs : List X) → IsTail xs xs 0
  from_none xs k = let e : 0 + k ≡ k = omega arith in ap (slice_get xs) e

  -- what a name stands for
  pub found : (x : Text) → AsFound (find x (globals_of defs)) (find_thing x (things_of defs))
  unfolding things_of
  found x =
      matched x prelude (map entry_of (declared_from defs 0)) prelude_things (things_from defs 0 0 0) prelude_matches
      (found_from x defs 0 0 0 (from_none (map declared_width (registers_of defs))) (from_none (enums_of defs)) (from_none defs))
