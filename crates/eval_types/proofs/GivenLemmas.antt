-- The functions of the prelude, at arguments of their types.
use Rattle.std.proofs.Common.{◌≡◌, ℕ, ◌+◌, ◌*◌, ◌^◌, ◌≤◌, ◌<◌, Bool, true, false, ◌&&◌, List, [], ◌∷◌, map, Option, Some, None, refl, ap, sym, ◌∙◌, subst, arith}
use Rattle.std.specs.Prelude.{⊤, not, nat_lt, nat_le, nat_eq, if◌then◌else◌}
use Rattle.std.proofs.lemmas.Bool.{le-leb, eq-eqb, and_from, false≢true}
use Rattle.bv_bits.specs.declared.Bits.{Bits}
use Rattle.bv_bits.specs.declared.Op.{Op}
use Rattle.bv_bits.specs.declared.Op.TheVariants as op
use Rattle.bv_bits.specs.Bits.{IsBits, result_width_of, width_of}
use Rattle.sail_syntax.specs.Program.{Definition}
use Rattle.sail_syntax.specs.declared.types.Ty.{Ty}
use Rattle.sail_syntax.specs.declared.types.Ty.TheVariants as ty
use Rattle.state_core.specs.declared.kinds.Range.{Range}
use Rattle.state_core.specs.declared.kinds.AccessKind.TheVariants as access
use Rattle.state_core.specs.declared.kinds.FaultKind.TheVariants as kind
use Rattle.state_core.specs.State.{Memory}
use Rattle.state_core.specs.World.{World, Got, gets, faults, lacks, reached}
use Rattle.state_core.specs.Memory.{Nothing, nothing, load, store, logged, written, touches, in_device, told, or_no_place}
use Rattle.state_core.specs.Laws.{IsRead, IsStored}
use Rattle.sail_values.specs.declared.value.Value.{Value}
use Rattle.sail_values.specs.declared.value.Value.TheVariants as value
use Rattle.sail_values.specs.declared.value.Slot.{Slot}
use Rattle.sail_values.specs.Values.{is_vector, is_true, operate}
use Rattle.sail_names.specs.declared.things.Given.{Given}
use Rattle.sail_names.specs.declared.things.Given.TheVariants as given
use Rattle.type_rules.specs.declared.scope.Slot.{Slot as Asked}
use Rattle.type_rules.specs.declared.scope.Slot.TheVariants as slot
use Rattle.type_rules.specs.declared.scope.Local.{Local as Typed}
use Rattle.type_rules.specs.HasType.{Asks, IsOfBits, slot_asks, SlotTakes, Gives}
use Rattle.eval_rules.specs.Flow.{gives, pure}
use Rattle.eval_rules.specs.Prelude.{is_one, is_address, is_of_bytes, read_out, write_out, read_bytes, write_bytes, given_call}
use Rattle.eval_types.specs.Types.{IsOfType, LocalsFit, StateFits}
use Rattle.eval_types.specs.Keeps.{Ends}
use Rattle.eval_types.proofs.ValueLemmas.{OfBits, as_bits, from_bits, vector_passes, two_of, same_width}
use Rattle.eval_types.proofs.FlowLemmas.{Keeps, pure_of}

-- ---- arguments

module _ (defs : List Definition) where
  -- a value that an argument may have, where the first one has the type, if there is one
  pub record IsArgument (q : Asked) (one : Option Ty) (v : Value) (u : Ty) : Type 0 where
    pub asks : Asks (slot_asks q one) u
    pub takes : SlotTakes q u
    pub fit : IsOfType defs v u

  -- the others, where the first one has the type
  abbrev pub OthersFit : List Asked → Ty → List Value → Type 0
  OthersFit [] one [] = ⊤
  OthersFit [] one (v ∷ vs) = ⊥
  OthersFit (q ∷ qs) one [] = ⊥
  OthersFit (q ∷ qs) one (v ∷ vs) = ((u : Ty) × IsArgument q (Some one) v u) × OthersFit qs one vs

  -- all of them, of a function that gives the type
  abbrev pub ArgsFit : List Asked → Option Ty → List Value → Ty → Type 0
  ArgsFit [] result [] t = Gives result None t
  ArgsFit [] result (v ∷ vs) t = ⊥
  ArgsFit (q ∷ qs) result [] t = ⊥
  ArgsFit (q ∷ qs) result (v ∷ vs) t = (u : Ty) × (IsArgument q None v u × OthersFit qs u vs × Gives result (Some u) t)

-- ---- what the prelude's functions ask and give

abbrev pub asks_of : Given → List Asked
asks_of given.Not = slot.Is ty.Bool ∷ []
asks_of given.LtU = slot.AnyBits ∷ slot.Alike ∷ []
asks_of given.LtS = slot.AnyBits ∷ slot.Alike ∷ []
asks_of given.ShiftLeft = slot.AnyBits ∷ slot.AnyBits ∷ []
asks_of given.ShiftRight = slot.AnyBits ∷ slot.AnyBits ∷ []
asks_of given.ShiftRightArith = slot.AnyBits ∷ slot.AnyBits ∷ []
asks_of given.DivU = slot.AnyBits ∷ slot.Alike ∷ []
asks_of given.RemU = slot.AnyBits ∷ slot.Alike ∷ []
asks_of given.DivS = slot.AnyBits ∷ slot.Alike ∷ []
asks_of given.RemS = slot.AnyBits ∷ slot.Alike ∷ []
asks_of (given.Read n) = slot.Is (ty.Bits 64) ∷ []
asks_of (given.Write n) = slot.Is (ty.Bits 64) ∷ slot.Is (ty.Bits (8 * n)) ∷ []

abbrev pub result_of : Given → Option Ty
result_of given.Not = Some ty.Bool
result_of given.LtU = Some ty.Bool
result_of given.LtS = Some ty.Bool
result_of given.ShiftLeft = None
result_of given.ShiftRight = None
result_of given.ShiftRightArith = None
result_of given.DivU = None
result_of given.RemU = None
result_of given.DivS = None
result_of given.RemS = None
result_of (given.Read n) = Some (ty.Bits (8 * n))
result_of (given.Write n) = Some ty.Unit

-- an access is of one byte to 16
abbrev pub IsAccess : Given → Type 0
IsAccess (given.Read n) = (0 < n) × (n ≤ 16)
IsAccess (given.Write n) = (0 < n) × (n ≤ 16)
IsAccess g = ⊤

-- ---- operators

pub record IsBitsType (u : Ty) : Type 0 where
  pub width : ℕ
  pub is : u ≡ ty.Bits width

bits_type : (u : Ty) → IsOfBits u → IsBitsType u
bits_type (ty.Bits w) h = record { width = w; is = refl }
bits_type ty.Unit h = absurd h
bits_type ty.Bool h = absurd h
bits_type (ty.Enum x) h = absurd h

some_type : (u t : Ty) → Some u ≡ Some t → u ≡ t
some_type u t h = cc

module _ (defs : List Definition) where
  -- of two vectors, with the type of the first
  first_of_two : (o : Op) (a b : Value) (u v t : Ty) → IsOfBits u → IsOfBits v → IsOfType defs a u → IsOfType defs b v → Some u ≡ Some t
      → ((w m : ℕ) → result_width_of o (w ∷ m ∷ []) ≡ Some w) → IsOfType defs (operate o a b) t
  first_of_two o a b u v t p q h k e f =
      let x = bits_type u p in
      let y = bits_type v q in
      let g = from_bits defs (operate o a b) x.width (two_of o a b x.width y.width x.width (as_bits defs a x.width (subst (IsOfType defs a) x.is h)) (as_bits defs b y.width (subst (IsOfType defs b) y.is k)) (f x.width y.width)) in
      subst (IsOfType defs (operate o a b)) (sym x.is ∙ some_type u t e) g

  -- of two vectors of one width
  alike_of_two : (o : Op) (a b : Value) (u v t : Ty) → IsOfBits u → u ≡ v → IsOfType defs a u → IsOfType defs b v → Some u ≡ Some t
      → ((w : ℕ) → result_width_of o (w ∷ w ∷ []) ≡ Some w) → IsOfType defs (operate o a b) t
  alike_of_two o a b u v t p q h k e f =
      let x = bits_type u p in
      let g = from_bits defs (operate o a b) x.width (two_of o a b x.width x.width x.width (as_bits defs a x.width (subst (IsOfType defs a) x.is h)) (as_bits defs b x.width (subst (IsOfType defs b) (sym q ∙ x.is) k)) (f x.width)) in
      subst (IsOfType defs (operate o a b)) (sym x.is ∙ some_type u t e) g

-- ---- memory

-- what the laws of accesses say of reads and of writes
pub record Accesses (ranges : List Range) : Type 0 where
  pub loads : (at n : ℕ) (w : World) → IsRead n w (load ranges at n w)
  pub stores : (at n x : ℕ) (w : World) → IsStored w (store ranges at n x w)

passes : {X : Type 0} (x : Bool) (v u : X) → x ≡ true → (if x then v else u) ≡ v
passes true v u p = refl
passes false v u p = absurd (false≢true p)

-- the registers stay as they are
chosen : {X : Type 0} (P : Got X → Type 0) (b : Bool) (x y : Got X) → P x → P y → P (if b then x else y)
chosen P true x y px py = px
chosen P false x y px py = py

abbrev pub SameRegisters : {X : Type 0} → World → Got X → Type 0
SameRegisters w got = (reached got).state.registers ≡ w.state.registers

written_registers : (o : Option Memory) (w : World) → SameRegisters w (or_no_place o w)
written_registers (Some m) w = refl
written_registers None w = refl

pub store_registers : (ranges : List Range) (at n x : ℕ) (w : World) → SameRegisters w (store ranges at n x w)
unfolding store
store_registers ranges at n x w =
    let noted = logged access.Write at n w in
    chosen (SameRegisters w) (nat_lt (2 ^ 64) (at + n)) (faults kind.NoByte noted)
    (if touches ranges at n then (if in_device ranges at n then gets nothing (told at n x noted) else faults kind.BadDevice noted) else or_no_place (written noted.state.memory at n x) noted)
    refl
    (chosen (SameRegisters w) (touches ranges at n) (if in_device ranges at n then gets nothing (told at n x noted) else faults kind.BadDevice noted) (or_no_place (written noted.state.memory at n x) noted)
    (chosen (SameRegisters w) (in_device ranges at n) (gets nothing (told at n x noted)) (faults kind.BadDevice noted) refl refl)
    (written_registers (written noted.state.memory at n x) noted))

module _ (defs : List Definition) (ranges : List Range) (accesses : Accesses ranges) (scope : List Typed) where
  read_ends : (n at : ℕ) (locals : List Slot) (w : World) (got : Got ℕ) → 0 < n → n ≤ 16 → IsRead n w got → LocalsFit defs locals scope → StateFits defs w.state
      → Ends defs (λ after. LocalsFit defs after scope) (λ v. IsOfType defs v (ty.Bits (8 * n))) (read_out n at locals got)
  read_ends n at locals w (gets x world) p q r h s =
      let fit = r.fits s.values in
      ((record { positive = omega (arith, p); at_most = omega (arith, q); fits = fit }, refl), h, subst (StateFits defs) (sym r.state) s)
  read_ends n at locals w (faults k world) p q r h s = subst (StateFits defs) (sym r.state) s
  read_ends n at locals w (lacks world) p q r h s = subst (StateFits defs) (sym r.state) s

  pub state_stored : (w : World) (got : Got Nothing) → IsStored w got → SameRegisters w got → StateFits defs w.state → StateFits defs (reached got).state
  state_stored w got r e s = record { values = r.values s.values; widths = ap (map width_of) e ∙ s.widths }

  write_ends : (at : ℕ) (locals : List Slot) (w : World) (got : Got Nothing) → LocalsFit defs locals scope → StateFits defs (reached got).state
      → Ends defs (λ after. LocalsFit defs after scope) (λ v. IsOfType defs v ty.Unit) (write_out at locals got)
  write_ends at locals w (gets x world) h s = (refl, h, s)
  write_ends at locals w (faults k world) h s = s
  write_ends at locals w (lacks world) h s = s

  address : (a : Bits) → IsBits a → a.width ≡ 64 → is_address a ≡ true
  address a f e = and_from (is_vector a) (nat_eq a.width 64) (vector_passes a f) (eq-eqb a.width 64 e)

  read_of : (n at : ℕ) (v : Value) → 0 < n → n ≤ 16 → OfBits v 64 → Keeps defs scope (λ x. IsOfType defs x (ty.Bits (8 * n))) (read_bytes ranges n at v)
  read_of n at v p q a locals world h s =
      let e = passes (nat_le n 16 && is_address a.bits) (read_out n at locals (load ranges a.bits.value n world)) (gives value.Unit locals world) (and_from (nat_le n 16) (is_address a.bits) (le-leb n 16 q) (address a.bits a.fit a.width)) in
      subst (Ends defs (λ after. LocalsFit defs after scope) (λ x. IsOfType defs x (ty.Bits (8 * n)))) (sym (ap (λ v. read_bytes ranges n at v locals world) a.is ∙ e))
      (read_ends n at locals world (load ranges a.bits.value n world) p q (accesses.loads a.bits.value n world) h s)

  write_of : (n at : ℕ) (v x : Value) → n ≤ 16 → OfBits v 64 → OfBits x (8 * n) → Keeps defs scope (λ x. IsOfType defs x ty.Unit) (write_bytes ranges n at v x)
  write_of n at v x q a b locals world h s =
      let g = and_from (nat_le n 16) (is_address a.bits) (le-leb n 16 q) (address a.bits a.fit a.width) in
      let f = and_from (is_vector b.bits) (nat_eq b.bits.width (8 * n)) (vector_passes b.bits b.fit) (eq-eqb b.bits.width (8 * n) b.width) in
      let got = store ranges a.bits.value n b.bits.value world in
      let e = passes (nat_le n 16 && is_address a.bits && is_of_bytes n b.bits) (write_out at locals got) (gives value.Unit locals world) (and_from (nat_le n 16 && is_address a.bits) (is_of_bytes n b.bits) g f) in
      subst (Ends defs (λ after. LocalsFit defs after scope) (λ x. IsOfType defs x ty.Unit))
      (sym (ap (λ v. write_bytes ranges n at v x locals world) a.is ∙ ap (λ x. write_bytes ranges n at (value.Bits a.bits) x locals world) b.is ∙ e))
      (write_ends at locals world got h (state_stored world got (accesses.stores a.bits.value n b.bits.value world) (store_registers ranges a.bits.value n b.bits.value world) s))

  -- ---- calls

  truth_of : (t : Ty) (b : Bool) → ty.Bool ≡ t → Keeps defs scope (λ x. IsOfType defs x t) (pure (value.Truth b))
  truth_of t b e = pure_of defs scope (λ x. IsOfType defs x t) (value.Truth b) (sym e)

  one_call : (at : ℕ) (g : Given) (v : Value) (t : Ty) → IsAccess g → ArgsFit defs (asks_of g) (result_of g) (v ∷ []) t → Keeps defs scope (λ x. IsOfType defs x t) (given_call ranges g at (v ∷ []))
  one_call at given.Not v t k h = truth_of t (not (is_true v)) h.1.2
  one_call at (given.Read n) v t k h =
      let a = h.1.0 in
      let e = subst (IsOfType defs v) (sym a.asks) a.fit in
      subst (λ t. Keeps defs scope (λ x. IsOfType defs x t) (read_bytes ranges n at v)) h.1.2 (read_of n at v k.0 k.1 (as_bits defs v 64 e))
  one_call at given.LtU v t k h = absurd h.1.1
  one_call at given.LtS v t k h = absurd h.1.1
  one_call at given.ShiftLeft v t k h = absurd h.1.1
  one_call at given.ShiftRight v t k h = absurd h.1.1
  one_call at given.ShiftRightArith v t k h = absurd h.1.1
  one_call at given.DivU v t k h = absurd h.1.1
  one_call at given.RemU v t k h = absurd h.1.1
  one_call at given.DivS v t k h = absurd h.1.1
  one_call at given.RemS v t k h = absurd h.1.1
  one_call at (given.Write n) v t k h = absurd h.1.1

  -- a shift: the amount has any width
  shift_call : (o : Op) (v x : Value) (t : Ty) → ArgsFit defs (slot.AnyBits ∷ slot.AnyBits ∷ []) None (v ∷ x ∷ []) t → ((w m : ℕ) → result_width_of o (w ∷ m ∷ []) ≡ Some w)
      → Keeps defs scope (λ x. IsOfType defs x t) (pure (operate o v x))
  shift_call o v x t h f =
      let b = h.1.1.0 in
      pure_of defs scope (λ x. IsOfType defs x t) (operate o v x) (first_of_two defs o v x h.0 b.0 t h.1.0.takes b.1.takes h.1.0.fit b.1.fit h.1.2 f)

  -- a quotient or a rest: both have one width
  alike_call : (o : Op) (v x : Value) (t : Ty) → ArgsFit defs (slot.AnyBits ∷ slot.Alike ∷ []) None (v ∷ x ∷ []) t → ((w : ℕ) → result_width_of o (w ∷ w ∷ []) ≡ Some w)
      → Keeps defs scope (λ x. IsOfType defs x t) (pure (operate o v x))
  alike_call o v x t h f =
      let b = h.1.1.0 in
      pure_of defs scope (λ x. IsOfType defs x t) (operate o v x) (alike_of_two defs o v x h.0 b.0 t h.1.0.takes b.1.asks h.1.0.fit b.1.fit h.1.2 f)

  two_call : (at : ℕ) (g : Given) (v x : Value) (t : Ty) → IsAccess g → ArgsFit defs (asks_of g) (result_of g) (v ∷ x ∷ []) t → Keeps defs scope (λ x. IsOfType defs x t) (given_call ranges g at (v ∷ x ∷ []))
  two_call at given.Not v x t k h = absurd h.1.1
  two_call at (given.Read n) v x t k h = absurd h.1.1
  two_call at given.LtU v x t k h = truth_of t (is_one (operate op.ULt v x)) h.1.2
  two_call at given.LtS v x t k h = truth_of t (is_one (operate op.SLt v x)) h.1.2
  two_call at given.ShiftLeft v x t k h = shift_call op.Shl v x t h (λ w m. refl)
  two_call at given.ShiftRight v x t k h = shift_call op.LShr v x t h (λ w m. refl)
  two_call at given.ShiftRightArith v x t k h = shift_call op.AShr v x t h (λ w m. refl)
  two_call at given.DivU v x t k h = alike_call op.UDiv v x t h same_width
  two_call at given.RemU v x t k h = alike_call op.URem v x t h same_width
  two_call at given.DivS v x t k h = alike_call op.SDiv v x t h same_width
  two_call at given.RemS v x t k h = alike_call op.SRem v x t h same_width
  two_call at (given.Write n) v x t k h =
      let a = h.1.0 in
      let b = h.1.1.0.1 in
      subst (λ t. Keeps defs scope (λ x. IsOfType defs x t) (write_bytes ranges n at v x)) h.1.2
      (write_of n at v x k.1 (as_bits defs v 64 (subst (IsOfType defs v) (sym a.asks) a.fit)) (as_bits defs x (8 * n) (subst (IsOfType defs x) (sym b.asks) b.fit)))

  none_asked : (g : Given) (t : Ty) → ArgsFit defs (asks_of g) (result_of g) [] t → ⊥
  none_asked given.Not t h = h
  none_asked given.LtU t h = h
  none_asked given.LtS t h = h
  none_asked given.ShiftLeft t h = h
  none_asked given.ShiftRight t h = h
  none_asked given.ShiftRightArith t h = h
  none_asked given.DivU t h = h
  none_asked given.RemU t h = h
  none_asked given.DivS t h = h
  none_asked given.RemS t h = h
  none_asked (given.Read n) t h = h
  none_asked (given.Write n) t h = h

  too_many : (g : Given) (v x y : Value) (vs : List Value) (t : Ty) → ArgsFit defs (asks_of g) (result_of g) (v ∷ x ∷ y ∷ vs) t → ⊥
  too_many given.Not v x y vs t h = h.1.1
  too_many given.LtU v x y vs t h = h.1.1.1
  too_many given.LtS v x y vs t h = h.1.1.1
  too_many given.ShiftLeft v x y vs t h = h.1.1.1
  too_many given.ShiftRight v x y vs t h = h.1.1.1
  too_many given.ShiftRightArith v x y vs t h = h.1.1.1
  too_many given.DivU v x y vs t h = h.1.1.1
  too_many given.RemU v x y vs t h = h.1.1.1
  too_many given.DivS v x y vs t h = h.1.1.1
  too_many given.RemS v x y vs t h = h.1.1.1
  too_many (given.Read n) v x y vs t h = h.1.1
  too_many (given.Write n) v x y vs t h = h.1.1.1

  -- a call of a function of the prelude
  pub given_of : (at : ℕ) (g : Given) (vs : List Value) (t : Ty) → IsAccess g → ArgsFit defs (asks_of g) (result_of g) vs t → Keeps defs scope (λ x. IsOfType defs x t) (given_call ranges g at vs)
  given_of at g [] t k h = absurd (none_asked g t h)
  given_of at g (v ∷ []) t k h = one_call at g v t k h
  given_of at g (v ∷ x ∷ []) t k h = two_call at g v x t k h
  given_of at g (v ∷ x ∷ y ∷ vs) t k h = absurd (too_many g v x y vs t h)
