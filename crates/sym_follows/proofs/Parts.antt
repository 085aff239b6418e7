-- Parts of values over terms: slices and updates, locals, the conditions of patterns, and what patterns bind.
use Rattle.std.proofs.Common.{◌≡◌, ℕ, zero, suc, ◌+◌, ◌-◌, ◌<◌, Bool, true, false, ◌&&◌, List, [], ◌∷◌, drop, Option, Some, None, nat_eq, nat_lt, bit_and, eqb-true, eq-eqb, ne_eqb, ◌≢◌, ◌⊎◌, inl, inr, refl, sym, ap, ap₂, ◌∙◌, subst, arith}
use Rattle.std.specs.Prelude.{⊤, if◌then◌else◌, map, bytes_eq, option_map}
use Rattle.std.proofs.lemmas.Bool.Decides.{eqb_tells}
use Rattle.bv_bits.specs.declared.Bits.{Bits}
use Rattle.bv_bits.specs.declared.Op.TheVariants as op
use Rattle.bv_bits.specs.Bits.{IsBits}
use Rattle.term_tree.specs.Terms.{Tree, lit, two, width_of}
use Rattle.term_tree.specs.Values.{Values, IsValues, value}
use Rattle.term_tree.proofs.OperatorLemmas.{some_same, width_here}
use Rattle.term_make.specs.Making.{make}
use Rattle.term_arena.specs.Said.{said_just, said_then, single}
use Rattle.sail_syntax.specs.Tree.{Text}
use Rattle.sail_syntax.specs.declared.tree.Infix.TheVariants as between
use Rattle.sail_syntax.specs.declared.tree.Index.{Index}
use Rattle.sail_syntax.specs.declared.patterns.Pattern.{Pattern}
use Rattle.sail_syntax.specs.declared.patterns.Pattern.TheVariants as pattern
use Rattle.sail_syntax.specs.declared.patterns.Part.{Part}
use Rattle.sail_syntax.specs.declared.patterns.Part.TheVariants as part
use Rattle.sail_values.specs.declared.value.Value.{Value}
use Rattle.sail_values.specs.declared.value.Value.TheVariants as concrete
use Rattle.sail_values.specs.declared.value.Local.{Local}
use Rattle.sail_values.specs.declared.value.Local.TheVariants as local
use Rattle.sail_values.specs.declared.value.Slot.{Slot}
use Rattle.sail_values.specs.Values as sail
use Rattle.sail_values.specs.Slots.{look, put, has}
use Rattle.sail_names.specs.declared.things.Named.{Named}
use Rattle.sail_names.specs.declared.things.Thing.{Thing}
use Rattle.sail_names.specs.declared.things.Thing.TheVariants as thing
use Rattle.sail_names.specs.Things.{find_thing}
use Rattle.eval_rules.specs.Parts.{number_in, base_of, index_at, width_in, sliced, above, below, updated, part_width, piece, part_fits, parts_fit, name_fits, fits, holding, part_bound, parts_bound, name_bound, pattern_bound}
use Rattle.eval_rules.specs.Names.{value_of}
use Rattle.sym_rules.specs.Values.{SymValue, sym_unit, sym_truth, sym_bits, sym_member, SymLocal, sym_is, sym_counts, SymSlot, sym_look, sym_has, sym_put, sym_width}
use Rattle.sym_rules.specs.Trees.{Telling, making}
use Rattle.sym_rules.specs.Operators.{sym_operate_one, sym_applied}
use Rattle.sym_rules.specs.Parts.{sym_number, sym_base, sym_index, sym_sliced, sym_above, sym_below, sym_updated, known_bit, equals_literal, equals_truth, is_member, name_condition, sym_piece, part_condition, parts_condition, condition, sym_holding, sym_part_bound, sym_parts_bound, sym_name_bound, sym_pattern_bound}
use Rattle.sym_rules.specs.Names.{sym_value_of}
use Rattle.sym_follows.proofs.Sound.{IsSoundPart, AreSoundParts, IsSoundPattern}
use Rattle.sym_follows.proofs.Values.{value_at, IsTypedValue, Is, BitIs, Tells, tells_then, one_of_bit, bit_typed, width_at as width_at_values, bit_at, operate_one_is, bit_made, opposite_made, applied_is}

-- ---- locals

-- what a local stands for, where the variables have these values
abbrev pub local_at : Values → SymLocal → Local
local_at v (sym_is s) = local.Is (value_at v s)
local_at v (sym_counts n) = local.Counts n

-- a local with its name
abbrev pub slot_at : Values → SymSlot → Slot
slot_at v s = record { name = s.name; local = local_at v s.local }

abbrev pub slots_at : Values → List SymSlot → List Slot
slots_at v ss = map (slot_at v) ss

abbrev pub IsTypedLocal : SymLocal → Type 0
IsTypedLocal (sym_is s) = IsTypedValue s
IsTypedLocal (sym_counts n) = ⊤

abbrev pub AreTypedSlots : List SymSlot → Type 0
AreTypedSlots [] = ⊤
AreTypedSlots (s ∷ ss) = IsTypedLocal s.local × AreTypedSlots ss

-- what stands for locals
pub record SlotsAre (v : Values) (ss : List SymSlot) (ls : List Slot) : Type 0 where
  pub typed : AreTypedSlots ss
  pub same : slots_at v ss ≡ ls

pub look_at : (v : Values) (x : Text) (ss : List SymSlot) → look x (slots_at v ss) ≡ option_map (local_at v) (sym_look x ss)
look_at v x [] = refl
look_at v x (s ∷ ss) =
    elim (bytes_eq s.name x) as (λ b. (if b then Some (local_at v s.local) else look x (slots_at v ss)) ≡ option_map (local_at v) (if b then Some s.local else sym_look x ss))
    [ true ↦ refl | false ↦ look_at v x ss ]

pub has_at : (v : Values) (x : Text) (ss : List SymSlot) → has x (slots_at v ss) ≡ sym_has x ss
has_at v x [] = refl
has_at v x (s ∷ ss) =
    elim (bytes_eq s.name x) as (λ b. (if b then true else has x (slots_at v ss)) ≡ (if b then true else sym_has x ss)) [ true ↦ refl | false ↦ has_at v x ss ]

pub put_at : (v : Values) (x : Text) (s : SymValue) (ss : List SymSlot) → slots_at v (sym_put x (sym_is s) ss) ≡ put x (local.Is (value_at v s)) (slots_at v ss)
put_at v x s [] = refl
put_at v x s (t ∷ ss) =
    elim (bytes_eq t.name x) as (λ b. slots_at v (if b then record t { local = sym_is s } ∷ ss else t ∷ sym_put x (sym_is s) ss)
    ≡ (if b then record (slot_at v t) { local = local.Is (value_at v s) } ∷ slots_at v ss else slot_at v t ∷ put x (local.Is (value_at v s)) (slots_at v ss)))
    [ true ↦ refl | false ↦ ap (λ l. slot_at v t ∷ l) (put_at v x s ss) ]

pub put_typed : (x : Text) (s : SymValue) (ss : List SymSlot) → IsTypedValue s → AreTypedSlots ss → AreTypedSlots (sym_put x (sym_is s) ss)
put_typed x s [] h k = tt
put_typed x s (t ∷ ss) h k =
    elim (bytes_eq t.name x) as (λ b. AreTypedSlots (if b then record t { local = sym_is s } ∷ ss else t ∷ sym_put x (sym_is s) ss))
    [ true ↦ (h, k.1) | false ↦ (k.0, put_typed x s ss h k.1) ]

abbrev IsTypedIf : Option SymLocal → Type 0
IsTypedIf (Some l) = IsTypedLocal l
IsTypedIf None = ⊤

pub look_typed : (x : Text) (ss : List SymSlot) → AreTypedSlots ss → (l : SymLocal) → sym_look x ss ≡ Some l → IsTypedLocal l
look_typed x ss h l e = subst IsTypedIf e (found ss h)
  where
    found : (ss : List SymSlot) → AreTypedSlots ss → IsTypedIf (sym_look x ss)
    found [] h = tt
    found (s ∷ ss) h = elim (bytes_eq s.name x) as (λ b. IsTypedIf (if b then Some s.local else sym_look x ss)) [ true ↦ h.0 | false ↦ found ss h.1 ]

pub drop_typed : (n : ℕ) (ss : List SymSlot) → AreTypedSlots ss → AreTypedSlots (drop n ss)
drop_typed zero ss h = h
drop_typed (suc n) [] h = tt
drop_typed (suc n) (s ∷ ss) h = drop_typed n ss h.1

-- the value of a local
pub value_of_local : (v : Values) (l : SymLocal) → value_at v (sym_value_of l) ≡ value_of (local_at v l)
value_of_local v (sym_is s) = refl
value_of_local v (sym_counts n) = refl

pub value_of_typed : (l : SymLocal) → IsTypedLocal l → IsTypedValue (sym_value_of l)
value_of_typed (sym_is s) h = h
value_of_typed (sym_counts n) h = tt

-- ---- indices

number_at : (v : Values) (o : Option SymLocal) → number_in (option_map (local_at v) o) ≡ sym_number o
number_at v (Some (sym_counts n)) = refl
number_at v (Some (sym_is s)) = refl
number_at v None = refl

base_at : (v : Values) (x : Option Text) (ss : List SymSlot) → base_of x (slots_at v ss) ≡ sym_base x ss
base_at v (Some x) ss = ap number_in (look_at v x ss) ∙ number_at v (sym_look x ss)
base_at v None ss = refl

pub index_is : (v : Values) (i : Index) (ss : List SymSlot) (ls : List Slot) → slots_at v ss ≡ ls → index_at i ls ≡ sym_index i ss
index_is v i ss ls e = ap (index_at i) (sym e) ∙ ap (λ n. n + i.plus) (base_at v i.var ss)

module _ (v : Values) (valid : IsValues v) where
  -- ---- slices and updates

  width_is : {s : SymValue} {a : Value} → Is v s a → width_in a ≡ sym_width s
  width_is {s} h = ap width_in (sym h.same) ∙ step s h.typed
    where
      step : (s : SymValue) → IsTypedValue s → width_in (value_at v s) ≡ sym_width s
      step (sym_bits t) k = width_at_values v valid t k
      step sym_unit k = refl
      step (sym_truth t) k = refl
      step (sym_member e i) k = refl

  unit_is : Is v sym_unit concrete.Unit
  unit_is = record { typed = tt; same = refl }

  tells_if : (b : Bool) (s t : Telling SymValue) (a c : Value) → Tells (Is v) s.answer a → Tells (Is v) t.answer c
      → Tells (Is v) (if b then s else t).answer (if b then a else c)
  tells_if true s t a c h k = h
  tells_if false s t a c h k = k

  pub sliced_is : (hi lo : ℕ) {s : SymValue} {a : Value} → Is v s a → Tells (Is v) (sym_sliced s hi lo).answer (sliced a hi lo)
  sliced_is hi lo {s} {a} h =
      tells_if (nat_lt hi 128 && nat_lt lo 128) (sym_operate_one (op.Extract hi lo) s) (said_just sym_unit) (sail.operate_one (op.Extract hi lo) a) concrete.Unit
      (operate_one_is v valid (op.Extract hi lo) h) unit_is

  -- two values joined, of which the one is said
  joined : (s : Telling SymValue) (a : Value) {b : Value} {t : SymValue} → Tells (Is v) s.answer a → Is v t b → Tells (Is v) (said_then s (λ x. sym_applied between.Join x t)).answer (sail.applied between.Join a b)
  joined s a {b} {t} h k =
      tells_then (Is v) (Is v) s (λ x. sym_applied between.Join x t) a (sail.applied between.Join a b) h (λ x p. applied_is v valid between.Join p k)

  above_is : (hi : ℕ) {s t : SymValue} {a b : Value} → Is v s a → Is v t b → Tells (Is v) (sym_above s hi t).answer (above a hi b)
  above_is hi {s} {t} {a} {b} h k =
      subst (λ w. Tells (Is v) (sym_above s hi t).answer (if nat_lt (hi + 1) w then sail.applied between.Join (sliced a (w - 1) (hi + 1)) b else b)) (sym (width_is h))
      (tells_if (nat_lt (hi + 1) (sym_width s)) (said_then (sym_sliced s (sym_width s - 1) (hi + 1)) (λ high. sym_applied between.Join high t)) (said_just t)
      (sail.applied between.Join (sliced a (sym_width s - 1) (hi + 1)) b) b
      (joined (sym_sliced s (sym_width s - 1) (hi + 1)) (sliced a (sym_width s - 1) (hi + 1)) (sliced_is (sym_width s - 1) (hi + 1) h) k) k)

  below_is : (lo : ℕ) {s t : SymValue} {a b : Value} → Is v s a → Is v t b → Tells (Is v) (sym_below s lo t).answer (below a lo b)
  below_is lo {s} {t} {a} {b} h k =
      tells_if (nat_eq lo 0) (said_just t) (said_then (sym_sliced s (lo - 1) 0) (λ low. sym_applied between.Join t low)) b (sail.applied between.Join b (sliced a (lo - 1) 0)) k
      (tells_then (Is v) (Is v) (sym_sliced s (lo - 1) 0) (λ low. sym_applied between.Join t low) (sliced a (lo - 1) 0) (sail.applied between.Join b (sliced a (lo - 1) 0)) (sliced_is (lo - 1) 0 h)
      (λ x p. applied_is v valid between.Join k p))

  pub updated_is : (hi lo : ℕ) {s t : SymValue} {a b : Value} → Is v s a → Is v t b → Tells (Is v) (sym_updated s hi lo t).answer (updated a hi lo b)
  updated_is hi lo {s} {t} {a} {b} h k =
      tells_then (Is v) (Is v) (sym_above s hi t) (λ so_far. sym_below s lo so_far) (above a hi b) (updated a hi lo b) (above_is hi h k) (λ x p. below_is lo h p)

  -- ---- conditions

  known_bit_is : (c : Bool) → Tells (BitIs v) (known_bit c).answer c
  known_bit_is c = record { typed = bit_typed c; width = refl; same = one_of_bit c }

  eq_comm : (m n : ℕ) → nat_eq m n ≡ nat_eq n m
  eq_comm m n = step (eqb_tells m n)
    where
      step : ((nat_eq m n ≡ true) × (m ≡ n)) ⊎ ((nat_eq m n ≡ false) × (m ≢ n)) → nat_eq m n ≡ nat_eq n m
      step (inl y) = y.0 ∙ sym (eq-eqb n m (sym y.1))
      step (inr k) = k.0 ∙ sym (ne_eqb n m (λ e. k.1 (sym e)))

  equals_literal_at : (b : Bits) (s : SymValue) → IsBits b → IsTypedValue s → Tells (BitIs v) (equals_literal b s).answer (sail.same (concrete.Bits b) (value_at v s))
  unfolding said_then
  equals_literal_at b (sym_bits t) hb h =
      subst (λ w. Tells (BitIs v) (equals_literal b (sym_bits t)).answer (nat_eq b.width w && nat_eq b.value (value v t).value)) (sym (width_at_values v valid t h))
      (step (nat_eq b.width (width_of t)) refl)
    where
      step : (c : Bool) → nat_eq b.width (width_of t) ≡ c
          → Tells (BitIs v) (if c then said_then (single (lit b)) (λ l. making (two op.Eq t l)) else known_bit false).answer (c && nat_eq b.value (value v t).value)
      step true e =
          let w : width_of t ≡ b.width = sym (eqb-true b.width (width_of t) e) in
          bit_made v valid (two op.Eq t (lit b)) (nat_eq b.value (value v t).value) (some_same (width_of t) b.width 1 w, h, hb)
          (width_here (nat_eq (width_of t) b.width) 1 (some_same (width_of t) b.width 1 w))
          (one_of_bit (nat_eq (value v t).value b.value) ∙ eq_comm (value v t).value b.value)
      step false e = known_bit_is false
  equals_literal_at b sym_unit hb h = known_bit_is false
  equals_literal_at b (sym_truth t) hb h = known_bit_is false
  equals_literal_at b (sym_member e i) hb h = known_bit_is false

  equals_literal_is : (b : Bits) {s : SymValue} {a : Value} → IsBits b → Is v s a → Tells (BitIs v) (equals_literal b s).answer (sail.same (concrete.Bits b) a)
  equals_literal_is b {s} hb h = subst (λ a. Tells (BitIs v) (equals_literal b s).answer (sail.same (concrete.Bits b) a)) h.same (equals_literal_at b s hb h.typed)

  equals_truth_at : (c : Bool) (s : SymValue) → IsTypedValue s → Tells (BitIs v) (equals_truth c s).answer (sail.same (concrete.Truth c) (value_at v s))
  equals_truth_at true (sym_truth t) h = record { typed = h.0; width = h.1; same = refl }
  equals_truth_at false (sym_truth t) h = opposite_made v valid t (nat_eq (value v t).value 1) h.0 h.1 refl
  equals_truth_at c sym_unit h = known_bit_is false
  equals_truth_at c (sym_bits t) h = known_bit_is false
  equals_truth_at c (sym_member e i) h = known_bit_is false

  member_at : (e i : ℕ) (s : SymValue) → is_member e i s ≡ sail.same (concrete.Member e i) (value_at v s)
  member_at e i (sym_member f j) = refl
  member_at e i sym_unit = refl
  member_at e i (sym_truth t) = refl
  member_at e i (sym_bits t) = refl

  name_condition_is : (o : Option Thing) {s : SymValue} {a : Value} → Is v s a → Tells (BitIs v) (name_condition o s).answer (name_fits o a)
  name_condition_is (Some (thing.Member e i)) {s} h =
      subst (λ c. Tells (BitIs v) (known_bit (is_member e i s)).answer c) (member_at e i s ∙ ap (sail.same (concrete.Member e i)) h.same) (known_bit_is (is_member e i s))
  name_condition_is (Some (thing.Register r)) h = known_bit_is true
  name_condition_is (Some (thing.Given g)) h = known_bit_is true
  name_condition_is (Some (thing.Function i)) h = known_bit_is true
  name_condition_is None h = known_bit_is true

  -- both bits
  and_bits : (m n : ℕ) → m < 2 → n < 2 → nat_eq (bit_and m n) 1 ≡ (nat_eq m 1 && nat_eq n 1)
  and_bits zero zero h k = refl
  and_bits zero (suc zero) h k = refl
  and_bits zero (suc (suc n)) h k = absurd (omega (arith, k))
  and_bits (suc zero) zero h k = refl
  and_bits (suc zero) (suc zero) h k = refl
  and_bits (suc zero) (suc (suc n)) h k = absurd (omega (arith, k))
  and_bits (suc (suc m)) n h k = absurd (omega (arith, h))

  both_made : {t u : Tree} {c d : Bool} → BitIs v t c → BitIs v u d → BitIs v (make (two op.And t u)).it (c && d)
  both_made {t} {u} {c} {d} h k =
      let w = h.width ∙ sym k.width in
      bit_made v valid (two op.And t u) (c && d) (some_same (width_of t) (width_of u) (width_of t) w, h.typed, k.typed)
      (width_here (nat_eq (width_of t) (width_of u)) (width_of t) (some_same (width_of t) (width_of u) (width_of t) w) ∙ h.width)
      (and_bits (value v t).value (value v u).value (bit_at v valid t h.typed h.width) (bit_at v valid u k.typed k.width) ∙ ap₂ (λ c d. c && d) h.same k.same)

  piece_is : (left w : ℕ) {s : SymValue} {a : Value} → Is v s a → Tells (Is v) (sym_piece s left w).answer (piece a left w)
  piece_is left w h = sliced_is (left - 1) (left - w) h

  and_true : (c : Bool) → c ≡ (c && true)
  and_true true = refl
  and_true false = refl

  and_assoc : (c d e : Bool) → ((c && d) && e) ≡ (c && (d && e))
  and_assoc true d e = refl
  and_assoc false d e = refl

  part_condition_is : (p : Part) (left : ℕ) {s : SymValue} {a : Value} {t : Tree} {c : Bool} → IsSoundPart p → Is v s a → BitIs v t c
      → Tells (BitIs v) (part_condition p left s t).answer (c && part_fits p left a)
  part_condition_is (part.Lit b) left {s} {a} {t} {c} hb h k =
      tells_then (Is v) (BitIs v) (sym_piece s left b.width) (λ piece. said_then (equals_literal b piece) (λ u. making (two op.And t u))) (piece a left b.width)
      (c && sail.same (concrete.Bits b) (piece a left b.width)) (piece_is left b.width h)
      (λ x p. tells_then (BitIs v) (BitIs v) (equals_literal b x) (λ u. making (two op.And t u)) (sail.same (concrete.Bits b) (piece a left b.width))
      (c && sail.same (concrete.Bits b) (piece a left b.width)) (equals_literal_is b hb p) (λ u q. both_made k q))
  part_condition_is (part.Bind x w) left {s} {a} {t} {c} hb h k = subst (BitIs v t) (and_true c) k
  part_condition_is (part.Skip w) left {s} {a} {t} {c} hb h k = subst (BitIs v t) (and_true c) k

  parts_condition_is : (ps : List Part) (left : ℕ) {s : SymValue} {a : Value} {t : Tree} {c : Bool} → AreSoundParts ps → Is v s a → BitIs v t c
      → Tells (BitIs v) (parts_condition ps left s t).answer (c && parts_fit ps left a)
  parts_condition_is [] left {s} {a} {t} {c} hs h k = subst (BitIs v t) (and_true c) k
  parts_condition_is (p ∷ ps) left {s} {a} {t} {c} hs h k =
      tells_then (BitIs v) (BitIs v) (part_condition p left s t) (λ u. parts_condition ps (left - part_width p) s u) (c && part_fits p left a)
      (c && parts_fit (p ∷ ps) left a) (part_condition_is p left hs.0 h k)
      (λ u q. subst (Tells (BitIs v) (parts_condition ps (left - part_width p) s u).answer) (and_assoc c (part_fits p left a) (parts_fit ps (left - part_width p) a))
      (parts_condition_is ps (left - part_width p) hs.1 h q))

  pub condition_is : (things : List Named) (p : Pattern) {s : SymValue} {a : Value} → IsSoundPattern p → Is v s a → Tells (BitIs v) (condition things p s).answer (fits things p a)
  condition_is things pattern.Any hp h = known_bit_is true
  condition_is things (pattern.Name x) hp h = name_condition_is (find_thing x things) h
  condition_is things (pattern.Lit b) hp h = equals_literal_is b hp h
  condition_is things (pattern.Truth b) {s} hp h = subst (λ a. Tells (BitIs v) (equals_truth b s).answer (sail.same (concrete.Truth b) a)) h.same (equals_truth_at b s h.typed)
  condition_is things (pattern.Parts ps) {s} {a} hp h =
      subst (λ w. Tells (BitIs v) (condition things (pattern.Parts ps) s).answer (parts_fit ps w a)) (sym (width_is h))
      (tells_then (BitIs v) (BitIs v) (known_bit true) (λ so_far. parts_condition ps (sym_width s) s so_far) true (parts_fit ps (sym_width s) a) (known_bit_is true)
      (λ u q. parts_condition_is ps (sym_width s) hp h q))

  -- ---- what patterns bind

  pub holding_is : (x : Text) {s : SymValue} {a : Value} {ss : List SymSlot} {ls : List Slot} → Is v s a → SlotsAre v ss ls → SlotsAre v (sym_holding x s ∷ ss) (holding x a ∷ ls)
  holding_is x h k = record { typed = (h.typed, k.typed); same = ap₂ (λ a l. holding x a ∷ l) h.same k.same }

  part_bound_is : (p : Part) (left : ℕ) {s : SymValue} {a : Value} {ss : List SymSlot} {ls : List Slot} → Is v s a → SlotsAre v ss ls
      → Tells (SlotsAre v) (sym_part_bound p left s ss).answer (part_bound p left a ls)
  part_bound_is (part.Lit b) left h k = k
  part_bound_is (part.Bind x w) left {s} {a} {ss} {ls} h k =
      tells_then (Is v) (SlotsAre v) (sym_piece s left w) (λ piece. said_just (sym_holding x piece ∷ ss)) (piece a left w) (holding x (piece a left w) ∷ ls) (piece_is left w h)
      (λ y p. holding_is x p k)
  part_bound_is (part.Skip w) left h k = k

  parts_bound_is : (ps : List Part) (left : ℕ) {s : SymValue} {a : Value} {ss : List SymSlot} {ls : List Slot} → Is v s a → SlotsAre v ss ls
      → Tells (SlotsAre v) (sym_parts_bound ps left s ss).answer (parts_bound ps left a ls)
  parts_bound_is [] left h k = k
  parts_bound_is (p ∷ ps) left {s} {a} {ss} {ls} h k =
      tells_then (SlotsAre v) (SlotsAre v) (sym_part_bound p left s ss) (λ more. sym_parts_bound ps (left - part_width p) s more) (part_bound p left a ls)
      (parts_bound (p ∷ ps) left a ls) (part_bound_is p left h k) (λ more q. parts_bound_is ps (left - part_width p) h q)

  name_bound_is : (o : Option Thing) (x : Text) {s : SymValue} {a : Value} {ss : List SymSlot} {ls : List Slot} → Is v s a → SlotsAre v ss ls
      → SlotsAre v (sym_name_bound o x s ss) (name_bound o x a ls)
  name_bound_is (Some (thing.Member e i)) x h k = k
  name_bound_is (Some (thing.Register r)) x h k = holding_is x h k
  name_bound_is (Some (thing.Given g)) x h k = holding_is x h k
  name_bound_is (Some (thing.Function i)) x h k = holding_is x h k
  name_bound_is None x h k = holding_is x h k

  pub pattern_bound_is : (things : List Named) (p : Pattern) {s : SymValue} {a : Value} {ss : List SymSlot} {ls : List Slot} → Is v s a → SlotsAre v ss ls
      → Tells (SlotsAre v) (sym_pattern_bound things p s ss).answer (pattern_bound things p a ls)
  pattern_bound_is things pattern.Any h k = k
  pattern_bound_is things (pattern.Name x) h k = name_bound_is (find_thing x things) x h k
  pattern_bound_is things (pattern.Lit b) h k = k
  pattern_bound_is things (pattern.Truth b) h k = k
  pattern_bound_is things (pattern.Parts ps) {s} {a} {ss} {ls} h k =
      subst (λ w. Tells (SlotsAre v) (sym_parts_bound ps (sym_width s) s ss).answer (parts_bound ps w a ls)) (sym (width_is h)) (parts_bound_is ps (sym_width s) h k)
