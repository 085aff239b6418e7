-- Parts of values over bound variables, conditions of patterns, and locals.
use Rattle.std.proofs.Common.{◌≡◌, ℕ, zero, suc, ◌+◌, ◌-◌, Bool, true, false, ◌&&◌, List, [], ◌∷◌, drop, Option, Some, None, bytes_eq, nat_eq, nat_lt, eqb-true, refl, sym, ap, ◌∙◌, subst}
use Rattle.std.specs.Prelude.{⊤, if◌then◌else◌}
use Rattle.bv_bits.specs.declared.Bits.{Bits}
use Rattle.bv_bits.specs.declared.Op.TheVariants as op
use Rattle.bv_bits.specs.Bits.{IsBits}
use Rattle.sail_syntax.specs.Tree.{Text}
use Rattle.sail_syntax.specs.declared.tree.Infix.TheVariants as between
use Rattle.sail_syntax.specs.declared.patterns.Pattern.{Pattern}
use Rattle.sail_syntax.specs.declared.patterns.Pattern.TheVariants as pattern
use Rattle.sail_syntax.specs.declared.patterns.Part.{Part}
use Rattle.sail_syntax.specs.declared.patterns.Part.TheVariants as part
use Rattle.sail_names.specs.declared.things.Named.{Named}
use Rattle.sail_names.specs.declared.things.Thing.{Thing}
use Rattle.sail_names.specs.declared.things.Thing.TheVariants as thing
use Rattle.sail_names.specs.Things.{find_thing}
use Rattle.term_tree.specs.Terms.{Tree, lit, one, two, width_of}
use Rattle.term_tree.proofs.OperatorLemmas.{some_same, width_here}
use Rattle.term_make.specs.Making.{make}
use Rattle.term_arena.specs.Said.{said_just, said_then, single}
use Rattle.eval_rules.specs.Parts.{part_width}
use Rattle.sym_rules.specs.Values.{SymValue, sym_unit, sym_truth, sym_bits, sym_member, SymLocal, sym_is, sym_counts, SymSlot, sym_look, sym_put, sym_width}
use Rattle.sym_rules.specs.Trees.{Telling, making}
use Rattle.sym_rules.specs.Operators.{sym_operate_one, sym_applied}
use Rattle.sym_rules.specs.Parts.{sym_sliced, sym_above, sym_below, sym_updated, known_bit, equals_literal, equals_truth, is_member, name_condition, sym_piece, part_condition, parts_condition, condition, sym_holding, sym_part_bound, sym_parts_bound, sym_name_bound, sym_pattern_bound}
use Rattle.sym_rules.specs.Names.{sym_value_of}
use Rattle.sym_follows.proofs.Sound.{IsSoundPart, AreSoundParts, IsSoundPattern}
use Rattle.sym_shapes.proofs.Over.{IsOver, IsBitOver, IsValueOver, Says, says_then, says_if, Extends, value_more, literal_over, bit_made, two_over, operate_one_over, applied_over, bit_over, opposite_made_over}

-- ---- locals

abbrev pub IsLocalOver : List ℕ → SymLocal → Type 0
IsLocalOver bound (sym_is s) = IsValueOver bound s
IsLocalOver bound (sym_counts n) = ⊤

abbrev pub AreOver : List ℕ → List SymSlot → Type 0
AreOver bound [] = ⊤
AreOver bound (s ∷ ss) = IsLocalOver bound s.local × AreOver bound ss

local_more : {bound more : List ℕ} → Extends bound more → (l : SymLocal) → IsLocalOver bound l → IsLocalOver more l
local_more x (sym_is s) h = value_more x s h
local_more x (sym_counts n) h = tt

pub are_more : {bound more : List ℕ} → Extends bound more → (ss : List SymSlot) → AreOver bound ss → AreOver more ss
are_more x [] h = tt
are_more x (s ∷ ss) h = (local_more x s.local h.0, are_more x ss h.1)

module _ (bound : List ℕ) where
  abbrev pub IsOverIf : Option SymLocal → Type 0
  IsOverIf (Some l) = IsLocalOver bound l
  IsOverIf None = ⊤

  pub look_over : (x : Text) (ss : List SymSlot) → AreOver bound ss → IsOverIf (sym_look x ss)
  look_over x [] h = tt
  look_over x (s ∷ ss) h = elim (bytes_eq s.name x) as (λ b. IsOverIf (if b then Some s.local else sym_look x ss)) [ true ↦ h.0 | false ↦ look_over x ss h.1 ]

  pub put_over : (x : Text) (s : SymValue) (ss : List SymSlot) → IsValueOver bound s → AreOver bound ss → AreOver bound (sym_put x (sym_is s) ss)
  put_over x s [] h k = tt
  put_over x s (t ∷ ss) h k =
      elim (bytes_eq t.name x) as (λ b. AreOver bound (if b then record t { local = sym_is s } ∷ ss else t ∷ sym_put x (sym_is s) ss))
      [ true ↦ (h, k.1) | false ↦ (k.0, put_over x s ss h k.1) ]

  pub drop_over : (n : ℕ) (ss : List SymSlot) → AreOver bound ss → AreOver bound (drop n ss)
  drop_over zero ss h = h
  drop_over (suc n) [] h = tt
  drop_over (suc n) (s ∷ ss) h = drop_over n ss h.1

  pub value_of_over : (l : SymLocal) → IsLocalOver bound l → IsValueOver bound (sym_value_of l)
  value_of_over (sym_is s) h = h
  value_of_over (sym_counts n) h = tt

  -- ---- slices and updates

  pub sliced_over : (hi lo : ℕ) (s : SymValue) → IsValueOver bound s → Says (IsValueOver bound) (sym_sliced s hi lo).answer
  sliced_over hi lo s h =
      says_if (IsValueOver bound) (nat_lt hi 128 && nat_lt lo 128) (sym_operate_one (op.Extract hi lo) s) (said_just sym_unit) (λ e. operate_one_over bound (op.Extract hi lo) s refl h) (λ e. tt)

  above_over : (hi : ℕ) (s t : SymValue) → IsValueOver bound s → IsValueOver bound t → Says (IsValueOver bound) (sym_above s hi t).answer
  above_over hi s t h k =
      says_if (IsValueOver bound) (nat_lt (hi + 1) (sym_width s)) (said_then (sym_sliced s (sym_width s - 1) (hi + 1)) (λ high. sym_applied between.Join high t)) (said_just t)
      (λ e. says_then (IsValueOver bound) (IsValueOver bound) (sym_sliced s (sym_width s - 1) (hi + 1)) (λ high. sym_applied between.Join high t) (sliced_over (sym_width s - 1) (hi + 1) s h) (λ x p. applied_over bound between.Join x t p k))
      (λ e. k)

  below_over : (lo : ℕ) (s t : SymValue) → IsValueOver bound s → IsValueOver bound t → Says (IsValueOver bound) (sym_below s lo t).answer
  below_over lo s t h k =
      says_if (IsValueOver bound) (nat_eq lo 0) (said_just t) (said_then (sym_sliced s (lo - 1) 0) (λ low. sym_applied between.Join t low)) (λ e. k)
      (λ e. says_then (IsValueOver bound) (IsValueOver bound) (sym_sliced s (lo - 1) 0) (λ low. sym_applied between.Join t low) (sliced_over (lo - 1) 0 s h) (λ x p. applied_over bound between.Join t x k p))

  pub updated_over : (hi lo : ℕ) (s t : SymValue) → IsValueOver bound s → IsValueOver bound t → Says (IsValueOver bound) (sym_updated s hi lo t).answer
  updated_over hi lo s t h k =
      says_then (IsValueOver bound) (IsValueOver bound) (sym_above s hi t) (λ so_far. sym_below s lo so_far) (above_over hi s t h k) (λ x p. below_over lo s x h p)

  -- ---- conditions

  known_bit_over : (c : Bool) → Says (IsBitOver bound) (known_bit c).answer
  known_bit_over c = bit_over bound c

  equals_literal_over : (b : Bits) (s : SymValue) → IsBits b → IsValueOver bound s → Says (IsBitOver bound) (equals_literal b s).answer
  unfolding said_then
  equals_literal_over b (sym_bits t) hb h =
      says_if (IsBitOver bound) (nat_eq b.width (width_of t)) (said_then (single (lit b)) (λ l. making (two op.Eq t l))) (known_bit false)
      (λ e. let w : width_of t ≡ b.width = sym (eqb-true b.width (width_of t) e) in
      bit_made bound (two op.Eq t (lit b)) (two_over bound op.Eq t (lit b) (some_same (width_of t) b.width 1 w) refl h (literal_over bound b hb)) (width_here (nat_eq (width_of t) b.width) 1 (some_same (width_of t) b.width 1 w)))
      (λ e. known_bit_over false)
  equals_literal_over b sym_unit hb h = known_bit_over false
  equals_literal_over b (sym_truth t) hb h = known_bit_over false
  equals_literal_over b (sym_member e i) hb h = known_bit_over false

  equals_truth_over : (c : Bool) (s : SymValue) → IsValueOver bound s → Says (IsBitOver bound) (equals_truth c s).answer
  equals_truth_over true (sym_truth t) h = h
  equals_truth_over false (sym_truth t) h = opposite_made_over bound t h
  equals_truth_over c sym_unit h = known_bit_over false
  equals_truth_over c (sym_bits t) h = known_bit_over false
  equals_truth_over c (sym_member e i) h = known_bit_over false

  name_condition_over : (o : Option Thing) (s : SymValue) → Says (IsBitOver bound) (name_condition o s).answer
  name_condition_over (Some (thing.Member e i)) s = known_bit_over (is_member e i s)
  name_condition_over (Some (thing.Register r)) s = known_bit_over true
  name_condition_over (Some (thing.Given g)) s = known_bit_over true
  name_condition_over (Some (thing.Function i)) s = known_bit_over true
  name_condition_over None s = known_bit_over true

  -- both bits
  both_over : (t u : Tree) → IsBitOver bound t → IsBitOver bound u → IsBitOver bound (make (two op.And t u)).it
  both_over t u h k =
      let w = h.width ∙ sym k.width in
      bit_made bound (two op.And t u) (two_over bound op.And t u (some_same (width_of t) (width_of u) (width_of t) w) refl h.over k.over)
      (width_here (nat_eq (width_of t) (width_of u)) (width_of t) (some_same (width_of t) (width_of u) (width_of t) w) ∙ h.width)

  piece_over : (left w : ℕ) (s : SymValue) → IsValueOver bound s → Says (IsValueOver bound) (sym_piece s left w).answer
  piece_over left w s h = sliced_over (left - 1) (left - w) s h

  part_condition_over : (p : Part) (left : ℕ) (s : SymValue) (t : Tree) → IsSoundPart p → IsValueOver bound s → IsBitOver bound t → Says (IsBitOver bound) (part_condition p left s t).answer
  part_condition_over (part.Lit b) left s t hb h k =
      says_then (IsValueOver bound) (IsBitOver bound) (sym_piece s left b.width) (λ piece. said_then (equals_literal b piece) (λ u. making (two op.And t u))) (piece_over left b.width s h)
      (λ x p. says_then (IsBitOver bound) (IsBitOver bound) (equals_literal b x) (λ u. making (two op.And t u)) (equals_literal_over b x hb p) (λ u q. both_over t u k q))
  part_condition_over (part.Bind x w) left s t hb h k = k
  part_condition_over (part.Skip w) left s t hb h k = k

  parts_condition_over : (ps : List Part) (left : ℕ) (s : SymValue) (t : Tree) → AreSoundParts ps → IsValueOver bound s → IsBitOver bound t → Says (IsBitOver bound) (parts_condition ps left s t).answer
  parts_condition_over [] left s t hs h k = k
  parts_condition_over (p ∷ ps) left s t hs h k =
      says_then (IsBitOver bound) (IsBitOver bound) (part_condition p left s t) (λ u. parts_condition ps (left - part_width p) s u) (part_condition_over p left s t hs.0 h k)
      (λ u q. parts_condition_over ps (left - part_width p) s u hs.1 h q)

  pub condition_over : (things : List Named) (p : Pattern) (s : SymValue) → IsSoundPattern p → IsValueOver bound s → Says (IsBitOver bound) (condition things p s).answer
  condition_over things pattern.Any s hp h = known_bit_over true
  condition_over things (pattern.Name x) s hp h = name_condition_over (find_thing x things) s
  condition_over things (pattern.Lit b) s hp h = equals_literal_over b s hp h
  condition_over things (pattern.Truth b) s hp h = equals_truth_over b s h
  condition_over things (pattern.Parts ps) s hp h =
      says_then (IsBitOver bound) (IsBitOver bound) (known_bit true) (λ so_far. parts_condition ps (sym_width s) s so_far) (known_bit_over true) (λ u q. parts_condition_over ps (sym_width s) s u hp h q)

  -- ---- what patterns bind

  part_bound_over : (p : Part) (left : ℕ) (s : SymValue) (ss : List SymSlot) → IsValueOver bound s → AreOver bound ss → Says (AreOver bound) (sym_part_bound p left s ss).answer
  part_bound_over (part.Lit b) left s ss h k = k
  part_bound_over (part.Bind x w) left s ss h k =
      says_then (IsValueOver bound) (AreOver bound) (sym_piece s left w) (λ piece. said_just (sym_holding x piece ∷ ss)) (piece_over left w s h) (λ y p. (p, k))
  part_bound_over (part.Skip w) left s ss h k = k

  parts_bound_over : (ps : List Part) (left : ℕ) (s : SymValue) (ss : List SymSlot) → IsValueOver bound s → AreOver bound ss → Says (AreOver bound) (sym_parts_bound ps left s ss).answer
  parts_bound_over [] left s ss h k = k
  parts_bound_over (p ∷ ps) left s ss h k =
      says_then (AreOver bound) (AreOver bound) (sym_part_bound p left s ss) (λ more. sym_parts_bound ps (left - part_width p) s more) (part_bound_over p left s ss h k)
      (λ more q. parts_bound_over ps (left - part_width p) s more h q)

  name_bound_over : (o : Option Thing) (x : Text) (s : SymValue) (ss : List SymSlot) → IsValueOver bound s → AreOver bound ss → AreOver bound (sym_name_bound o x s ss)
  name_bound_over (Some (thing.Member e i)) x s ss h k = k
  name_bound_over (Some (thing.Register r)) x s ss h k = (h, k)
  name_bound_over (Some (thing.Given g)) x s ss h k = (h, k)
  name_bound_over (Some (thing.Function i)) x s ss h k = (h, k)
  name_bound_over None x s ss h k = (h, k)

  pub pattern_bound_over : (things : List Named) (p : Pattern) (s : SymValue) (ss : List SymSlot) → IsValueOver bound s → AreOver bound ss → Says (AreOver bound) (sym_pattern_bound things p s ss).answer
  pattern_bound_over things pattern.Any s ss h k = k
  pattern_bound_over things (pattern.Name x) s ss h k = name_bound_over (find_thing x things) x s ss h k
  pattern_bound_over things (pattern.Lit b) s ss h k = k
  pattern_bound_over things (pattern.Truth b) s ss h k = k
  pattern_bound_over things (pattern.Parts ps) s ss h k = parts_bound_over ps (sym_width s) s ss h k
