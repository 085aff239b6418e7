-- Names are read and written.
use Rattle.std.proofs.Common.{◌≡◌, ◌≢◌, ℕ, zero, suc, Bool, true, false, ◌||◌, ◌&&◌, List, [], ◌∷◌, length, get_or, Option, Some, None, refl, sym, ap, ◌∙◌, subst, inl, inr, true≢false, eq-eqb, eqb-true, nat_eq, arith, append-nil}
use Rattle.std.specs.Prelude.{if◌then◌else◌, slice_set}
use Rattle.std.proofs.Math.ListN.{set}
use Rattle.std.proofs.Math.ListN.{get_or-map}
use Rattle.std.proofs.Math.Seq.{map-set_same}
use Rattle.std.proofs.lemmas.Bool.{and_parts, or_parts}
use Rattle.std.proofs.lemmas.List.{length-map, get_or-set_other}
use Rattle.bv_bits.specs.declared.Bits.{Bits}
use Rattle.bv_bits.specs.Bits.{width_of}
use Rattle.state_core.specs.State.{State, register_of, widths_of}
use Rattle.state_core.specs.World.{World}
use Rattle.sail_syntax.specs.Tree.{Text}
use Rattle.sail_values.specs.declared.value.Slot.{Slot}
use Rattle.sail_values.specs.declared.value.Local.{Local}
use Rattle.sail_values.specs.declared.value.Local.TheVariants as local
use Rattle.sail_values.specs.declared.value.Value.{Value}
use Rattle.sail_values.specs.declared.value.Value.TheVariants as value
use Rattle.sail_values.specs.Slots.{look, put, has}
use Rattle.sail_values.specs.Values.{is_vector}
use Rattle.sail_names.specs.declared.things.Named.{Named}
use Rattle.sail_names.specs.declared.things.Thing.{Thing}
use Rattle.sail_names.specs.declared.things.Thing.TheVariants as thing
use Rattle.sail_names.specs.Things.{find_thing}
use Rattle.eval_rules.specs.Flow.{gives}
use Rattle.eval_rules.specs.Names.{value_of, value_in, read_of, read, with_value, assigned, in_state, write}
use Rattle.eval_rules.specs.Moments.{reads, writes, Moment, at_moment, thing_read, name_read, thing_written, name_written}
use Rattle.eval_uses.specs.Uses.{has_read, has_write, SameOutside, SameRest, MomentsKeep, SameOrKept, ReachedAlike, both_give}
use Rattle.eval_uses.proofs.Joins.{same_rest, keeps_still, reach_still}
use Rattle.eval_uses.proofs.Told.{Told, told_gives}

abbrev none : Bits
none = record { width = 0; value = 0 }

-- ---- reading

own_read : (r : ℕ) (w : World) → has_read r (at_moment (reads r) w) ≡ true
own_read r w = ap (λ b. b || false) (eq-eqb r r refl)

told_register : (r : ℕ) (l : List Slot) → Told (λ w. gives (value.Bits (register_of w.state r)) l w) (λ w. at_moment (reads r) w)
told_register r l = record {
  keeps = λ w. keeps_still (at_moment (reads r) w) w;
  passed = λ w. inl refl;
  pairs = λ w v a. record {
    ends = both_give (value.Bits (register_of w.state r)) l w v refl (ap (λ b. gives (value.Bits b) l v) (a.registers r (own_read r w)))
        (reach_still (at_moment (reads r) w) w v);
    same = refl;
  };
}

told_thing : (t : Option Thing) (l : List Slot) → Told (λ w. gives (value_in t w.state) l w) (λ w. thing_read t w)
told_thing (Some (thing.Register r)) l = told_register r l
told_thing (Some (thing.Member e i)) l = told_gives (value.Member e i) l
told_thing (Some (thing.Given g)) l = told_gives value.Unit l
told_thing (Some (thing.Function i)) l = told_gives value.Unit l
told_thing None l = told_gives value.Unit l

told_name : (things : List Named) (x : Text) (o : Option Local) (l : List Slot) → Told (λ w. gives (read_of things o x w.state) l w) (λ w. name_read things o x w)
told_name things x (Some v) l = told_gives (value_of v) l
told_name things x None l = told_thing (find_thing x things) l

pub told_read : (things : List Named) (x : Text) (l : List Slot) → Told (read things x l) (λ w. name_read things (look x l) x w)
told_read things x l = told_name things x (look x l) l

-- ---- writing

-- a value is put into lists of one length
both_set : (l m : List Bits) (r : ℕ) (b d : Bits) → length l ≡ length m → get_or (set m r b) r d ≡ get_or (set l r b) r d
both_set [] [] r b d e = refl
both_set [] (y ∷ m) r b d e = absurd (omega (arith, e))
both_set (x ∷ l) [] r b d e = absurd (omega (arith, e))
both_set (x ∷ l) (y ∷ m) zero b d e = refl
both_set (x ∷ l) (y ∷ m) (suc r) b d e = both_set l m r b d (omega (arith, e))

apart : (q r : ℕ) → nat_eq q r ≡ false → q ≢ r
apart q r h e = true≢false (sym (eq-eqb q r e) ∙ h)

-- a register gets the value, where that fits
abbrev put_if : Bool → ℕ → Bits → State → State
put_if c r b s = if c then record s { registers = slice_set s.registers r b } else s

module _ (r : ℕ) (b : Bits) where
  -- the value fits the register
  abbrev fits_in : State → Bool
  fits_in s = is_vector b && nat_eq b.width (register_of s r).width

  other_kept : (c : Bool) (s : State) (q : ℕ) → nat_eq q r ≡ false → register_of (put_if c r b s) q ≡ register_of s q
  other_kept true s q h = get_or-set_other s.registers r q b none (apart q r h)
  other_kept false s q h = refl

  widths_kept : (c : Bool) (s : State) → fits_in s ≡ c → widths_of (put_if c r b s) ≡ widths_of s
  widths_kept true s e = map-set_same width_of s.registers r b none (eqb-true b.width (register_of s r).width ((and_parts (is_vector b) (nat_eq b.width (register_of s r).width) e).1))
  widths_kept false s e = refl

  rest_kept : (c : Bool) (w : World) → SameRest w (in_state (put_if c r b w.state) w)
  rest_kept true w = record { outside = record { memory = refl; answers = refl }; accesses = refl; events = refl }
  rest_kept false w = same_rest w

  -- both fit or neither does
  fit_alike : (s t : State) → widths_of t ≡ widths_of s → fits_in t ≡ fits_in s
  fit_alike s t e =
      ap (λ n. is_vector b && nat_eq b.width n)
      (sym (get_or-map width_of t.registers r none) ∙ ap (λ l. get_or l r 0) e ∙ get_or-map width_of s.registers r none)

  length_alike : (s t : State) → widths_of t ≡ widths_of s → length s.registers ≡ length t.registers
  length_alike s t e = sym (length-map s.registers width_of) ∙ sym (ap length e) ∙ length-map t.registers width_of

  abbrev behind : Bool → World → World
  behind c w = in_state (put_if c r b w.state) w

  -- at a moment that writes the register, whatever world it has
  module _ (ms : List Moment) (wrote : (q : ℕ) → has_write q ms ≡ (nat_eq q r || false)) where
    unwritten : (q : ℕ) → has_write q ms ≡ false → nat_eq q r ≡ false
    unwritten q h = (or_parts (nat_eq q r) false (sym (wrote q) ∙ h)).0

    put_keeps : (c : Bool) (w : World) → fits_in w.state ≡ c → MomentsKeep ms w (behind c w)
    put_keeps c w e = record {
      registers = λ q h. other_kept c w.state q (unwritten q h);
      widths = widths_kept c w.state e;
      rest = λ h. rest_kept c w;
      grows = record { accesses = []; events = []; accesses_grow = sym (append-nil w.accesses); events_grow = sym (append-nil w.events) };
    }

    same_or_kept : (c t : Bool) (w v : World) (q : ℕ) → nat_eq q r ≡ t → length w.state.registers ≡ length v.state.registers
        → SameOrKept ms w v (behind c w) (behind c v) q
    same_or_kept c false w v q h n = inr (other_kept c w.state q h, other_kept c v.state q h)
    same_or_kept false true w v q h n = inr (refl, refl)
    same_or_kept true true w v q h n =
        inl (
          wrote q ∙ ap (λ b. b || false) h,
          subst (λ i. get_or (set v.state.registers r b) i none ≡ get_or (set w.state.registers r b) i none) (sym (eqb-true q r h))
              (both_set w.state.registers v.state.registers r b none n),
        )

    put_reach : (c : Bool) (w v : World) → widths_of v.state ≡ widths_of w.state → ReachedAlike ms w v (behind c w) (behind c v)
    put_reach c w v e = record {
      registers = λ q. same_or_kept c (nat_eq q r) w v q refl (length_alike w.state v.state e);
      outside = λ s. by c s;
      rest = λ h. rest_kept c v;
      grow = record {
        accesses = [];
        events = [];
        one_accesses = sym (append-nil w.accesses);
        one_events = sym (append-nil w.events);
        other_accesses = sym (append-nil v.accesses);
        other_events = sym (append-nil v.events);
      };
    }
      where
        by : (c : Bool) → SameOutside w v → SameOutside (behind c w) (behind c v)
        by true s = record { memory = s.memory; answers = s.answers }
        by false s = s

  -- the moment of the write
  abbrev written_at : World → List Moment
  written_at w = at_moment (writes r) (behind (fits_in w.state) w)

  told_bits : (l : List Slot) → Told (λ w. gives value.Unit l (behind (fits_in w.state) w)) written_at
  told_bits l = record {
    keeps = λ w. put_keeps (written_at w) (λ q. refl) (fits_in w.state) w refl;
    passed = λ w. inr (0, record { did = writes r; world = behind (fits_in w.state) w }, omega arith, refl, refl);
    pairs = λ w v a. record {
      ends = both_give value.Unit l (behind (fits_in w.state) w) (behind (fits_in w.state) v) refl
          (ap (λ c. gives value.Unit l (behind c v)) (fit_alike w.state v.state a.widths))
          (put_reach (written_at w) (λ q. refl) (fits_in w.state) w v a.widths);
      same = refl;
    };
  }

-- a value that is no vector changes nothing
told_idle : (r : ℕ) (l : List Slot) → Told (λ w. gives value.Unit l w) (λ w. at_moment (writes r) w)
told_idle r l = record {
  keeps = λ w. keeps_still (at_moment (writes r) w) w;
  passed = λ w. inl refl;
  pairs = λ w v a. record { ends = both_give value.Unit l w v refl refl (reach_still (at_moment (writes r) w) w v); same = refl };
}

told_value : (r : ℕ) (u : Value) (l : List Slot)
    → Told (λ w. gives value.Unit l (in_state (with_value r u w.state) w)) (λ w. at_moment (writes r) (in_state (with_value r u w.state) w))
told_value r (value.Bits b) l = told_bits r b l
told_value r value.Unit l = told_idle r l
told_value r (value.Truth t) l = told_idle r l
told_value r (value.Member e i) l = told_idle r l

told_assigned : (t : Option Thing) (u : Value) (l : List Slot) → Told (λ w. gives value.Unit l (in_state (assigned t u w.state) w)) (λ w. thing_written t u w)
told_assigned (Some (thing.Register r)) u l = told_value r u l
told_assigned (Some (thing.Member e i)) u l = told_gives value.Unit l
told_assigned (Some (thing.Given g)) u l = told_gives value.Unit l
told_assigned (Some (thing.Function i)) u l = told_gives value.Unit l
told_assigned None u l = told_gives value.Unit l

told_write_by : (c : Bool) (t : Option Thing) (u : Value) (k l : List Slot)
    → Told (λ w. if c then gives value.Unit k w else gives value.Unit l (in_state (assigned t u w.state) w)) (λ w. if c then [] else thing_written t u w)
told_write_by true t u k l = told_gives value.Unit k
told_write_by false t u k l = told_assigned t u l

pub told_write : (things : List Named) (x : Text) (u : Value) (l : List Slot) → Told (write things x u l) (name_written things x u l)
told_write things x u l = told_write_by (has x l) (find_thing x things) u (put x (local.Is u) l) l
