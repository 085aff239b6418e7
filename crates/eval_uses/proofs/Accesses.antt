-- Memory and devices are read and written.
use Rattle.std.proofs.Common.{◌≡◌, ℕ, ◌+◌, ◌*◌, ◌%◌, ◌^◌, Bool, true, false, ◌&&◌, nat_lt, nat_le, List, [], ◌∷◌, ◌++◌, refl, sym, ap, ap₂, subst, inr, true≢false, append-nil, arith, Some, None, Option}
use Rattle.std.specs.Prelude.{if◌then◌else◌, map, slice_index_or}
use Rattle.bv_bits.specs.declared.Bits.{Bits}
use Rattle.bv_bits.specs.Bits.{width_of}
use Rattle.state_core.specs.State.{Memory}
use Rattle.state_core.specs.World.{World, Got, gets, faults, lacks, reached, fault, lacks_answer}
use Rattle.state_core.specs.Memory.{Nothing, nothing, number_at, written, touches, in_device, logged, or_no_byte, answered, or_no_place, told, load, store}
use Rattle.state_core.specs.declared.kinds.AccessKind.{AccessKind}
use Rattle.state_core.specs.declared.kinds.AccessKind.TheVariants as access
use Rattle.state_core.specs.declared.kinds.FaultKind.{FaultKind}
use Rattle.state_core.specs.declared.kinds.FaultKind.TheVariants as kind
use Rattle.state_core.specs.declared.kinds.Range.{Range}
use Rattle.sail_values.specs.declared.value.Slot.{Slot}
use Rattle.sail_values.specs.declared.value.Value.{Value}
use Rattle.sail_values.specs.declared.value.Value.TheVariants as value
use Rattle.sail_names.specs.declared.things.Given.{Given}
use Rattle.sail_names.specs.declared.things.Given.TheVariants as given
use Rattle.eval_rules.specs.Flow.{gives}
use Rattle.eval_rules.specs.Prelude.{is_address, is_of_bytes, bytes_value, read_out, write_out, read_bytes, write_vector, write_bytes, given_on}
use Rattle.eval_rules.specs.Moments.{accesses, Moment, access_moments, read_moments, vector_moments, write_moments, given_moments}
use Rattle.eval_uses.specs.Uses.{world_in, SameOutside, MomentsKeep, GrowAlike, ReachedAlike, OutcomesAlike, both_give, both_stop}
use Rattle.eval_uses.proofs.Joins.{same_rest}
use Rattle.eval_uses.proofs.Told.{Told, told_gives}

-- what an access leaves, from two worlds with the same memory and answers
record LeftAlike (w v x y : World) : Type 0 where
  pub one : x.state.registers ≡ w.state.registers
  pub other : y.state.registers ≡ v.state.registers
  pub outside : SameOutside x y
  pub grow : GrowAlike w v x y

-- two accesses that come to the same
data GotAlike {X : Type 0} (w v : World) (one two : Got X) : Type 0 where
  both_get : (x : X) → (u t : World) → one ≡ gets x u → two ≡ gets x t → LeftAlike w v u t → GotAlike w v one two
  both_fault : (k : FaultKind) → (u t : World) → one ≡ faults k u → two ≡ faults k t → LeftAlike w v u t → GotAlike w v one two
  both_lack : (u t : World) → one ≡ lacks u → two ≡ lacks t → LeftAlike w v u t → GotAlike w v one two

-- ---- loads and stores

module _ (k : AccessKind) (at n : ℕ) (w v : World) (same : SameOutside w v) where
  -- the access alone is noted
  left_noted : LeftAlike w v (logged k at n w) (logged k at n v)
  left_noted = record {
    one = refl;
    other = refl;
    outside = record { memory = same.memory; answers = same.answers };
    grow = record {
      accesses = record { kind = k; addr = at; bytes = n } ∷ [];
      events = [];
      one_accesses = refl;
      one_events = sym (append-nil w.events);
      other_accesses = refl;
      other_events = sym (append-nil v.events);
    };
  }

  number_alike : (o : Option ℕ) → GotAlike w v (or_no_byte o (logged k at n w)) (or_no_byte o (logged k at n v))
  number_alike (Some x) = both_get x (logged k at n w) (logged k at n v) refl refl left_noted
  number_alike None = both_fault kind.NoByte (logged k at n w) (logged k at n v) refl refl left_noted

  -- a world behind a device's answer
  abbrev taken : ℕ → List ℕ → World → World
  taken a rest u = record u { answers = rest; events = u.events ++ record { write = false; addr = at; bytes = n; value = a % 2 ^ (8 * n) } ∷ [] }

  answer_alike : (answers : List ℕ) → GotAlike w v (answered answers at n (logged k at n w)) (answered answers at n (logged k at n v))
  answer_alike [] = both_lack (logged k at n w) (logged k at n v) refl refl left_noted
  answer_alike (a ∷ rest) =
      both_get (a % 2 ^ (8 * n)) (taken a rest (logged k at n w)) (taken a rest (logged k at n v)) refl refl (record {
        one = refl;
        other = refl;
        outside = record { memory = same.memory; answers = refl };
        grow = record {
          accesses = record { kind = k; addr = at; bytes = n } ∷ [];
          events = record { write = false; addr = at; bytes = n; value = a % 2 ^ (8 * n) } ∷ [];
          one_accesses = refl;
          one_events = refl;
          other_accesses = refl;
          other_events = refl;
        };
      })

  -- a load by what it depends on
  abbrev load_by : Bool → Bool → Bool → List ℕ → Option ℕ → World → Got ℕ
  load_by past touch lies answers o u =
      if past then faults kind.NoByte u else (if touch then (if lies then answered answers at n u else faults kind.BadDevice u) else or_no_byte o u)

  load_by_alike : (past touch lies : Bool) (answers : List ℕ) (o : Option ℕ)
      → GotAlike w v (load_by past touch lies answers o (logged k at n w)) (load_by past touch lies answers o (logged k at n v))
  load_by_alike true touch lies answers o = both_fault kind.NoByte (logged k at n w) (logged k at n v) refl refl left_noted
  load_by_alike false true true answers o = answer_alike answers
  load_by_alike false true false answers o = both_fault kind.BadDevice (logged k at n w) (logged k at n v) refl refl left_noted
  load_by_alike false false lies answers o = number_alike o

  -- a world with another memory
  abbrev holding : Memory → World → World
  holding m u = record u { state = record u.state { memory = m } }

  place_alike : (o : Option Memory) → GotAlike w v (or_no_place o (logged k at n w)) (or_no_place o (logged k at n v))
  place_alike (Some m) =
      both_get nothing (holding m (logged k at n w)) (holding m (logged k at n v)) refl refl (record {
        one = refl;
        other = refl;
        outside = record { memory = refl; answers = same.answers };
        grow = record {
          accesses = record { kind = k; addr = at; bytes = n } ∷ [];
          events = [];
          one_accesses = refl;
          one_events = sym (append-nil w.events);
          other_accesses = refl;
          other_events = sym (append-nil v.events);
        };
      })
  place_alike None = both_fault kind.NoByte (logged k at n w) (logged k at n v) refl refl left_noted

  told_alike : (x : ℕ) → GotAlike w v (gets nothing (told at n x (logged k at n w))) (gets nothing (told at n x (logged k at n v)))
  told_alike x =
      both_get nothing (told at n x (logged k at n w)) (told at n x (logged k at n v)) refl refl (record {
        one = refl;
        other = refl;
        outside = record { memory = same.memory; answers = same.answers };
        grow = record {
          accesses = record { kind = k; addr = at; bytes = n } ∷ [];
          events = record { write = true; addr = at; bytes = n; value = x } ∷ [];
          one_accesses = refl;
          one_events = refl;
          other_accesses = refl;
          other_events = refl;
        };
      })

  abbrev store_by : Bool → Bool → Bool → ℕ → Option Memory → World → Got Nothing
  store_by past touch lies x o u =
      if past then faults kind.NoByte u else (if touch then (if lies then gets nothing (told at n x u) else faults kind.BadDevice u) else or_no_place o u)

  store_by_alike : (past touch lies : Bool) (x : ℕ) (o : Option Memory)
      → GotAlike w v (store_by past touch lies x o (logged k at n w)) (store_by past touch lies x o (logged k at n v))
  store_by_alike true touch lies x o = both_fault kind.NoByte (logged k at n w) (logged k at n v) refl refl left_noted
  store_by_alike false true true x o = told_alike x
  store_by_alike false true false x o = both_fault kind.BadDevice (logged k at n w) (logged k at n v) refl refl left_noted
  store_by_alike false false lies x o = place_alike o

load_alike : (ranges : List Range) (at n : ℕ) (w v : World) → SameOutside w v → GotAlike w v (load ranges at n w) (load ranges at n v)
unfolding load
load_alike ranges at n w v s =
    subst (λ g. GotAlike w v (load ranges at n w) g)
    (ap₂ (λ a m. load_by access.Read at n w v s (nat_lt (2 ^ 64) (at + n)) (touches ranges at n) (in_device ranges at n) a (number_at m at n) (logged access.Read at n v)) (sym s.answers) (sym s.memory))
    (load_by_alike access.Read at n w v s (nat_lt (2 ^ 64) (at + n)) (touches ranges at n) (in_device ranges at n) w.answers (number_at w.state.memory at n))

store_alike : (ranges : List Range) (at n x : ℕ) (w v : World) → SameOutside w v → GotAlike w v (store ranges at n x w) (store ranges at n x v)
unfolding store
store_alike ranges at n x w v s =
    subst (λ g. GotAlike w v (store ranges at n x w) g)
    (ap (λ m. store_by access.Write at n w v s (nat_lt (2 ^ 64) (at + n)) (touches ranges at n) (in_device ranges at n) x (written m at n x) (logged access.Write at n v)) (sym s.memory))
    (store_by_alike access.Write at n w v s (nat_lt (2 ^ 64) (at + n)) (touches ranges at n) (in_device ranges at n) x (written w.state.memory at n x))

-- ---- what they tell

-- an access with its two moments
module _ (a b : World) where
  abbrev two_at : List Moment
  two_at = record { did = accesses; world = a } ∷ record { did = accesses; world = b } ∷ []

  left_keeps : (w v x y : World) → LeftAlike w v x y → MomentsKeep two_at w x
  left_keeps w v x y l = record {
    registers = λ r h. ap (λ rs. slice_index_or rs r (record { width = 0; value = 0 })) l.one;
    widths = ap (map width_of) l.one;
    rest = λ h. absurd (true≢false h);
    grows = record { accesses = l.grow.accesses; events = l.grow.events; accesses_grow = l.grow.one_accesses; events_grow = l.grow.one_events };
  }

  left_reach : (w v x y : World) → LeftAlike w v x y → ReachedAlike two_at w v x y
  left_reach w v x y l = record {
    registers = λ r. inr (ap (λ rs. slice_index_or rs r (record { width = 0; value = 0 })) l.one, ap (λ rs. slice_index_or rs r (record { width = 0; value = 0 })) l.other);
    outside = λ s. l.outside;
    rest = λ h. absurd (true≢false h);
    grow = l.grow;
  }

  got_keeps : {X : Type 0} (w v : World) (one two : Got X) → GotAlike w v one two → MomentsKeep two_at w (reached one)
  got_keeps w v one two (both_get x u t e h l) = rw e (left_keeps w v u t l)
  got_keeps w v one two (both_fault k u t e h l) = rw e (left_keeps w v u t l)
  got_keeps w v one two (both_lack u t e h l) = rw e (left_keeps w v u t l)

  read_ends : (n at : ℕ) (k : List Slot) (w v : World) (one two : Got ℕ) → GotAlike w v one two → OutcomesAlike two_at w v (read_out n at k one) (read_out n at k two)
  read_ends n at k w v one two (both_get x u t e h l) = both_give (bytes_value n x) k u t (ap (read_out n at k) e) (ap (read_out n at k) h) (left_reach w v u t l)
  read_ends n at k w v one two (both_fault f u t e h l) = both_stop (fault f at) u t (ap (read_out n at k) e) (ap (read_out n at k) h) (left_reach w v u t l)
  read_ends n at k w v one two (both_lack u t e h l) = both_stop lacks_answer u t (ap (read_out n at k) e) (ap (read_out n at k) h) (left_reach w v u t l)

  write_ends : (at : ℕ) (k : List Slot) (w v : World) (one two : Got Nothing) → GotAlike w v one two → OutcomesAlike two_at w v (write_out at k one) (write_out at k two)
  write_ends at k w v one two (both_get x u t e h l) = both_give value.Unit k u t (ap (write_out at k) e) (ap (write_out at k) h) (left_reach w v u t l)
  write_ends at k w v one two (both_fault f u t e h l) = both_stop (fault f at) u t (ap (write_out at k) e) (ap (write_out at k) h) (left_reach w v u t l)
  write_ends at k w v one two (both_lack u t e h l) = both_stop lacks_answer u t (ap (write_out at k) e) (ap (write_out at k) h) (left_reach w v u t l)

read_world : (n at : ℕ) (k : List Slot) (g : Got ℕ) → world_in (read_out n at k g) ≡ reached g
read_world n at k (gets x w) = refl
read_world n at k (faults f w) = refl
read_world n at k (lacks w) = refl

write_world : (at : ℕ) (k : List Slot) (g : Got Nothing) → world_in (write_out at k g) ≡ reached g
write_world at k (gets x w) = refl
write_world at k (faults f w) = refl
write_world at k (lacks w) = refl

same_outside : (w : World) → SameOutside w w
same_outside w = (same_rest w).outside

told_load : (ranges : List Range) (n at a : ℕ) (k : List Slot)
    → Told (λ w. read_out n at k (load ranges a n w)) (λ w. access_moments (logged access.Read a n w) (load ranges a n w))
told_load ranges n at a k = record {
  keeps = λ w.
      subst (λ x. MomentsKeep (two_at (logged access.Read a n w) (reached (load ranges a n w))) w x) (sym (read_world n at k (load ranges a n w)))
      (got_keeps (logged access.Read a n w) (reached (load ranges a n w)) w w (load ranges a n w) (load ranges a n w) (load_alike ranges a n w w (same_outside w)));
  passed = λ w. inr (1, record { did = accesses; world = reached (load ranges a n w) }, omega arith, refl, sym (read_world n at k (load ranges a n w)));
  pairs = λ w v h. record {
    ends = read_ends (logged access.Read a n w) (reached (load ranges a n w)) n at k w v (load ranges a n w) (load ranges a n v) (load_alike ranges a n w v (h.outside refl));
    same = refl;
  };
}

told_store : (ranges : List Range) (n at a x : ℕ) (k : List Slot)
    → Told (λ w. write_out at k (store ranges a n x w)) (λ w. access_moments (logged access.Write a n w) (store ranges a n x w))
told_store ranges n at a x k = record {
  keeps = λ w.
      subst (λ y. MomentsKeep (two_at (logged access.Write a n w) (reached (store ranges a n x w))) w y) (sym (write_world at k (store ranges a n x w)))
      (got_keeps (logged access.Write a n w) (reached (store ranges a n x w)) w w (store ranges a n x w) (store ranges a n x w) (store_alike ranges a n x w w (same_outside w)));
  passed = λ w. inr (1, record { did = accesses; world = reached (store ranges a n x w) }, omega arith, refl, sym (write_world at k (store ranges a n x w)));
  pairs = λ w v h. record {
    ends = write_ends (logged access.Write a n w) (reached (store ranges a n x w)) at k w v (store ranges a n x w) (store ranges a n x v) (store_alike ranges a n x w v (h.outside refl));
    same = refl;
  };
}

-- ---- functions of the prelude

read_by : (c : Bool) (ranges : List Range) (n at a : ℕ) (k : List Slot)
    → Told (λ w. if c then read_out n at k (load ranges a n w) else gives value.Unit k w)
    (λ w. if c then access_moments (logged access.Read a n w) (load ranges a n w) else [])
read_by true ranges n at a k = told_load ranges n at a k
read_by false ranges n at a k = told_gives value.Unit k

told_reads : (ranges : List Range) (n at : ℕ) (a : Value) (k : List Slot) → Told (read_bytes ranges n at a k) (read_moments ranges n a)
told_reads ranges n at (value.Bits a) k = read_by (nat_le n 16 && is_address a) ranges n at a.value k
told_reads ranges n at value.Unit k = told_gives value.Unit k
told_reads ranges n at (value.Truth b) k = told_gives value.Unit k
told_reads ranges n at (value.Member e i) k = told_gives value.Unit k

write_by : (c : Bool) (ranges : List Range) (n at a x : ℕ) (k : List Slot)
    → Told (λ w. if c then write_out at k (store ranges a n x w) else gives value.Unit k w)
    (λ w. if c then access_moments (logged access.Write a n w) (store ranges a n x w) else [])
write_by true ranges n at a x k = told_store ranges n at a x k
write_by false ranges n at a x k = told_gives value.Unit k

told_vector : (ranges : List Range) (n at : ℕ) (a : Bits) (v : Value) (k : List Slot) → Told (write_vector ranges n at a v k) (vector_moments ranges n a v)
told_vector ranges n at a (value.Bits v) k = write_by (nat_le n 16 && is_address a && is_of_bytes n v) ranges n at a.value v.value k
told_vector ranges n at a value.Unit k = told_gives value.Unit k
told_vector ranges n at a (value.Truth b) k = told_gives value.Unit k
told_vector ranges n at a (value.Member e i) k = told_gives value.Unit k

told_writes : (ranges : List Range) (n at : ℕ) (a v : Value) (k : List Slot) → Told (write_bytes ranges n at a v k) (write_moments ranges n a v)
told_writes ranges n at (value.Bits a) v k = told_vector ranges n at a v k
told_writes ranges n at value.Unit v k = told_gives value.Unit k
told_writes ranges n at (value.Truth b) v k = told_gives value.Unit k
told_writes ranges n at (value.Member e i) v k = told_gives value.Unit k

pub told_given : (ranges : List Range) (g : Given) (at : ℕ) (a b : Value) (k : List Slot) → Told (given_on ranges g at a b k) (given_moments ranges g a b)
told_given ranges (given.Read n) at a b k = told_reads ranges n at a k
told_given ranges (given.Write n) at a b k = told_writes ranges n at a b k
told_given ranges given.Not at a b k = told_gives _ k
told_given ranges given.LtU at a b k = told_gives _ k
told_given ranges given.LtS at a b k = told_gives _ k
told_given ranges given.ShiftLeft at a b k = told_gives _ k
told_given ranges given.ShiftRight at a b k = told_gives _ k
told_given ranges given.ShiftRightArith at a b k = told_gives _ k
told_given ranges given.DivU at a b k = told_gives _ k
told_given ranges given.RemU at a b k = told_gives _ k
told_given ranges given.DivS at a b k = told_gives _ k
told_given ranges given.RemS at a b k = told_gives _ k
