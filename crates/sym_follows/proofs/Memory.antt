-- The functions of the prelude: tests, operators, and accesses of memory.
use Rattle.std.proofs.Common.{◌≡◌, ℕ, ◌+◌, ◌*◌, ◌^◌, ◌<◌, ◌≤◌, Bool, true, false, not, ◌&&◌, List, [], ◌∷◌, length, Option, Some, None, IsSome, is_some, unwrap_or, nat_eq, nat_lt, nat_le, lt-ltb, leb-true, refl, sym, ap, ap₂, ◌∙◌, subst, subst₂, arith}
use Rattle.std.specs.Prelude.{⊤, if◌then◌else◌}
use Rattle.std.proofs.lemmas.Bool.{and_parts}
use Rattle.bv_bits.specs.declared.Bits.{Bits}
use Rattle.bv_bits.specs.declared.Op.{Op}
use Rattle.bv_bits.specs.declared.Op.TheVariants as op
use Rattle.bv_bits.specs.Bits.{IsBits, some_if, result_width_of}
use Rattle.state_core.specs.declared.kinds.Range.{Range}
use Rattle.state_core.specs.declared.kinds.FaultKind.TheVariants as kind
use Rattle.state_core.specs.declared.kinds.AccessKind.TheVariants as access
use Rattle.state_core.specs.State.{IsState, Memory}
use Rattle.state_core.specs.World.{World, Got, gets, faults, lacks, reached}
use Rattle.state_core.specs.Memory.{Nothing, nothing, load, store, written, touches, in_device, logged, or_no_place, told as told_device}
use Rattle.state_core.specs.Laws.{IsRead, IsStored}
use Rattle.term_tree.specs.Terms.{Tree, var, two, width_of, IsTyped}
use Rattle.term_tree.specs.Values.{Values, IsValues, value}
use Rattle.term_tree.proofs.OperatorLemmas.{width_here}
use Rattle.term_make.proofs.TypedLemmas.{make_width}
use Rattle.term_arena.specs.Said.{Answer, Answers, Refuses, says, said_just, said_then}
use Rattle.trace_plain.specs.declared.trace.FailKind.{FailKind}
use Rattle.trace_plain.specs.declared.trace.FailKind.TheVariants as failure
use Rattle.trace_plain.specs.Rules.{var_name}
use Rattle.trace_plain.specs.Following.{Path, faulted, unanswered, ended, bind as binding, in_world, binds_read, goes_behind}
use Rattle.sail_values.specs.declared.value.Slot.{Slot}
use Rattle.sail_values.specs.declared.value.Value.{Value}
use Rattle.sail_values.specs.declared.value.Value.TheVariants as concrete
use Rattle.sail_values.specs.Values as sail
use Rattle.sail_values.specs.Values.{is_vector}
use Rattle.sail_names.specs.declared.things.Given.{Given}
use Rattle.sail_names.specs.declared.things.Given.TheVariants as given
use Rattle.eval_rules.specs.Flow.{gives}
use Rattle.eval_rules.specs.Prelude.{is_one, compared, is_address, is_of_bytes, read_out, write_out, read_bytes, write_vector, write_bytes, given_on}
use Rattle.eval_types.proofs.GivenLemmas.{Accesses}
use Rattle.sym_rules.specs.Values.{SymValue, sym_unit, sym_truth, sym_bits, sym_member, SymPath, SymSetting}
use Rattle.sym_rules.specs.Trees.{leaf, making, sym_pure}
use Rattle.sym_rules.specs.Operators.{is_unsupported, sym_operate, as_bits}
use Rattle.sym_rules.specs.Names.{counts_on, bits_leaf}
use Rattle.sym_rules.specs.Prelude.{tested, sym_compared, opposite_of, is_access, is_address_term, bytes_read, sym_read_bytes, bytes_written, vector_written, sym_write_bytes, sym_given_on}
use Rattle.sym_follows.proofs.Trees.{behind_step, arrivals}
use Rattle.sym_follows.proofs.Values.{value_at, IsTypedValue, Is, Tells, tells_then, vector_at, width_at, operate_is, known_is, opposite_truth}
use Rattle.sym_follows.proofs.Agree.{values_at, fresh_is, Always, Agrees, comes_here, now, agrees_more, comes_more, agrees_world}
use Rattle.sym_follows.proofs.Does.{Does, Sim, full, does_leaf, does_told, unit_always}
use Rattle.sym_follows.proofs.Things.{HasBytes}

-- ---- tests

-- a vector of one bit
abbrev IsOneWide : SymValue → Type 0
IsOneWide (sym_bits t) = width_of t ≡ 1
IsOneWide sym_unit = ⊤
IsOneWide (sym_truth t) = ⊤
IsOneWide (sym_member e i) = ⊤

-- what is said is one
abbrev SaysOneWide : Answer FailKind SymValue → Type 0
SaysOneWide (Answers s) = IsOneWide s
SaysOneWide (Refuses k) = ⊤

record IsTest (v : Values) (s : SymValue) (a : Value) : Type 0 where
  pub is : Is v s a
  pub wide : IsOneWide s

tells_test : (v : Values) (r : Answer FailKind SymValue) (a : Value) → SaysOneWide r → Tells (Is v) r a → Tells (IsTest v) r a
tells_test v (Answers s) a h k = record { is = k; wide = h }
tells_test v (Refuses why) a h k = k

module _ (v : Values) (valid : IsValues v) where
  module _ (o : Op) (width : (m n : ℕ) → result_width_of o (m ∷ n ∷ []) ≡ some_if (nat_eq m n) 1) where
    wide_made : (a b : Tree) → IsTyped a → IsTyped b → (c d : Bool) → is_some (result_width_of o (width_of a ∷ width_of b ∷ [])) ≡ c
        → SaysOneWide (if c then (if d then says (Refuses failure.Unsupported) else as_bits (making (two o a b))) else said_just sym_unit).answer
    unfolding said_then
    wide_made a b ha hb true true e = tt
    wide_made a b ha hb true false e =
        make_width (two o a b) (e, ha, hb) ∙ ap (λ w. unwrap_or w 0) (width (width_of a) (width_of b))
        ∙ width_here (nat_eq (width_of a) (width_of b)) 1 (subst IsSome (width (width_of a) (width_of b)) e)
    wide_made a b ha hb false d e = tt

    operate_wide : (s t : SymValue) → IsTypedValue s → IsTypedValue t → SaysOneWide (sym_operate o s t).answer
    operate_wide (sym_bits a) (sym_bits b) h k = wide_made a b h k (is_some (result_width_of o (width_of a ∷ width_of b ∷ []))) (is_unsupported o (a ∷ b ∷ [])) refl
    operate_wide s t h k = tt

    compared_is : {s t : SymValue} {a b : Value} → Is v s a → Is v t b → Tells (Is v) (sym_compared o s t).answer (compared o a b)
    compared_is {s} {t} {a} {b} h k =
        tells_then (IsTest v) (Is v) (sym_operate o s t) tested (sail.operate o a b) (compared o a b)
        (tells_test v (sym_operate o s t).answer (sail.operate o a b) (operate_wide s t h.typed k.typed) (operate_is v valid o h k))
        (λ y q. tested_is y (sail.operate o a b) q)
      where
        tested_at : (y : SymValue) → IsOneWide y → IsTypedValue y → Tells (Is v) (tested y).answer (concrete.Truth (is_one (value_at v y)))
        tested_at (sym_bits u) w q = record { typed = (q, w); same = refl }
        tested_at sym_unit w q = known_is v valid false
        tested_at (sym_truth u) w q = known_is v valid false
        tested_at (sym_member e i) w q = known_is v valid false

        tested_is : (y : SymValue) (c : Value) → IsTest v y c → Tells (Is v) (tested y).answer (concrete.Truth (is_one c))
        tested_is y c q = subst (λ c. Tells (Is v) (tested y).answer (concrete.Truth (is_one c))) q.is.same (tested_at y q.wide q.is.typed)

  opposite_at : (s : SymValue) → IsTypedValue s → Tells (Is v) (opposite_of s).answer (concrete.Truth (not (sail.is_true (value_at v s))))
  opposite_at (sym_truth t) h = opposite_truth v valid t h.0 h.1
  opposite_at sym_unit h = known_is v valid true
  opposite_at (sym_bits t) h = known_is v valid true
  opposite_at (sym_member e i) h = known_is v valid true

  opposite_is : {s : SymValue} {a : Value} → Is v s a → Tells (Is v) (opposite_of s).answer (concrete.Truth (not (sail.is_true a)))
  opposite_is {s} h = subst (λ a. Tells (Is v) (opposite_of s).answer (concrete.Truth (not (sail.is_true a)))) h.same (opposite_at s h.typed)

-- ---- memory

-- a write leaves the registers
store_leaves : (ranges : List Range) (at n y : ℕ) (w : World) → (reached (store ranges at n y w)).state.registers ≡ w.state.registers
unfolding store
store_leaves ranges at n y w = step (nat_lt (2 ^ 64) (at + n)) (touches ranges at n) (in_device ranges at n) (written w.state.memory at n y)
  where
    step : (past touch lies : Bool) (o : Option Memory)
        → (reached (if past then faults kind.NoByte (logged access.Write at n w) else (if touch then (if lies then gets nothing (told_device at n y (logged access.Write at n w)) else faults kind.BadDevice (logged access.Write at n w)) else or_no_place o (logged access.Write at n w)))).state.registers ≡ w.state.registers
    step true touch lies o = refl
    step false true true o = refl
    step false true false o = refl
    step false false lies (Some m) = refl
    step false false lies None = refl

module _ (here : SymSetting) (ranges : List Range) (accesses : Accesses ranges) (p : SymPath) (x : Path) (l : List Slot) (ag : Agrees here p x.vars x.world l) where
  -- what is read
  got_read : (n at : ℕ) (t : Tree) (g : Got ℕ) → 0 < n → n ≤ 16 → length x.vars < 2 ^ 64 → IsRead n x.world g
      → Sim here Is p x.vars (behind_step (binds_read p.count n x g) (arrivals ranges (bits_leaf (var (var_name p.count) (8 * n)) (counts_on p)))) (read_out n at l g)
  got_read n at t (gets y w) some most short r =
      let b : Bits = record { width = 8 * n; value = y } in
      let fit : IsBits b = record { positive = omega (arith, some); at_most = omega (arith, most); fits = r.fits ag.state } in
      let moved = agrees_world here w (ap (λ s. s.registers) r.state) (subst IsState (sym r.state) ag.state) ag in
      let come = comes_more here b fit short ag in
      full (record {
        at = record { value = sym_bits (var (var_name p.count) (8 * n)); path = counts_on p };
        there = binding p.count b (in_world w x);
        only = refl;
        world = refl;
        comes = come;
        agrees = agrees_more here b fit short moved;
        is = record { is = λ v k. record { typed = record { positive = omega (arith, some); at_most = omega (arith, most) }; same = ap concrete.Bits (fresh_is x.vars p.count b v (8 * n) refl k) } };
      })
  got_read n at t (faults k w) some most short r = full (record { out = ended (faulted k) (in_world w x); only = refl; says = (refl, refl) })
  got_read n at t (lacks w) some most short r = full (record { out = ended unanswered (in_world w x); only = refl; says = (tt, refl) })

  -- what is written
  got_written : (at : ℕ) (g : Got Nothing) → IsStored x.world g → (reached g).state.registers ≡ x.world.state.registers
      → Sim here Is p x.vars (behind_step (goes_behind x g) (arrivals ranges (leaf (record { value = sym_unit; path = p })))) (write_out at l g)
  got_written at (gets y w) s same = full (record {
    at = record { value = sym_unit; path = p };
    there = in_world w x;
    only = refl;
    world = refl;
    comes = comes_here here ag;
    agrees = agrees_world here w same (s.values ag.state) ag;
    is = unit_always here ranges;
  })
  got_written at (faults k w) s same = full (record { out = ended (faulted k) (in_world w x); only = refl; says = (refl, refl) })
  got_written at (lacks w) s same = full (record { out = ended unanswered (in_world w x); only = refl; says = (tt, refl) })

  bytes_at_most : (n : ℕ) (c : Bool) → (nat_le n 16 && c) ≡ true → n ≤ 16
  bytes_at_most n c e = leb-true n 16 ((and_parts (nat_le n 16) c e).0)

  read_at : (n at : ℕ) (s : SymValue) → 0 < n → IsTypedValue s → Does here ranges Is p x (sym_read_bytes n s p) (read_bytes ranges n at (value_at (values_at x.vars) s) l x.world)
  read_at n at (sym_bits t) some typed =
      let u = values_at x.vars in
      let one_side : (is_access n && is_address_term t) ≡ (nat_le n 16 && nat_eq (width_of t) 64) = ap (λ c. (c && nat_le n 16) && nat_eq (width_of t) 64) (lt-ltb 0 n some) in
      let other : (nat_le n 16 && is_address (value u t)) ≡ (nat_le n 16 && nat_eq (width_of t) 64) = ap₂ (λ c w. nat_le n 16 && (c && nat_eq w 64)) (vector_at u ag.valid t typed) (width_at u ag.valid t typed) in
      subst₂ (λ c d. Does here ranges Is p x ((if c then bytes_read n t else sym_pure sym_unit) p) (if d then read_out n at l (load ranges (value u t).value n x.world) else gives concrete.Unit l x.world))
      (sym one_side) (sym other) (step (nat_le n 16 && nat_eq (width_of t) 64) refl)
    where
      step : (c : Bool) → (nat_le n 16 && nat_eq (width_of t) 64) ≡ c
          → Does here ranges Is p x ((if c then bytes_read n t else sym_pure sym_unit) p) (if c then read_out n at l (load ranges (value (values_at x.vars) t).value n x.world) else gives concrete.Unit l x.world)
      step true e = record {
        is = λ short.
            got_read n at t (load ranges (value (values_at x.vars) t).value n x.world) some (bytes_at_most n (nat_eq (width_of t) 64) e) short.0 (accesses.loads (value (values_at x.vars) t).value n x.world);
      }
      step false e = does_leaf here ranges {P = Is} ag (unit_always here ranges)
  read_at n at sym_unit some typed = does_leaf here ranges {P = Is} ag (unit_always here ranges)
  read_at n at (sym_truth t) some typed = does_leaf here ranges {P = Is} ag (unit_always here ranges)
  read_at n at (sym_member e i) some typed = does_leaf here ranges {P = Is} ag (unit_always here ranges)

  vector_written_at : (n at : ℕ) (t : Tree) (s : SymValue) → 0 < n → IsTyped t → IsTypedValue s
      → Does here ranges Is p x (vector_written n t s p) (write_vector ranges n at (value (values_at x.vars) t) (value_at (values_at x.vars) s) l x.world)
  vector_written_at n at t (sym_bits b) some ht hb =
      let u = values_at x.vars in
      let one_side : (is_access n && is_address_term t && nat_eq (width_of b) (8 * n)) ≡ (nat_le n 16 && nat_eq (width_of t) 64 && nat_eq (width_of b) (8 * n)) =
      ap (λ c. (c && nat_le n 16) && nat_eq (width_of t) 64 && nat_eq (width_of b) (8 * n)) (lt-ltb 0 n some) in
      let first : (nat_le n 16 && is_address (value u t) && is_of_bytes n (value u b)) ≡ (nat_le n 16 && nat_eq (width_of t) 64 && is_of_bytes n (value u b)) =
      ap₂ (λ c w. nat_le n 16 && (c && nat_eq w 64) && is_of_bytes n (value u b)) (vector_at u ag.valid t ht) (width_at u ag.valid t ht) in
      let second : (nat_le n 16 && nat_eq (width_of t) 64 && is_of_bytes n (value u b)) ≡ (nat_le n 16 && nat_eq (width_of t) 64 && nat_eq (width_of b) (8 * n)) =
      ap₂ (λ c w. nat_le n 16 && nat_eq (width_of t) 64 && (c && nat_eq w (8 * n))) (vector_at u ag.valid b hb) (width_at u ag.valid b hb) in
      subst₂ (λ c d. Does here ranges Is p x ((if c then bytes_written n t b else sym_pure sym_unit) p) (if d then write_out at l (store ranges (value u t).value n (value u b).value x.world) else gives concrete.Unit l x.world))
      (sym one_side) (sym (first ∙ second)) (step (nat_le n 16 && nat_eq (width_of t) 64 && nat_eq (width_of b) (8 * n)))
    where
      step : (c : Bool)
          → Does here ranges Is p x ((if c then bytes_written n t b else sym_pure sym_unit) p)
          (if c then write_out at l (store ranges (value (values_at x.vars) t).value n (value (values_at x.vars) b).value x.world) else gives concrete.Unit l x.world)
      step true = record {
        is = λ short.
            got_written at (store ranges (value (values_at x.vars) t).value n (value (values_at x.vars) b).value x.world)
            (accesses.stores (value (values_at x.vars) t).value n (value (values_at x.vars) b).value x.world)
            (store_leaves ranges (value (values_at x.vars) t).value n (value (values_at x.vars) b).value x.world);
      }
      step false = does_leaf here ranges {P = Is} ag (unit_always here ranges)
  vector_written_at n at t sym_unit some ht hb = does_leaf here ranges {P = Is} ag (unit_always here ranges)
  vector_written_at n at t (sym_truth b) some ht hb = does_leaf here ranges {P = Is} ag (unit_always here ranges)
  vector_written_at n at t (sym_member e i) some ht hb = does_leaf here ranges {P = Is} ag (unit_always here ranges)

  write_at : (n at : ℕ) (s t : SymValue) → 0 < n → IsTypedValue s → IsTypedValue t
      → Does here ranges Is p x (sym_write_bytes n s t p) (write_bytes ranges n at (value_at (values_at x.vars) s) (value_at (values_at x.vars) t) l x.world)
  write_at n at (sym_bits a) t some hs ht = vector_written_at n at a t some hs ht
  write_at n at sym_unit t some hs ht = does_leaf here ranges {P = Is} ag (unit_always here ranges)
  write_at n at (sym_truth a) t some hs ht = does_leaf here ranges {P = Is} ag (unit_always here ranges)
  write_at n at (sym_member e i) t some hs ht = does_leaf here ranges {P = Is} ag (unit_always here ranges)

  -- ---- calls

  pub does_given_on : (g : Given) (at : ℕ) {s t : SymValue} {a b : Value} → HasBytes g → Always Is p x.vars s a → Always Is p x.vars t b
      → Does here ranges Is p x (sym_given_on g s t p) (given_on ranges g at a b l x.world)
  does_given_on given.Not at {s} {t} {a} {b} h i j = does_told here ranges {P = Is} (opposite_of s) (concrete.Truth (not (sail.is_true a))) ag (λ v k. opposite_is v k.valid (i.is v k))
  does_given_on given.LtU at {s} {t} {a} {b} h i j = does_told here ranges {P = Is} (sym_compared op.ULt s t) (compared op.ULt a b) ag (λ v k. compared_is v k.valid op.ULt (λ m n. refl) (i.is v k) (j.is v k))
  does_given_on given.LtS at {s} {t} {a} {b} h i j = does_told here ranges {P = Is} (sym_compared op.SLt s t) (compared op.SLt a b) ag (λ v k. compared_is v k.valid op.SLt (λ m n. refl) (i.is v k) (j.is v k))
  does_given_on given.ShiftLeft at {s} {t} {a} {b} h i j = does_told here ranges {P = Is} (sym_operate op.Shl s t) (sail.operate op.Shl a b) ag (λ v k. operate_is v k.valid op.Shl (i.is v k) (j.is v k))
  does_given_on given.ShiftRight at {s} {t} {a} {b} h i j = does_told here ranges {P = Is} (sym_operate op.LShr s t) (sail.operate op.LShr a b) ag (λ v k. operate_is v k.valid op.LShr (i.is v k) (j.is v k))
  does_given_on given.ShiftRightArith at {s} {t} {a} {b} h i j = does_told here ranges {P = Is} (sym_operate op.AShr s t) (sail.operate op.AShr a b) ag (λ v k. operate_is v k.valid op.AShr (i.is v k) (j.is v k))
  does_given_on given.DivU at {s} {t} {a} {b} h i j = does_told here ranges {P = Is} (sym_operate op.UDiv s t) (sail.operate op.UDiv a b) ag (λ v k. operate_is v k.valid op.UDiv (i.is v k) (j.is v k))
  does_given_on given.RemU at {s} {t} {a} {b} h i j = does_told here ranges {P = Is} (sym_operate op.URem s t) (sail.operate op.URem a b) ag (λ v k. operate_is v k.valid op.URem (i.is v k) (j.is v k))
  does_given_on given.DivS at {s} {t} {a} {b} h i j = does_told here ranges {P = Is} (sym_operate op.SDiv s t) (sail.operate op.SDiv a b) ag (λ v k. operate_is v k.valid op.SDiv (i.is v k) (j.is v k))
  does_given_on given.RemS at {s} {t} {a} {b} h i j = does_told here ranges {P = Is} (sym_operate op.SRem s t) (sail.operate op.SRem a b) ag (λ v k. operate_is v k.valid op.SRem (i.is v k) (j.is v k))
  does_given_on (given.Read n) at {s} {t} {a} {b} h i j =
      let si = now here ag i in
      subst (λ a. Does here ranges Is p x (sym_read_bytes n s p) (read_bytes ranges n at a l x.world)) si.same (read_at n at s h si.typed)
  does_given_on (given.Write n) at {s} {t} {a} {b} h i j =
      let si = now here ag i in
      let ti = now here ag j in
      subst₂ (λ a b. Does here ranges Is p x (sym_write_bytes n s t p) (write_bytes ranges n at a b l x.world)) si.same ti.same (write_at n at s t h si.typed ti.typed)
