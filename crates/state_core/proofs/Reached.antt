-- What accesses leave.
use Rattle.std.proofs.Common.{◌≡◌, ℕ, ◌+◌, ◌*◌, ◌%◌, ◌^◌, ◌<◌, List, [], ◌∷◌, Bool, true, false, refl, sym, Some, None}
use Rattle.std.specs.declared.option.Option.{Option}
use Rattle.std.specs.Prelude.{IfSome, nat_lt, if◌then◌else◌}
use Rattle.std.proofs.lemmas.List.{append-nil}
use Rattle.std.proofs.lemmas.Nat.{mod_below, pow_pos}
use Rattle.state_core.specs.declared.kinds.AccessKind.{AccessKind}
use Rattle.state_core.specs.declared.kinds.AccessKind.TheVariants as access
use Rattle.state_core.specs.declared.kinds.FaultKind.{FaultKind}
use Rattle.state_core.specs.declared.kinds.FaultKind.TheVariants as kind
use Rattle.state_core.specs.declared.kinds.Range.{Range}
use Rattle.state_core.specs.State.{Memory, IsState}
use Rattle.state_core.specs.World.{World, Got, gets, faults}
use Rattle.state_core.specs.Memory.{nothing, number_at, written, touches, in_device, logged, or_no_byte, answered, or_no_place, told, fetch, load, store}
use Rattle.state_core.specs.Laws.{Grows, IsRead, IsStored}
use Rattle.state_core.proofs.Digits.{number_below}
use Rattle.state_core.proofs.Written.{write_memory}

-- one of two
chosen : {X : Type 0} (P : Got X → Type 0) (b : Bool) (x y : Got X) → P x → P y → P (if b then x else y)
chosen P true x y px py = px
chosen P false x y px py = py

module _ (k : AccessKind) (at n : ℕ) (w : World) where
  abbrev noted : World
  noted = logged k at n w

  -- the access alone is noted
  note : Grows w noted
  note = record { accesses = record { kind = k; addr = at; bytes = n } ∷ []; events = []; accesses_grow = refl; events_grow = sym (append-nil w.events) }

  note_state : (m : Memory) → Grows w (record noted { state = record noted.state { memory = m } })
  note_state m = record { accesses = record { kind = k; addr = at; bytes = n } ∷ []; events = []; accesses_grow = refl; events_grow = sym (append-nil w.events) }

  read_fault : (kind : FaultKind) → IsRead n w (faults kind noted)
  read_fault kind = record { state = refl; grows = note; fits = λ whole. tt }

  read_number_by : (o : Option ℕ) → (IsState w.state → IfSome o (λ x. x < 2 ^ (8 * n))) → IsRead n w (or_no_byte o noted)
  read_number_by (Some x) low = record { state = refl; grows = note; fits = low }
  read_number_by None low = read_fault kind.NoByte

  read_memory : IsRead n w (or_no_byte (number_at noted.state.memory at n) noted)
  read_memory = read_number_by (number_at noted.state.memory at n) (λ whole. number_below w.state.memory at n whole.memory)

  read_answer : (answers : List ℕ) → IsRead n w (answered answers at n noted)
  read_answer [] = record { state = refl; grows = note; fits = λ whole. tt }
  read_answer (a ∷ rest) = record {
    state = refl;
    grows = record {
      accesses = record { kind = k; addr = at; bytes = n } ∷ [];
      events = record { write = false; addr = at; bytes = n; value = a % 2 ^ (8 * n) } ∷ [];
      accesses_grow = refl;
      events_grow = refl;
    };
    fits = λ whole. mod_below a (2 ^ (8 * n)) (pow_pos (8 * n));
  }

  store_fault : (kind : FaultKind) → IsStored w (faults kind noted)
  store_fault kind = record { values = λ whole. whole; grows = note; state = refl; events = refl }

  store_event : (value : ℕ) → IsStored w (gets nothing (told at n value noted))
  store_event value = record {
    values = λ whole. whole;
    grows = record {
      accesses = record { kind = k; addr = at; bytes = n } ∷ [];
      events = record { write = true; addr = at; bytes = n; value = value } ∷ [];
      accesses_grow = refl;
      events_grow = refl;
    };
    state = tt;
    events = tt;
  }

  store_memory_by : (value : ℕ) (o : Option Memory) → written w.state.memory at n value ≡ o → IsStored w (or_no_place o noted)
  store_memory_by value (Some m) is = record {
    values = λ whole. record { registers = whole.registers; memory = write_memory w.state.memory m at n value whole.memory is };
    grows = note_state m;
    state = tt;
    events = tt;
  }
  store_memory_by value None is = store_fault kind.NoByte

pub fetch_is_read : (ranges : List Range) (at n : ℕ) (w : World) → IsRead n w (fetch ranges at n w)
unfolding fetch
fetch_is_read ranges at n w =
    chosen (IsRead n w) (nat_lt (2 ^ 64) (at + n)) _ _ (read_fault access.Fetch at n w kind.NoByte)
    (chosen (IsRead n w) (touches ranges at n) _ _ (read_fault access.Fetch at n w kind.BadDevice) (read_memory access.Fetch at n w))

pub load_is_read : (ranges : List Range) (at n : ℕ) (w : World) → IsRead n w (load ranges at n w)
unfolding load
load_is_read ranges at n w =
    chosen (IsRead n w) (nat_lt (2 ^ 64) (at + n)) _ _ (read_fault access.Read at n w kind.NoByte)
    (chosen (IsRead n w) (touches ranges at n) _ _
    (chosen (IsRead n w) (in_device ranges at n) _ _ (read_answer access.Read at n w w.answers) (read_fault access.Read at n w kind.BadDevice))
    (read_memory access.Read at n w))

pub store_is_stored : (ranges : List Range) (at n value : ℕ) (w : World) → IsStored w (store ranges at n value w)
unfolding store
store_is_stored ranges at n value w =
    chosen (IsStored w) (nat_lt (2 ^ 64) (at + n)) _ _ (store_fault access.Write at n w kind.NoByte)
    (chosen (IsStored w) (touches ranges at n) _ _
    (chosen (IsStored w) (in_device ranges at n) _ _ (store_event access.Write at n w value) (store_fault access.Write at n w kind.BadDevice))
    (store_memory_by access.Write at n w value (written w.state.memory at n value) refl))
