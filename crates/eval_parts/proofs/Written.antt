-- Writes to registers and to locals.
use Rattle.std.proofs.Common.{◌≡◌, ℕ, zero, suc, ◌+◌, ◌^◌, nat_lt, Bool, true, false, List, [], ◌∷◌, Option, Some, None, get_or, refl, sym, ap, ◌∙◌, inl, inr}
use Rattle.std.specs.Prelude.{map, bytes_eq, if◌then◌else◌, Result, Ok, Err}
use Rattle.std.proofs.Math.ListN.{set}
use Rattle.bv_bits.specs.declared.Bits.{Bits}
use Rattle.bv_bits.specs.Bits.{width_of}
use Rattle.state_core.specs.Agrees.{Agrees, IsMoment}
use Rattle.state_core.specs.Memory.{nothing, touches, in_device, logged, written, or_no_place, told, store}
use Rattle.state_core.specs.State.{Memory, widths_of}
use Rattle.state_core.specs.World.{World, gets, faults, reached}
use Rattle.state_core.specs.declared.kinds.AccessKind.TheVariants as access
use Rattle.state_core.specs.declared.kinds.FaultKind.TheVariants as kind
use Rattle.state_core.specs.declared.kinds.MemStop.{MemStop}
use Rattle.state_core.specs.declared.kinds.MemStop.TheVariants as stop
use Rattle.state_core.specs.declared.kinds.Range.{Range}
use Rattle.sail_values.specs.declared.value.Slot.{Slot}
use Rattle.sail_values.specs.declared.value.Local.{Local}
use Rattle.sail_values.specs.declared.value.Local.TheVariants.{Is}
use Rattle.sail_values.specs.declared.value.Value.{Value}
use Rattle.sail_values.specs.declared.value.Value.TheVariants as value
use Rattle.sail_values.specs.Slots.{put, has}
use Rattle.sail_names.specs.declared.things.Named.{Named}
use Rattle.sail_names.specs.declared.things.Thing.{Thing}
use Rattle.sail_names.specs.Things.{find_thing}
use Rattle.eval_rules.specs.Flow.{gives}
use Rattle.eval_rules.specs.Names.{in_state, write, assigned}

-- a register gets a value of its width
pub same_widths : (rs : List Bits) (r : ℕ) (b d : Bits) → b.width ≡ (get_or rs r d).width → map width_of (set rs r b) ≡ map width_of rs
same_widths [] r b d h = refl
same_widths (x ∷ xs) zero b d h = ap (λ w. w ∷ map width_of xs) h
same_widths (x ∷ xs) (suc r) b d h = ap (λ ws. x.width ∷ ws) (same_widths xs r b d h)

-- no local of the name is written
pub put_missing : (x : List ℕ) (v : Local) (xs : List Slot) → has x xs ≡ false → put x v xs ≡ xs
put_missing x v [] h = refl
put_missing x v (s ∷ rest) h = step (bytes_eq s.name x) h (put_missing x v rest)
  where
    step : (b : Bool) → (if b then true else has x rest) ≡ false → (has x rest ≡ false → put x v rest ≡ rest) → (if b then record s { local = v } ∷ rest else s ∷ put x v rest) ≡ s ∷ rest
    step true e ih = cc
    step false e ih = ap (λ r. s ∷ r) (ih e)

-- ---- writes to memory

-- no write changes a register
stored_by : (past touch lies : Bool) (m : Option Memory) (at n v : ℕ) (w : World)
    → (reached (if past then faults kind.NoByte w else (if touch then (if lies then gets nothing (told at n v w) else faults kind.BadDevice w) else or_no_place m w))).state.registers ≡ w.state.registers
stored_by true touch lies m at n v w = refl
stored_by false true true m at n v w = refl
stored_by false true false m at n v w = refl
stored_by false false lies (Some m) at n v w = refl
stored_by false false lies None at n v w = refl

pub store_keeps : (ranges : List Range) (at n v : ℕ) (w : World) → (reached (store ranges at n v w)).state.registers ≡ w.state.registers
unfolding store
store_keeps ranges at n v w =
    let x = logged access.Write at n w in
    stored_by (nat_lt (2 ^ 64) (at + n)) (touches ranges at n) (in_device ranges at n) (written x.state.memory at n v) at n v x

pub store_widths : (r : Result (Unit {0}) MemStop) (ranges : List Range) (at n v : ℕ) (before w : World)
    → Agrees (λ _. nothing) r w (store ranges at n v before) → IsMoment r access.Write at n before w → widths_of w.state ≡ widths_of before.state
store_widths (Ok x) ranges at n v before w h m = ap (λ g. map width_of (reached g).state.registers) (sym h) ∙ ap (map width_of) (store_keeps ranges at n v before)
store_widths (Err (stop.Fault k)) ranges at n v before w h m = ap (λ g. map width_of (reached g).state.registers) (sym h) ∙ ap (map width_of) (store_keeps ranges at n v before)
store_widths (Err stop.NoAnswer) ranges at n v before w h m = ap (λ g. map width_of (reached g).state.registers) (sym h) ∙ ap (map width_of) (store_keeps ranges at n v before)
store_widths (Err stop.NoMemory) ranges at n v before w h (inl e) = ap (λ (x : World). widths_of x.state) e
store_widths (Err stop.NoMemory) ranges at n v before w h (inr e) = ap (λ (x : World). widths_of x.state) e

-- ---- assignments

-- where no local has the name, a name of the program is written
pub write_missing : (things : List Named) (x : List ℕ) (v : Value) (t : Option Thing) (l m : List Slot) (w u : World) → has x l ≡ false → m ≡ put x (Is v) l → t ≡ find_thing x things
    → u ≡ in_state (assigned t v w.state) w → write things x v l w ≡ gives value.Unit m u
write_missing things x v t l m w u h e k f =
    ap (λ b. if b then gives value.Unit (put x (Is v) l) w else gives value.Unit l (in_state (assigned (find_thing x things) v w.state) w)) h
    ∙ ap (λ l. gives value.Unit l (in_state (assigned (find_thing x things) v w.state) w)) (sym (put_missing x (Is v) l h) ∙ sym e)
    ∙ ap (λ o. gives value.Unit m (in_state (assigned o v w.state) w)) (sym k) ∙ ap (gives value.Unit m) (sym f)
