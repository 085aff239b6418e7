-- What is seen of names and of accesses.
use Rattle.std.proofs.Common.{◌≡◌, ℕ, ◌<◌, ◌+◌, ◌^◌, Bool, true, false, ◌&&◌, List, [], ◌∷◌, ◌++◌, All, Some, None, refl, sym, ap, ◌∙◌, append-nil, true≢false, nat_le, nat_lt}
use Rattle.std.specs.Prelude.{if◌then◌else◌}
use Rattle.std.specs.declared.option.Option.{Option}
use Rattle.std.proofs.lemmas.List.Elements.{All-nil, All-cons}
use Rattle.bv_bits.specs.declared.Bits.{Bits}
use Rattle.state_core.specs.State.{State, Memory, register_of}
use Rattle.state_core.specs.World.{World, Got, gets, faults, lacks, reached}
use Rattle.state_core.specs.Memory.{Nothing, nothing, number_at, written, touches, in_device, logged, or_no_byte, answered, or_no_place, told, load, store}
use Rattle.state_core.specs.declared.kinds.AccessKind.TheVariants as access
use Rattle.state_core.specs.declared.kinds.FaultKind.TheVariants as kind
use Rattle.state_core.specs.declared.kinds.Range.{Range}
use Rattle.sail_syntax.specs.Tree.{Text}
use Rattle.sail_values.specs.declared.value.Slot.{Slot}
use Rattle.sail_values.specs.declared.value.Local.{Local}
use Rattle.sail_values.specs.declared.value.Local.TheVariants as local
use Rattle.sail_values.specs.declared.value.Value.{Value}
use Rattle.sail_values.specs.declared.value.Value.TheVariants as value
use Rattle.sail_values.specs.Slots.{look, put, has}
use Rattle.sail_names.specs.declared.things.Named.{Named}
use Rattle.sail_names.specs.declared.things.Given.{Given}
use Rattle.sail_names.specs.declared.things.Given.TheVariants as given
use Rattle.sail_names.specs.declared.things.Thing.{Thing}
use Rattle.sail_names.specs.declared.things.Thing.TheVariants as thing
use Rattle.sail_names.specs.Things.{find_thing}
use Rattle.eval_rules.specs.Flow.{gives}
use Rattle.eval_rules.specs.Names.{value_of, value_in, read_of, read, with_value, assigned, in_state, write}
use Rattle.eval_rules.specs.Prelude.{is_address, is_of_bytes, read_out, write_out, read_bytes, write_vector, write_bytes, given_on}
use Rattle.eval_rules.specs.Moments.{reads, writes, accesses, at_moment, thing_read, name_read, thing_written, name_written, access_moments, read_moments, vector_moments, write_moments, given_moments}
use Rattle.eval_uses.specs.Uses.{world_in}
use Rattle.machine_safe.proofs.Seen.{MomentBelow, Seen, adds_none, seen_gives}

-- ---- names

-- what a thing that is a register is below
abbrev pub ThingBelow : ℕ → Option Thing → Type 0
ThingBelow n (Some (thing.Register r)) = r < n
ThingBelow n (Some (thing.Member e i)) = Unit {0}
ThingBelow n (Some (thing.Given g)) = Unit {0}
ThingBelow n (Some (thing.Function i)) = Unit {0}
ThingBelow n None = Unit {0}

module _ (n : ℕ) where
  -- one moment of a register
  seen_read_at : (r : ℕ) (l : List Slot) → r < n → Seen n (λ w. gives (value.Bits (register_of w.state r)) l w) (λ w. at_moment (reads r) w)
  seen_read_at r l b = record {
    adds = adds_none;
    noted = λ w h. absurd (true≢false (sym h));
    below = λ w. All-cons (MomentBelow n) (record { did = reads r; world = w }) [] b (All-nil (MomentBelow n));
    plain = λ w h. tt;
  }

  seen_thing : (t : Option Thing) (l : List Slot) → ThingBelow n t → Seen n (λ w. gives (value_in t w.state) l w) (λ w. thing_read t w)
  seen_thing (Some (thing.Register r)) l b = seen_read_at r l b
  seen_thing (Some (thing.Member e i)) l b = seen_gives n (value.Member e i) l
  seen_thing (Some (thing.Given g)) l b = seen_gives n value.Unit l
  seen_thing (Some (thing.Function i)) l b = seen_gives n value.Unit l
  seen_thing None l b = seen_gives n value.Unit l

  seen_name : (things : List Named) (x : Text) (o : Option Local) (l : List Slot) → ThingBelow n (find_thing x things)
      → Seen n (λ w. gives (read_of things o x w.state) l w) (λ w. name_read things o x w)
  seen_name things x (Some v) l b = seen_gives n (value_of v) l
  seen_name things x None l b = seen_thing (find_thing x things) l b

  pub seen_read : (things : List Named) (x : Text) (l : List Slot) → ThingBelow n (find_thing x things) → Seen n (read things x l) (λ w. name_read things (look x l) x w)
  seen_read things x l b = seen_name things x (look x l) l b

  -- a changed state adds nothing
  seen_put : (r : ℕ) (l : List Slot) (change : State → State) → r < n
      → Seen n (λ w. gives value.Unit l (in_state (change w.state) w)) (λ w. at_moment (writes r) (in_state (change w.state) w))
  seen_put r l change b = record {
    adds = λ w. ([], sym (append-nil w.accesses));
    noted = λ w h. absurd (true≢false (sym h));
    below = λ w. All-cons (MomentBelow n) (record { did = writes r; world = in_state (change w.state) w }) [] b (All-nil (MomentBelow n));
    plain = λ w h. tt;
  }

  seen_assigned : (t : Option Thing) (u : Value) (l : List Slot) → ThingBelow n t
      → Seen n (λ w. gives value.Unit l (in_state (assigned t u w.state) w)) (λ w. thing_written t u w)
  seen_assigned (Some (thing.Register r)) u l b = seen_put r l (λ s. with_value r u s) b
  seen_assigned (Some (thing.Member e i)) u l b = seen_gives n value.Unit l
  seen_assigned (Some (thing.Given g)) u l b = seen_gives n value.Unit l
  seen_assigned (Some (thing.Function i)) u l b = seen_gives n value.Unit l
  seen_assigned None u l b = seen_gives n value.Unit l

  seen_write_by : (c : Bool) (t : Option Thing) (u : Value) (k l : List Slot) → ThingBelow n t
      → Seen n (λ w. if c then gives value.Unit k w else gives value.Unit l (in_state (assigned t u w.state) w)) (λ w. if c then [] else thing_written t u w)
  seen_write_by true t u k l b = seen_gives n value.Unit k
  seen_write_by false t u k l b = seen_assigned t u l b

  pub seen_write : (things : List Named) (x : Text) (u : Value) (l : List Slot) → ThingBelow n (find_thing x things) → Seen n (write things x u l) (name_written things x u l)
  seen_write things x u l b = seen_write_by (has x l) (find_thing x things) u (put x (local.Is u) l) l b

-- ---- accesses

-- behind its note an access notes nothing more
number_notes : (o : Option ℕ) (u : World) → (reached (or_no_byte o u)).accesses ≡ u.accesses
number_notes (Some x) u = refl
number_notes None u = refl

answer_notes : (answers : List ℕ) (at n : ℕ) (u : World) → (reached (answered answers at n u)).accesses ≡ u.accesses
answer_notes [] at n u = refl
answer_notes (a ∷ rest) at n u = refl

load_notes : (past touch lies : Bool) (answers : List ℕ) (o : Option ℕ) (at n : ℕ) (u : World)
    → (reached (if past then faults kind.NoByte u else (if touch then (if lies then answered answers at n u else faults kind.BadDevice u) else or_no_byte o u))).accesses ≡ u.accesses
load_notes true touch lies answers o at n u = refl
load_notes false true true answers o at n u = answer_notes answers at n u
load_notes false true false answers o at n u = refl
load_notes false false lies answers o at n u = number_notes o u

place_notes : (o : Option Memory) (u : World) → (reached (or_no_place o u)).accesses ≡ u.accesses
place_notes (Some m) u = refl
place_notes None u = refl

store_notes : (past touch lies : Bool) (x : ℕ) (o : Option Memory) (at n : ℕ) (u : World)
    → (reached (if past then faults kind.NoByte u else (if touch then (if lies then gets nothing (told at n x u) else faults kind.BadDevice u) else or_no_place o u))).accesses ≡ u.accesses
store_notes true touch lies x o at n u = refl
store_notes false true true x o at n u = refl
store_notes false true false x o at n u = refl
store_notes false false lies x o at n u = place_notes o u

loads_note : (ranges : List Range) (at n : ℕ) (w : World) → (reached (load ranges at n w)).accesses ≡ w.accesses ++ record { kind = access.Read; addr = at; bytes = n } ∷ []
unfolding load
loads_note ranges at n w =
    load_notes (nat_lt (2 ^ 64) (at + n)) (touches ranges at n) (in_device ranges at n) w.answers (number_at w.state.memory at n) at n (logged access.Read at n w)

stores_note : (ranges : List Range) (at n x : ℕ) (w : World) → (reached (store ranges at n x w)).accesses ≡ w.accesses ++ record { kind = access.Write; addr = at; bytes = n } ∷ []
unfolding store
stores_note ranges at n x w =
    store_notes (nat_lt (2 ^ 64) (at + n)) (touches ranges at n) (in_device ranges at n) x (written w.state.memory at n x) at n (logged access.Write at n w)

read_world : (n at : ℕ) (k : List Slot) (g : Got ℕ) → world_in (read_out n at k g) ≡ reached g
read_world n at k (gets x w) = refl
read_world n at k (faults f w) = refl
read_world n at k (lacks w) = refl

write_world : (at : ℕ) (k : List Slot) (g : Got Nothing) → world_in (write_out at k g) ≡ reached g
write_world at k (gets x w) = refl
write_world at k (faults f w) = refl
write_world at k (lacks w) = refl

module _ (n : ℕ) where
  two_below : {X : Type 0} (noted : World) (g : Got X) → All (MomentBelow n) (access_moments noted g)
  two_below noted g =
      All-cons (MomentBelow n) (record { did = accesses; world = noted }) (record { did = accesses; world = reached g } ∷ []) tt
      (All-cons (MomentBelow n) (record { did = accesses; world = reached g }) [] tt (All-nil (MomentBelow n)))

  seen_load : (ranges : List Range) (m at a : ℕ) (k : List Slot)
      → Seen n (λ w. read_out m at k (load ranges a m w)) (λ w. access_moments (logged access.Read a m w) (load ranges a m w))
  seen_load ranges m at a k =
      let note : (w : World) → (world_in (read_out m at k (load ranges a m w))).accesses ≡ w.accesses ++ record { kind = access.Read; addr = a; bytes = m } ∷ [] =
      λ w. ap (λ (x : World). x.accesses) (read_world m at k (load ranges a m w)) ∙ loads_note ranges a m w in
      record {
        adds = λ w. (record { kind = access.Read; addr = a; bytes = m } ∷ [], note w);
        noted = λ w h. (record { kind = access.Read; addr = a; bytes = m } ∷ [], note w, refl);
        below = λ w. two_below (logged access.Read a m w) (load ranges a m w);
        plain = λ w h. absurd (true≢false h);
      }

  seen_store : (ranges : List Range) (m at a x : ℕ) (k : List Slot)
      → Seen n (λ w. write_out at k (store ranges a m x w)) (λ w. access_moments (logged access.Write a m w) (store ranges a m x w))
  seen_store ranges m at a x k =
      let note : (w : World) → (world_in (write_out at k (store ranges a m x w))).accesses ≡ w.accesses ++ record { kind = access.Write; addr = a; bytes = m } ∷ [] =
      λ w. ap (λ (y : World). y.accesses) (write_world at k (store ranges a m x w)) ∙ stores_note ranges a m x w in
      record {
        adds = λ w. (record { kind = access.Write; addr = a; bytes = m } ∷ [], note w);
        noted = λ w h. (record { kind = access.Write; addr = a; bytes = m } ∷ [], note w, refl);
        below = λ w. two_below (logged access.Write a m w) (store ranges a m x w);
        plain = λ w h. absurd (true≢false h);
      }

  -- ---- functions of the prelude

  read_by : (c : Bool) (ranges : List Range) (m at a : ℕ) (k : List Slot)
      → Seen n (λ w. if c then read_out m at k (load ranges a m w) else gives value.Unit k w)
      (λ w. if c then access_moments (logged access.Read a m w) (load ranges a m w) else [])
  read_by true ranges m at a k = seen_load ranges m at a k
  read_by false ranges m at a k = seen_gives n value.Unit k

  seen_reads : (ranges : List Range) (m at : ℕ) (a : Value) (k : List Slot) → Seen n (read_bytes ranges m at a k) (read_moments ranges m a)
  seen_reads ranges m at (value.Bits a) k = read_by (nat_le m 16 && is_address a) ranges m at a.value k
  seen_reads ranges m at value.Unit k = seen_gives n value.Unit k
  seen_reads ranges m at (value.Truth b) k = seen_gives n value.Unit k
  seen_reads ranges m at (value.Member e i) k = seen_gives n value.Unit k

  write_by : (c : Bool) (ranges : List Range) (m at a x : ℕ) (k : List Slot)
      → Seen n (λ w. if c then write_out at k (store ranges a m x w) else gives value.Unit k w)
      (λ w. if c then access_moments (logged access.Write a m w) (store ranges a m x w) else [])
  write_by true ranges m at a x k = seen_store ranges m at a x k
  write_by false ranges m at a x k = seen_gives n value.Unit k

  seen_vector : (ranges : List Range) (m at : ℕ) (a : Bits) (v : Value) (k : List Slot) → Seen n (write_vector ranges m at a v k) (vector_moments ranges m a v)
  seen_vector ranges m at a (value.Bits v) k = write_by (nat_le m 16 && is_address a && is_of_bytes m v) ranges m at a.value v.value k
  seen_vector ranges m at a value.Unit k = seen_gives n value.Unit k
  seen_vector ranges m at a (value.Truth b) k = seen_gives n value.Unit k
  seen_vector ranges m at a (value.Member e i) k = seen_gives n value.Unit k

  seen_writes : (ranges : List Range) (m at : ℕ) (a v : Value) (k : List Slot) → Seen n (write_bytes ranges m at a v k) (write_moments ranges m a v)
  seen_writes ranges m at (value.Bits a) v k = seen_vector ranges m at a v k
  seen_writes ranges m at value.Unit v k = seen_gives n value.Unit k
  seen_writes ranges m at (value.Truth b) v k = seen_gives n value.Unit k
  seen_writes ranges m at (value.Member e i) v k = seen_gives n value.Unit k

  pub seen_given : (ranges : List Range) (g : Given) (at : ℕ) (a b : Value) (k : List Slot) → Seen n (given_on ranges g at a b k) (given_moments ranges g a b)
  seen_given ranges (given.Read m) at a b k = seen_reads ranges m at a k
  seen_given ranges (given.Write m) at a b k = seen_writes ranges m at a b k
  seen_given ranges given.Not at a b k = seen_gives n _ k
  seen_given ranges given.LtU at a b k = seen_gives n _ k
  seen_given ranges given.LtS at a b k = seen_gives n _ k
  seen_given ranges given.ShiftLeft at a b k = seen_gives n _ k
  seen_given ranges given.ShiftRight at a b k = seen_gives n _ k
  seen_given ranges given.ShiftRightArith at a b k = seen_gives n _ k
  seen_given ranges given.DivU at a b k = seen_gives n _ k
  seen_given ranges given.RemU at a b k = seen_gives n _ k
  seen_given ranges given.DivS at a b k = seen_gives n _ k
  seen_given ranges given.RemS at a b k = seen_gives n _ k
