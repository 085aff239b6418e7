-- The entry's state has the entry's values and the code's bytes.
use Rattle.std.proofs.Common.{◌≡◌, ◌≢◌, ℕ, ◌+◌, ◌<◌, List, [], ◌∷◌, length, map, get_or, refl, sym, ap, ◌∙◌, subst, arith, cond, Some, All, Less}
use Rattle.std.specs.Prelude.{slice_set, slice_index_or, AllPairs}
use Rattle.std.specs.Ordering.{is_eq}
use Rattle.std.specs.Cmp.{nat_cmp_is}
use Rattle.std.specs.FinMap.{get, insert, empty, get-insert}
use Rattle.std.proofs.lemmas.Cmp.{nat_cmp_total, eq_by_cmp_equiv}
use Rattle.std.proofs.lemmas.List.{length-set, length-map, get_or-set_same, get_or-set_other}
use Rattle.std.proofs.lemmas.List.Elements.{All-head, All-tail, All-cons, All-nil, All-weaker}
use Rattle.std.proofs.Math.Seq.{map-set_same}
use Rattle.std.proofs.lemmas.List.{get_or-map}
use Rattle.bv_bits.specs.declared.Bits.{Bits}
use Rattle.bv_bits.specs.Bits.{width_of}
use Rattle.state_core.specs.State.{Memory, zero_of}
use Rattle.state_core.specs.Claims.{HasBytes}
use Rattle.machine_run.specs.Machine.{Machine}
use Rattle.machine_safe.specs.First.{Constants, IsPartial}
use Rattle.std.specs.Prelude.{slice_get}
use Rattle.std.proofs.lemmas.Option.{get_or_from_slice_get, slice_get_within}
use Rattle.constants_walk.specs.Entry.{with_values, with_bytes, address_bits, entry_state}
use Rattle.std.proofs.lemmas.List.Kept.{AllPairs-cons}
use Rattle.machine_safe.proofs.Parts.{pairs_head, pairs_tail}

abbrev none : Bits
none = record { width = 0; value = 0 }

-- a value of a register that is there, is another one than the PC, and has the value's width
pub record IsSet (widths : List ℕ) (pc : ℕ) (v : ℕ × Bits) : Type 0 where
  pub wide : slice_get widths v.0 ≡ Some v.1.width
  pub other : v.0 ≢ pc

-- ---- widths

pub zero_widths : (ws : List ℕ) → map width_of (map zero_of ws) ≡ ws
zero_widths [] = refl
zero_widths (w ∷ ws) = ap (λ rest. w ∷ rest) (zero_widths ws)

pub kept_width : (ws : List ℕ) (rs : List Bits) (r : ℕ) (b : Bits) → map width_of rs ≡ ws → r < length ws → b.width ≡ slice_index_or ws r 0
    → map width_of (slice_set rs r b) ≡ ws
kept_width ws rs r b is below wide =
    let size : length rs ≡ length ws = sym (length-map rs width_of) ∙ ap length is in
    map-set_same width_of rs r b none
    (wide ∙ ap (λ l. slice_index_or l r 0) (sym is) ∙ get_or-map width_of rs r none 0 (omega (arith, below, size))) ∙ is

pub values_keep : (ws : List ℕ) (pc : ℕ) (vs : List (ℕ × Bits)) (rs : List Bits) → All (IsSet ws pc) vs → map width_of rs ≡ ws → map width_of (with_values vs rs) ≡ ws
values_keep ws pc [] rs placed is = is
values_keep ws pc (v ∷ vs) rs placed is =
    let one = All-head (IsSet ws pc) v vs placed in
    values_keep ws pc vs (slice_set rs v.0 v.1) (All-tail (IsSet ws pc) v vs placed) (kept_width ws rs v.0 v.1 is (slice_get_within ws v.0 v.1.width one.wide) (sym (get_or_from_slice_get ws v.0 v.1.width 0 one.wide)))

-- ---- values

-- values of registers that differ have numbers that differ
fresh_numbers : (n : ℕ) (vs : List (ℕ × Bits)) → All (λ w. n ≢ w.0) vs → All (λ k. n ≢ k) (map (λ v. v.0) vs)
fresh_numbers n [] h = All-nil (λ k. n ≢ k)
fresh_numbers n (v ∷ vs) h =
    All-cons (λ k. n ≢ k) v.0 (map (λ v. v.0) vs) (All-head (λ w. n ≢ w.0) v vs h) (fresh_numbers n vs (All-tail (λ w. n ≢ w.0) v vs h))

pub numbers_differ : (vs : List (ℕ × Bits)) → AllPairs (λ v w. v.0 ≢ w.0) vs → AllPairs ◌≢◌ (map (λ v. v.0) vs)
numbers_differ [] h = λ i j d less below. absurd (omega arith)
numbers_differ (v ∷ vs) h =
    AllPairs-cons ◌≢◌ v.0 (map (λ v. v.0) vs) (fresh_numbers v.0 vs (pairs_head (λ v w. v.0 ≢ w.0) v vs h)) (numbers_differ vs (pairs_tail (λ v w. v.0 ≢ w.0) v vs h))

-- a register that no value is for
unset : (vs : List (ℕ × Bits)) (rs : List Bits) (r : ℕ) → All (λ n. r ≢ n) (map (λ v. v.0) vs) → get_or (with_values vs rs) r none ≡ get_or rs r none
unset [] rs r other = refl
unset (v ∷ vs) rs r other =
    unset vs (slice_set rs v.0 v.1) r (All-tail (λ n. r ≢ n) v.0 (map (λ v. v.0) vs) other)
    ∙ get_or-set_other rs v.0 r v.1 none (All-head (λ n. r ≢ n) v.0 (map (λ v. v.0) vs) other)

pub values_there : (vs : List (ℕ × Bits)) (rs : List Bits) → AllPairs ◌≢◌ (map (λ v. v.0) vs) → All (λ v. v.0 < length rs) vs
    → All (λ v. get_or (with_values vs rs) v.0 none ≡ v.1) vs
values_there [] rs differ below = All-nil (λ v. get_or (with_values [] rs) v.0 none ≡ v.1)
values_there (v ∷ vs) rs differ below =
    All-cons (λ u. get_or (with_values (v ∷ vs) rs) u.0 none ≡ u.1) v vs
    (unset vs (slice_set rs v.0 v.1) v.0 (pairs_head ◌≢◌ v.0 (map (λ v. v.0) vs) differ)
    ∙ get_or-set_same rs v.0 v.1 none (All-head (λ v. v.0 < length rs) v vs below))
    (values_there vs (slice_set rs v.0 v.1) (pairs_tail ◌≢◌ v.0 (map (λ v. v.0) vs) differ)
    (subst (λ n. All (λ v. v.0 < n) vs) (sym (length-set rs v.0 v.1)) (All-tail (λ v. v.0 < length rs) v vs below)))

-- ---- bytes

other_byte : (m : Memory) (at b q : ℕ) → q < at → get (insert m at b) q ≡ get m q
other_byte m at b q below =
    get-insert nat_cmp_total m at b q ∙ ap (λ o. cond (is_eq o) (Some b) (get m q)) (sym (nat_cmp_is q at Less below))

same_byte : (m : Memory) (at b : ℕ) → get (insert m at b) at ≡ Some b
same_byte m at b = get-insert nat_cmp_total m at b at ∙ ap (λ t. cond t (Some b) (get m at)) ((eq_by_cmp_equiv nat_cmp_total).refl at)

byte_kept : (bytes : List ℕ) (m : Memory) (at q : ℕ) → q < at → get (with_bytes at bytes m) q ≡ get m q
byte_kept [] m at q below = refl
byte_kept (b ∷ bytes) m at q below = byte_kept bytes (insert m at b) (at + 1) q (omega (arith, below)) ∙ other_byte m at b q below

pub bytes_there : (bytes : List ℕ) (m : Memory) (at : ℕ) → HasBytes (with_bytes at bytes m) at bytes
bytes_there [] m at = tt
bytes_there (b ∷ bytes) m at =
    (byte_kept bytes (insert m at b) (at + 1) at (omega arith) ∙ same_byte m at b, bytes_there bytes (insert m at b) (at + 1))

-- ---- the entry's state

pub entry_is_partial : (m : Machine) (c : Constants) → m.pc < length m.widths → slice_index_or m.widths m.pc 0 ≡ 64 → All (IsSet m.widths m.pc) c.entry → AllPairs ◌≢◌ (map (λ v. v.0) c.entry)
    → IsPartial m c (entry_state m c)
entry_is_partial m c there wide each differ =
    let zeros : List Bits = map zero_of m.widths in
    let given : List Bits = with_values c.entry zeros in
    let given_widths : map width_of given ≡ m.widths = values_keep m.widths m.pc c.entry zeros each (zero_widths m.widths) in
    let size : length given ≡ length m.widths = sym (length-map given width_of) ∙ ap length given_widths in
    let zero_size : length zeros ≡ length m.widths = length-map m.widths zero_of in
    let below : All (λ v. v.0 < length zeros) c.entry =
    All-weaker (IsSet m.widths m.pc) (λ v. v.0 < length zeros) (λ v p. let t = slice_get_within m.widths v.0 v.1.width p.wide in omega (arith, t, zero_size)) c.entry each in
    let values : All (λ v. get_or given v.0 none ≡ v.1) c.entry = values_there c.entry zeros differ below in
    record {
      widths = kept_width m.widths given m.pc (address_bits c.entry_at) given_widths there (sym wide);
      values = λ k d lt. get_or-set_other given m.pc (get_or c.entry k d).0 (address_bits c.entry_at) none (each k d lt).other ∙ values k d lt;
      pc = ap (λ (b : Bits). b.value) (get_or-set_same given m.pc (address_bits c.entry_at) none (omega (arith, size, there)));
      code = bytes_there c.code empty c.lo;
    }
