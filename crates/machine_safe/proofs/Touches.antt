-- What the accesses tell of a step: one that is no fetch was noted just where the word accesses something.
use Rattle.std.proofs.Common.{◌≡◌, ℕ, ◌+◌, ◌^◌, Bool, true, false, ◌||◌, List, [], ◌∷◌, ◌++◌, Option, Some, None, refl, sym, ap, ap₂, ◌∙◌, subst, append_assoc, append-nil}
use Rattle.std.specs.Prelude.{if◌then◌else◌, nat_lt}
use Rattle.std.specs.List.{list_any}
use Rattle.std.proofs.lemmas.List.Folds.{list_any-append}
use Rattle.sail_syntax.specs.Program.{Definition}
use Rattle.state_core.specs.declared.kinds.Access.{Access}
use Rattle.state_core.specs.declared.kinds.AccessKind.TheVariants as access
use Rattle.state_core.specs.declared.kinds.FaultKind.TheVariants as kind
use Rattle.state_core.specs.declared.kinds.Range.{Range}
use Rattle.state_core.specs.declared.word.Word.{Word}
use Rattle.state_core.specs.World.{World, Got, gets, faults, lacks, reached}
use Rattle.state_core.specs.Memory.{number_at, touches, logged, fetch, or_no_byte}
use Rattle.eval_words.specs.Instr.{instr_of, moments_of_instr}
use Rattle.eval_uses.specs.Uses.{has_access}
use Rattle.machine_run.specs.Words.{is_long, at_once, in_parts, joined, second, fetch_word}
use Rattle.machine_run.specs.Machine.{pc_of, executed, step}
use Rattle.machine_run.specs.Program.{machine_of}
use Rattle.machine_safe.specs.First.{is_data, has_touched}
use Rattle.machine_safe.proofs.Seen.{data_second}
use Rattle.machine_safe.proofs.Calm.{calm_by, notes, added_by}

-- fetches alone are added
abbrev AddsFetches : World → World → Type 0
AddsFetches w x = (l : List Access) × (x.accesses ≡ w.accesses ++ l) × (list_any is_data l ≡ false)

neither : (a b : Bool) → a ≡ false → b ≡ false → (a || b) ≡ false
neither a b p q = ap₂ (λ i j. i || j) p q

fetches_join : (w x y : World) → AddsFetches w x → AddsFetches x y → AddsFetches w y
fetches_join w x y a b = (
  a.0 ++ b.0,
  b.1 ∙ ap (λ l. l ++ b.0) a.1 ∙ append_assoc w.accesses a.0 b.0,
  list_any-append is_data a.0 b.0 ∙ neither (list_any is_data a.0) (list_any is_data b.0) a.2 b.2,
)

number_notes : (o : Option ℕ) (u : World) → (reached (or_no_byte o u)).accesses ≡ u.accesses
number_notes (Some x) u = refl
number_notes None u = refl

fetch_notes : (past touch : Bool) (o : Option ℕ) (u : World)
    → (reached (if past then faults kind.NoByte u else (if touch then faults kind.BadDevice u else or_no_byte o u))).accesses ≡ u.accesses
fetch_notes true touch o u = refl
fetch_notes false true o u = refl
fetch_notes false false o u = number_notes o u

fetch_adds : (ranges : List Range) (at n : ℕ) (w : World) → AddsFetches w (reached (fetch ranges at n w))
unfolding fetch
fetch_adds ranges at n w = (
  record { kind = access.Fetch; addr = at; bytes = n } ∷ [],
  fetch_notes (nat_lt (2 ^ 64) (at + n)) (touches ranges at n) (number_at w.state.memory at n) (logged access.Fetch at n w),
  refl,
)

once_reaches : (g : Got ℕ) → reached (at_once g) ≡ reached g
once_reaches (gets bits w) = refl
once_reaches (faults k w) = refl
once_reaches (lacks w) = refl

joined_reaches : (low : ℕ) (g : Got ℕ) → reached (joined low g) ≡ reached g
joined_reaches low (gets bits w) = refl
joined_reaches low (faults k w) = refl
joined_reaches low (lacks w) = refl

module _ (ranges : List Range) (at : ℕ) where
  second_by : (w : World) (low : ℕ) (long there : Bool) (short : Got Word) → reached short ≡ w
      → AddsFetches w (reached (if long then (if there then joined low (fetch ranges (at + 2) 2 w) else faults kind.NoByte w) else short))
  second_by w low true true short is = subst (AddsFetches w) (sym (joined_reaches low (fetch ranges (at + 2) 2 w))) (fetch_adds ranges (at + 2) 2 w)
  second_by w low true false short is = ([], sym (append-nil w.accesses), refl)
  second_by w low false there short is = subst (AddsFetches w) (sym is) ([], sym (append-nil w.accesses), refl)

  parts_add : (w : World) (g : Got ℕ) → AddsFetches w (reached g) → AddsFetches w (reached (in_parts ranges at g))
  parts_add w (gets low x) a = fetches_join w x (reached (second ranges at low x)) a (second_by x low (is_long low) (nat_lt (at + 2) (2 ^ 64)) _ refl)
  parts_add w (faults k x) a = a
  parts_add w (lacks x) a = a

  word_adds : (short : Bool) (w : World) → AddsFetches w (reached (fetch_word short ranges at w))
  word_adds false w = subst (AddsFetches w) (sym (once_reaches (fetch ranges at 4 w))) (fetch_adds ranges at 4 w)
  word_adds true w = parts_add w (fetch ranges at 2 w) (fetch_adds ranges at 2 w)

module _ (defs : List Definition) (w x : World) (word : Word) (adds : AddsFetches w x) where
  touched_as : (b : Bool) → has_access (moments_of_instr defs [] word x) ≡ b → has_touched w (instr_of defs [] word x).1 ≡ b
  touched_as true is =
      let d = data_second w x (instr_of defs [] word x).1 (adds.0, adds.1) (notes defs word x is) in
      ap (list_any is_data) (added_by w.accesses (instr_of defs [] word x).1.accesses d.0 d.1) ∙ d.2
  touched_as false is =
      ap (list_any is_data) (added_by w.accesses (instr_of defs [] word x).1.accesses adds.0 ((calm_by defs word x is).rest.accesses ∙ adds.1)) ∙ adds.2

pub touch_tells : (defs : List Definition) (w x : World) (word : Word) → fetch_word (machine_of defs).short [] (pc_of (machine_of defs) w.state) w ≡ gets word x
    → has_touched w (step (machine_of defs) [] w).1 ≡ has_access (moments_of_instr defs [] word x)
unfolding step
touch_tells defs w x word is =
    let m = machine_of defs in
    ap (λ g. has_touched w (executed m [] g).1) is
    ∙ touched_as defs w x word (subst (λ g. AddsFetches w (reached g)) is (word_adds [] (pc_of m w.state) m.short w)) (has_access (moments_of_instr defs [] word x)) refl

-- ---- a step that touches has fetched its word

-- a word that is fetched at the PC, and accesses memory or a device
pub record Fetched (defs : List Definition) (w : World) : Type 0 where
  pub word : Word
  pub behind : World
  pub is : fetch_word (machine_of defs).short [] (pc_of (machine_of defs) w.state) w ≡ gets word behind
  pub accesses : has_access (moments_of_instr defs [] word behind) ≡ true

fetches_touch_nothing : (w x : World) → AddsFetches w x → has_touched w x ≡ true → ⊥
fetches_touch_nothing w x adds touched =
    let not_touched : has_touched w x ≡ false = ap (list_any is_data) (added_by w.accesses x.accesses adds.0 adds.1) ∙ adds.2 in
    let no : true ≡ false = sym touched ∙ not_touched in absurd (cc)

fetched_by : (defs : List Definition) (w : World) (g : Got Word) → fetch_word (machine_of defs).short [] (pc_of (machine_of defs) w.state) w ≡ g → AddsFetches w (reached g)
    → has_touched w (executed (machine_of defs) [] g).1 ≡ true → has_touched w (step (machine_of defs) [] w).1 ≡ true → Fetched defs w
fetched_by defs w (gets word x) is adds touched whole = record { word = word; behind = x; is = is; accesses = sym (touch_tells defs w x word is) ∙ whole }
fetched_by defs w (faults k x) is adds touched whole = absurd (fetches_touch_nothing w x adds touched)
fetched_by defs w (lacks x) is adds touched whole = absurd (fetches_touch_nothing w x adds touched)

step_as : (defs : List Definition) (w : World) → step (machine_of defs) [] w ≡ executed (machine_of defs) [] (fetch_word (machine_of defs).short [] (pc_of (machine_of defs) w.state) w)
unfolding step
step_as defs w = refl

pub touch_fetched : (defs : List Definition) (w : World) → has_touched w (step (machine_of defs) [] w).1 ≡ true → Fetched defs w
touch_fetched defs w touched =
    let m = machine_of defs in
    fetched_by defs w (fetch_word m.short [] (pc_of m w.state) w) refl (word_adds [] (pc_of m w.state) m.short w)
    (ap (λ s. has_touched w s.1) (sym (step_as defs w)) ∙ touched) touched
