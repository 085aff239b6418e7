-- What is read as an array term is spelled.
use Rattle.std.proofs.Common.{◌≡◌, ℕ, zero, suc, ◌+◌, ◌-◌, ◌≤◌, Bool, true, false, List, [], ◌∷◌, length, drop, Option, Some, None, Ok, Err, refl, sym, ap, subst, ◌∙◌, arith}
use Rattle.std.specs.Prelude.{bytes_eq, codes, nat_lt, nat_eq, ◌&&◌, if◌then◌else◌}
use Rattle.std.proofs.lemmas.Bool.{lt-ltb, le-ltb, ltb-false, eqb-true, and_parts}
use Rattle.std.proofs.lemmas.List.{length-drop, length-map, drop-drop}
use Rattle.lex_core.specs.declared.token.Token.{Token}
use Rattle.term_tree.specs.declared.term.Sort.{Sort}
use Rattle.term_tree.specs.declared.term.Sort.TheVariants as sort
use Rattle.term_read.specs.declared.reading.TermReadFault.{TermReadFault}
use Rattle.term_read.specs.declared.reading.TermReadFault.TheVariants as fault
use Rattle.term_tree.specs.Terms.{Text, Tree, ArrayTree, array, upd, splice, width_of, array_height, HIGHEST}
use Rattle.term_print.specs.Words.{Word, opens, closes, name, number, literal, other, lexeme, lexemes}
use Rattle.term_words.specs.Scopes.{Scope, sort_of}
use Rattle.term_read.specs.Reading.{Turn, goes, ends, fails, step, Outcome, Answer, too_high, ArrayFrame, updated, spliced, spliced_below, Slot, updated_at, updated_by, spliced_at, ArrayMode, array_wanted, array_head, in_term, array_close, ArrayTurn, array_goes, array_ends, array_fails, array_step, array_go_on, array_run, array_given, array_judged, filled, array_variable, in_turn, on_array_wanted, on_array_head, on_array_close, numbered, array_from}
use Rattle.term_read.specs.Spelling.{Words, placed, Spells, ArraySpells, an_array, an_update, a_splice}
use Rattle.term_tree.proofs.SameLemmas.{same_text}
use Rattle.term_read.proofs.SoundLemmas.{At, Sounds, step_sound, some_arity, spelled_end, behind_one, more_left, same_end}

module _ (scope : Scope) where
  -- the words of `all` before r have opened these brackets, and n levels are left
  abbrev pub ArrayUnder : List ArrayFrame → ℕ → Words → Words → Type 0
  ArrayUnder [] n all r = (all ≡ r) × (n ≡ 1024)
  ArrayUnder (updated p ∷ a) n all r = (s : ℕ) × ArrayUnder a (suc n) all (placed opens p ∷ placed (name (codes "upd")) s ∷ r)
  ArrayUnder (spliced p ∷ a) n all r = (s : ℕ) × ArrayUnder a (suc n) all (placed opens p ∷ placed (name (codes "splice")) s ∷ r)
  ArrayUnder (spliced_below p f ∷ a) n all r =
      (s : ℕ) × (ws : Words) × ArrayUnder a (suc n) all (placed opens p ∷ placed (name (codes "splice")) s ∷ ws) × ArraySpells scope n ws f r

  -- so they have opened the bracket in which a term is to come
  abbrev pub Holds : List ArrayFrame → Slot → ℕ → Words → Words → Type 0
  Holds a (updated_at p f) n all r = (s : ℕ) × (ws : Words) × ArrayUnder a (suc n) all (placed opens p ∷ placed (name (codes "upd")) s ∷ ws) × ArraySpells scope n ws f r
  Holds a (updated_by p f i) n all r =
      (s : ℕ) × (ws : Words) × (vs : Words) × ArrayUnder a (suc n) all (placed opens p ∷ placed (name (codes "upd")) s ∷ ws) × ArraySpells scope n ws f vs × Spells scope n vs i r
  Holds a (spliced_at p f g) n all r =
      (s : ℕ) × (ws : Words) × (vs : Words) × ArrayUnder a (suc n) all (placed opens p ∷ placed (name (codes "splice")) s ∷ ws) × ArraySpells scope n ws f vs × ArraySpells scope n vs g r

  -- and spell all parts of an array term
  abbrev pub ArrayReady : List ArrayFrame → ArrayTree → ℕ → Words → Words → Type 0
  ArrayReady a (array f) n all r = ⊥
  ArrayReady a (upd f i b) n all r =
      (p : ℕ) × (s : ℕ) × (ws : Words) × (vs : Words) × (us : Words) × ArrayUnder a (suc n) all (placed opens p ∷ placed (name (codes "upd")) s ∷ ws)
      × ArraySpells scope n ws f vs × Spells scope n vs i us × Spells scope n us b r × (width_of i ≡ 64) × (width_of b ≡ 8)
  ArrayReady a (splice f g i) n all r =
      (p : ℕ) × (s : ℕ) × (ws : Words) × (vs : Words) × (us : Words) × ArrayUnder a (suc n) all (placed opens p ∷ placed (name (codes "splice")) s ∷ ws)
      × ArraySpells scope n ws f vs × ArraySpells scope n vs g us × Spells scope n us i r × (width_of i ≡ 64)

  -- where reading stands
  abbrev pub ArrayAt : List ArrayFrame → ArrayMode → ℕ → Words → Words → Type 0
  ArrayAt a array_wanted n all r = ArrayUnder a n all r
  ArrayAt a (array_head p) n all r = ArrayUnder a (suc n) all (placed opens p ∷ r)
  ArrayAt a (in_term s k m) n all r = (start : Words) × (l : ℕ) × Holds a s n all start × At scope (length a + 1) n k m l start r
  ArrayAt a (array_close f) n all r = ArrayReady a f n all r

  abbrev pub ArraySounds : Words → Words → ArrayTurn → Type 0
  ArraySounds all r (array_goes a m) = (n : ℕ) × ArrayAt a m n all r
  ArraySounds all r (array_ends f) = ArraySpells scope 1024 all f r
  ArraySounds all r (array_fails f) = Unit {0}

  array_room : (a : List ArrayFrame) (n : ℕ) (all r : Words) → ArrayUnder a n all r → length a + n ≡ 1024
  array_room [] n all r u = omega (arith, u.1)
  array_room (updated p ∷ a) n all r u = omega (arith, array_room a (suc n) all _ u.1)
  array_room (spliced p ∷ a) n all r u = omega (arith, array_room a (suc n) all _ u.1)
  array_room (spliced_below p f ∷ a) n all r u = omega (arith, array_room a (suc n) all _ u.2)

  slot_room : (a : List ArrayFrame) (s : Slot) (n : ℕ) (all r : Words) → Holds a s n all r → (length a + 1) + n ≡ 1024
  slot_room a (updated_at p f) n all r h = omega (arith, array_room a (suc n) all _ h.2)
  slot_room a (updated_by p f i) n all r h = omega (arith, array_room a (suc n) all _ h.3)
  slot_room a (spliced_at p f g) n all r h = omega (arith, array_room a (suc n) all _ h.3)

  array_given_sound : (a : List ArrayFrame) (n : ℕ) (all ws r : Words) (f : ArrayTree) → ArrayUnder a n all ws → ArraySpells scope n ws f r → ArraySounds all r (array_given a f)
  array_given_sound [] n all ws r f u s = subst (λ (l : ℕ). ArraySpells scope l all f r) u.1 (subst (λ (l : Words). ArraySpells scope n l f r) (sym u.0) s)
  array_given_sound (updated p ∷ a) n all ws r f u s = (n, (r, n, (u.0, ws, u.1, s), (refl, refl)))
  array_given_sound (spliced p ∷ a) n all ws r f u s = (n, (u.0, ws, u.1, s))
  array_given_sound (spliced_below p g ∷ a) n all ws r f u s = (n, (r, n, (u.0, u.1, ws, u.2, u.3, s), (refl, refl)))

  array_judged_sound : (b : Bool) (p : ℕ) (a : List ArrayFrame) (f : ArrayTree) (n : ℕ) (all r : Words) → (b ≡ true → ArrayReady a f n all r) → ArraySounds all r (array_judged b p a f)
  array_judged_sound true p a f n all r h = (n, h refl)
  array_judged_sound false p a f n all r h = tt

  filled_sound : (a : List ArrayFrame) (s : Slot) (n : ℕ) (all start r : Words) (t : Tree) → Holds a s n all start → Spells scope n start t r → ArraySounds all r (filled a s t)
  filled_sound a (updated_at p f) n all start r t h spelled = (n, (r, n, (h.0, h.1, start, h.2, h.3, spelled), (refl, refl)))
  filled_sound a (updated_by p f i) n all start r t h spelled =
      array_judged_sound (nat_eq (width_of i) 64 && nat_eq (width_of t) 8) p a (upd f i t) n all r
      (λ fits. let parts = and_parts (nat_eq (width_of i) 64) (nat_eq (width_of t) 8) fits in
      (p, h.0, h.1, h.2, start, h.3, h.4, h.5, spelled, eqb-true (width_of i) 64 parts.0, eqb-true (width_of t) 8 parts.1))
  filled_sound a (spliced_at p f g) n all start r t h spelled =
      array_judged_sound (nat_eq (width_of t) 64) p a (splice f g t) n all r (λ fits. (p, h.0, h.1, h.2, start, h.3, h.4, h.5, spelled, eqb-true (width_of t) 64 fits))

  in_turn_sound : (a : List ArrayFrame) (s : Slot) (n : ℕ) (all start r : Words) (t : Turn) → Holds a s n all start → Sounds scope (length a + 1) n start r t → ArraySounds all r (in_turn a s t)
  in_turn_sound a s n all start r (goes k m) h g = (n, (start, g.0, h, g.1))
  in_turn_sound a s n all start r (ends t) h g = filled_sound a s n all start r t h g
  in_turn_sound a s n all start r (fails f) h g = tt

  array_variable_sound : (o : Option Sort) (a : List ArrayFrame) (n : ℕ) (all : Words) (x : Text) (at : ℕ) (r : Words) → sort_of scope x ≡ o → ArrayUnder a n all (placed (name x) at ∷ r) → ArraySounds all r (array_variable a at x o)
  array_variable_sound None a n all x at r e u = tt
  array_variable_sound (Some (sort.Bits w)) a n all x at r e u = tt
  array_variable_sound (Some sort.Array) a n all x at r e u = array_given_sound a n all (placed (name x) at ∷ r) r (array x) u (an_array e)

  array_wanted_sound : (a : List ArrayFrame) (n : ℕ) (all : Words) (w : Word) (at : ℕ) (r : Words) → ArrayUnder a n all (placed w at ∷ r) → ArraySounds all r (on_array_wanted scope a w at)
  array_wanted_sound a zero all opens at r u = let full = array_room a zero all _ u in rw (le-ltb (length a) 1024 (omega arith)) tt
  array_wanted_sound a (suc n) all opens at r u = let some = array_room a (suc n) all _ u in rw (lt-ltb (length a) 1024 (omega arith)) (n, u)
  array_wanted_sound a n all (name x) at r u = array_variable_sound (sort_of scope x) a n all x at r refl u
  array_wanted_sound a n all (literal b) at r u = tt
  array_wanted_sound a n all closes at r u = tt
  array_wanted_sound a n all (number i) at r u = tt
  array_wanted_sound a n all other at r u = tt

  -- the word, where it is one that is known
  array_known : (x w : Text) (a : List ArrayFrame) (p at n : ℕ) (all r : Words) → bytes_eq x w ≡ true → ArrayUnder a (suc n) all (placed opens p ∷ placed (name x) at ∷ r) → ArrayUnder a (suc n) all (placed opens p ∷ placed (name w) at ∷ r)
  array_known x w a p at n all r e u = subst (λ (y : Text). ArrayUnder a (suc n) all (placed opens p ∷ placed (name y) at ∷ r)) (same_text x w e) u

  array_heads_sound : (b c : Bool) (a : List ArrayFrame) (p at n : ℕ) (all : Words) (x : Text) (r : Words) → bytes_eq x (codes "upd") ≡ b → bytes_eq x (codes "splice") ≡ c
      → ArrayUnder a (suc n) all (placed opens p ∷ placed (name x) at ∷ r)
      → ArraySounds all r (if b then array_goes (updated p ∷ a) array_wanted else (if c then array_goes (spliced p ∷ a) array_wanted else array_fails (fault.Form at)))
  array_heads_sound true c a p at n all x r eb ec u = (n, (at, array_known x (codes "upd") a p at n all r eb u))
  array_heads_sound false true a p at n all x r eb ec u = (n, (at, array_known x (codes "splice") a p at n all r ec u))
  array_heads_sound false false a p at n all x r eb ec u = tt

  array_head_sound : (a : List ArrayFrame) (p n : ℕ) (all : Words) (w : Word) (at : ℕ) (r : Words) → ArrayUnder a (suc n) all (placed opens p ∷ placed w at ∷ r) → ArraySounds all r (on_array_head a p w at)
  array_head_sound a p n all (name x) at r u = array_heads_sound (bytes_eq x (codes "upd")) (bytes_eq x (codes "splice")) a p at n all x r refl refl u
  array_head_sound a p n all opens at r u = tt
  array_head_sound a p n all closes at r u = tt
  array_head_sound a p n all (number i) at r u = tt
  array_head_sound a p n all (literal b) at r u = tt
  array_head_sound a p n all other at r u = tt

  closed_sound : (b : Bool) (a : List ArrayFrame) (f : ArrayTree) (n : ℕ) (all ws r : Words) → nat_lt HIGHEST (array_height f) ≡ b → ArrayUnder a n all ws → (array_height f ≤ HIGHEST → ArraySpells scope n ws f r)
      → ArraySounds all r (if b then array_fails too_high else array_given a f)
  closed_sound true a f n all ws r e u s = tt
  closed_sound false a f n all ws r e u s = array_given_sound a n all ws r f u (s (ltb-false HIGHEST (array_height f) e))

  array_ready_sound : (a : List ArrayFrame) (f : ArrayTree) (n q : ℕ) (all r : Words) → ArrayReady a f n all (placed closes q ∷ r) → ArraySounds all r (if nat_lt HIGHEST (array_height f) then array_fails too_high else array_given a f)
  array_ready_sound a (array f) n q all r h = absurd h
  array_ready_sound a (upd f i b) n q all r h =
      closed_sound (nat_lt HIGHEST (array_height (upd f i b))) a (upd f i b) (suc n) all (placed opens h.0 ∷ placed (name (codes "upd")) h.1 ∷ h.2) r refl h.5 (λ low. an_update h.6 h.7 h.8 h.9 h.10 low)
  array_ready_sound a (splice f g i) n q all r h =
      closed_sound (nat_lt HIGHEST (array_height (splice f g i))) a (splice f g i) (suc n) all (placed opens h.0 ∷ placed (name (codes "splice")) h.1 ∷ h.2) r refl h.5 (λ low. a_splice h.6 h.7 h.8 h.9 low)

  array_close_sound : (a : List ArrayFrame) (f : ArrayTree) (n : ℕ) (all : Words) (w : Word) (at : ℕ) (r : Words) → ArrayReady a f n all (placed w at ∷ r) → ArraySounds all r (on_array_close a f w at)
  array_close_sound a f n all closes at r h = array_ready_sound a f n at all r h
  array_close_sound a f n all opens at r h = tt
  array_close_sound a f n all w at r h = tt

  array_step_sound : (a : List ArrayFrame) (m : ArrayMode) (n : ℕ) (all : Words) (w : Word) (at : ℕ) (r : Words) → ArrayAt a m n all (placed w at ∷ r) → ArraySounds all r (array_step scope a m (placed w at))
  array_step_sound a array_wanted n all w at r h = array_wanted_sound a n all w at r h
  array_step_sound a (array_head p) n all w at r h = array_head_sound a p n all w at r h
  array_step_sound a (in_term s k m) n all w at r h =
      in_turn_sound a s n all h.0 r (step scope (length a + 1) k m (placed w at)) h.2
      (step_sound scope (length a + 1) n (slot_room a s n all h.0 h.2) k m h.1 h.0 w at r h.3 some_arity)
  array_step_sound a (array_close f) n all w at r h = array_close_sound a f n all w at r h

-- an outcome in which what is read is spelled
abbrev pub IsSpelledArray : Scope → Words → Outcome ArrayTree → Type 0
IsSpelledArray scope all (Ok (f, r)) = ArraySpells scope 1024 all f r
IsSpelledArray scope all (Err f) = Unit {0}

module _ (scope : Scope) (len : ℕ) (all : Words) where
  array_turn_sound : (t : ArrayTurn) (r : Words) → ArraySounds scope all r t → ((a : List ArrayFrame) (m : ArrayMode) (n : ℕ) → ArrayAt scope a m n all r → IsSpelledArray scope all (array_run scope len a m r))
      → IsSpelledArray scope all (array_go_on t r (λ a' m'. array_run scope len a' m' r))
  array_turn_sound (array_goes a m) r h later = later a m h.0 h.1
  array_turn_sound (array_ends f) r h later = h
  array_turn_sound (array_fails f) r h later = tt

  array_run_sound : (a : List ArrayFrame) (m : ArrayMode) (n : ℕ) (r : Words) → ArrayAt scope a m n all r → IsSpelledArray scope all (array_run scope len a m r)
  unfolding array_run
  array_run_sound a m n [] h = tt
  array_run_sound a m n (x ∷ r) h = array_turn_sound (array_step scope a m x) r (array_step_sound scope a m n all x.word x.at r h) (λ a' m' n' g. array_run_sound a' m' n' r g)

-- what is read is spelled
array_read_spelled : (scope : Scope) (len : ℕ) (ws r : Words) (f : ArrayTree) → array_run scope len [] array_wanted ws ≡ Ok (f, r) → ArraySpells scope 1024 ws f r
array_read_spelled scope len ws r f e = subst (IsSpelledArray scope ws) e (array_run_sound scope len ws [] array_wanted 1024 ws (refl, refl))

-- ---- the words behind

-- an end of an end
later_end : (i j : ℕ) (ws q r : Words) → i ≤ length ws → q ≡ drop i ws → j ≤ length q → r ≡ drop j q → (i + j ≤ length ws) × (r ≡ drop (i + j) ws)
later_end i j ws q r li e lj f = (omega (arith, ap length e, length-drop i ws), f ∙ ap (drop j) e ∙ drop-drop j i ws)

-- what is left behind an array term is an end of the words
array_end : (scope : Scope) (n : ℕ) (ws r : Words) (f : ArrayTree) → ArraySpells scope n ws f r → (i : ℕ) × (i ≤ length ws) × (r ≡ drop i ws)
array_end scope n ws r f (an_array e) = (1, omega arith, refl)
array_end scope (suc n) ws r f (an_update {q = q} {ws = us} {ws' = vs} {ws'' = ts} of at by wide byte low) =
    let a = array_end scope n us vs _ of in
    let b = spelled_end scope n vs ts _ at in
    let c = spelled_end scope n ts _ _ by in
    let ab = later_end a.0 b.0 us vs ts a.1 a.2 b.1 b.2 in
    let abc = later_end (a.0 + b.0) c.0 us ts (placed closes q ∷ r) ab.0 ab.1 c.1 c.2 in
    let i = a.0 + b.0 + c.0 in
    (suc (suc (suc i)), omega (arith, more_left i us (placed closes q) r abc.1), behind_one i us (placed closes q) r abc.1)
array_end scope (suc n) ws r f (a_splice {q = q} {ws = us} {ws' = vs} {ws'' = ts} of below at wide low) =
    let a = array_end scope n us vs _ of in
    let b = array_end scope n vs ts _ below in
    let c = spelled_end scope n ts _ _ at in
    let ab = later_end a.0 b.0 us vs ts a.1 a.2 b.1 b.2 in
    let abc = later_end (a.0 + b.0) c.0 us ts (placed closes q ∷ r) ab.0 ab.1 c.1 c.2 in
    let i = a.0 + b.0 + c.0 in
    (suc (suc (suc i)), omega (arith, more_left i us (placed closes q) r abc.1), behind_one i us (placed closes q) r abc.1)

first_part : (f g : ArrayTree) (m n : ℕ) → ◌≡◌ {A = Answer ArrayTree} (Ok (f, m)) (Ok (g, n)) → f ≡ g
first_part f g m n e = let pair : ◌≡◌ {A = ArrayTree × ℕ} (f, m) (g, n) = cc in ap (λ (p : ArrayTree × ℕ). p.0) pair

second_part : (f g : ArrayTree) (m n : ℕ) → ◌≡◌ {A = Answer ArrayTree} (Ok (f, m)) (Ok (g, n)) → m ≡ n
second_part f g m n e = let pair : ◌≡◌ {A = ArrayTree × ℕ} (f, m) (g, n) = cc in ap (λ (p : ArrayTree × ℕ). p.1) pair

no_answer : (e : TermReadFault) (f : ArrayTree) (n : ℕ) → ◌≡◌ {A = Answer ArrayTree} (Err e) (Ok (f, n)) → ⊥
no_answer e f n same = cc

-- what is read is spelled by the tokens up to the next
pub read_array_is_spelled : (text : Text) (ts : List Token) (from next : ℕ) (scope : Scope) (f : ArrayTree) → array_from text ts from scope ≡ Ok (f, next)
    → ArraySpells scope 1024 (drop from (lexemes text ts)) f (drop next (lexemes text ts))
unfolding array_from
read_array_is_spelled text ts from next scope f e = go (array_run scope (length text) [] array_wanted (drop from (lexemes text ts))) refl e
  where
    go : (o : Outcome ArrayTree) → array_run scope (length text) [] array_wanted (drop from (lexemes text ts)) ≡ o → numbered (length ts) o ≡ Ok (f, next) → ArraySpells scope 1024 (drop from (lexemes text ts)) f (drop next (lexemes text ts))
    go (Ok (g, r)) is same =
        let s = array_read_spelled scope (length text) (drop from (lexemes text ts)) r g is in
        let left = array_end scope 1024 (drop from (lexemes text ts)) r g s in
        let arrays : g ≡ f = first_part g f (length ts - length r) next same in
        let numbers : length ts - length r ≡ next = second_part g f (length ts - length r) next same in
        let whole : r ≡ drop (from + left.0) (lexemes text ts) = left.2 ∙ drop-drop left.0 from (lexemes text ts) in
        let some = length-map ts (lexeme text) in
        let at : length (lexemes text ts) - length (drop (from + left.0) (lexemes text ts)) ≡ next = omega (arith, numbers, some, ap length whole) in
        let place : drop (from + left.0) (lexemes text ts) ≡ drop next (lexemes text ts) = same_end (from + left.0) (lexemes text ts) ∙ ap (λ k. drop k (lexemes text ts)) at in
        subst (λ (l : Words). ArraySpells scope 1024 (drop from (lexemes text ts)) f l) (whole ∙ place) (subst (λ (v : ArrayTree). ArraySpells scope 1024 (drop from (lexemes text ts)) v r) arrays s)
    go (Err w) is same = absurd (no_answer w f next same)
