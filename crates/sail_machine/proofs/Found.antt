-- What a turn leaves, by the tests that it makes; and levels of nesting.
use Rattle.std.proofs.Common.{◌≡◌, ℕ, suc, ◌+◌, ◌≤◌, Bool, true, false, List, [], ◌∷◌, Ok, Err, refl, sym, subst, arith, leb-true, ltb-true}
use Rattle.std.specs.Prelude.{if◌then◌else◌, nat_lt, nat_le, ◌&&◌}
use Rattle.bv_bits.specs.Bits.{IsWidth, is_width}
use Rattle.sail_syntax.specs.Tree.{Tree}
use Rattle.sail_syntax.specs.Program.{Definition}
use Rattle.sail_grammar.specs.declared.keyword.Keyword.{Keyword}
use Rattle.sail_grammar.specs.declared.mark.Mark.{Mark}
use Rattle.sail_grammar.specs.declared.word.Sign.{Sign}
use Rattle.sail_grammar.specs.Words.{Words, the, its, place}
use Rattle.sail_grammar.specs.Expressions.{Spells, SpellsAtom, SpellsBlock, unsliced}
use Rattle.sail_machine.specs.declared.fault.Fault.{Fault}
use Rattle.sail_machine.specs.declared.fault.Flaw.TheVariants as flaw
use Rattle.sail_machine.specs.declared.awaited.Await.{Await}
use Rattle.sail_machine.specs.Frames.{Frame, Frames, Mode, nest, weight}
use Rattle.sail_machine.specs.Signs.{Next, next_word, at_end, is_keyword, is_mark, meets, meets_keyword}
use Rattle.sail_machine.specs.Turns.{Turn, unexpected, fails, goes, opened, shallow, has_room, begins, count}
use Rattle.sail_machine.specs.Run.{Outcome, ended}
use Rattle.sail_machine.proofs.Rests.{left, below, HasPlace, Fits, Taken}
use Rattle.sail_machine.proofs.Awaiting.{Awaits, Left, Turned}
use Rattle.sail_machine.proofs.SignLemmas.{by_keyword, by_mark}

-- ---- levels

pub same_level : (k : Frames) → below k 0 ≡ left k
same_level k = omega arith

pub one_level : (k : Frames) → nest k + 1 ≤ 128 → suc (below k 1) ≡ left k
one_level k room = omega (arith, room)

pub second_level : (k : Frames) → nest k + 2 ≤ 128 → suc (below k 2) ≡ below k 1
second_level k room = omega (arith, room)

pub first_room : (k : Frames) → nest k + 2 ≤ 128 → nest k + 1 ≤ 128
first_room k room = omega (arith, room)

pub slice_room : (k : Frames) (c : ℕ) → nest k + suc c ≤ 128 → suc c ≤ left k
slice_room k c room = omega (arith, room)

-- one level up
pub up_expression : {o : Bool} {us r : Words} {x : Tree} (k : Frames) → nest k + 1 ≤ 128 → Spells (suc (below k 1)) o us x r → Spells (left k) o us x r
up_expression {o = o} {us = us} {r = r} {x = x} k room d = subst (λ (n : ℕ). Spells n o us x r) (one_level k room) d

pub up_block : {us r : Words} {x : Tree} (k : Frames) → nest k + 1 ≤ 128 → SpellsBlock (suc (below k 1)) us x r → SpellsBlock (left k) us x r
up_block {us = us} {r = r} {x = x} k room d = subst (λ (n : ℕ). SpellsBlock n us x r) (one_level k room) d

up_atom : {us r : Words} {x : Tree} (k : Frames) → nest k + 1 ≤ 128 → SpellsAtom (suc (below k 1)) us x r → SpellsAtom (left k) us x r
up_atom {us = us} {r = r} {x = x} k room d = subst (λ (n : ℕ). SpellsAtom n us x r) (one_level k room) d

-- ---- numbers

pub width_told : (w : ℕ) → is_width w ≡ true → IsWidth w
width_told w h = by (nat_lt 0 w) refl h
  where
    by : (b : Bool) → nat_lt 0 w ≡ b → (b && nat_le w 128) ≡ true → IsWidth w
    by true e g = record { positive = ltb-true 0 w e; at_most = leb-true w 128 g }
    by false e g = absurd cc

module _ (D : List Definition) where
  -- an atom is an operand, and goes on
  pub atom_found : {us r : Words} {x : Tree} {p : ℕ} (k : Frames) → Taken D k x 0 p r → place us ≡ p → nest k + 1 ≤ 128 → SpellsAtom (suc (below k 1)) us x r → Fits D k us
  atom_found {us = us} k taken at room d = taken us at (unsliced (up_atom k room d))

  -- ---- turns

  -- a test
  pub tested : {X : Type 0} (b : Bool) (t u : Turn) (ws : Words) → (b ≡ true → Turned D t ws → X) → (b ≡ false → Turned D u ws → X) → Turned D (if b then t else u) ws → X
  tested true t u ws go other h = go refl h
  tested false t u ws go other h = other refl h

  -- a quoted word
  pub keyworded : (word : Keyword) (s : Sign) (at : ℕ) (X : Words → Type 0) (ws : Words) (t u : Turn) → (Turned D t ws → X (the word at ∷ ws)) → (Turned D u ws → X (record { sign = s; at = at } ∷ ws))
      → Turned D (if is_keyword word s then t else u) ws → X (record { sign = s; at = at } ∷ ws)
  keyworded word s at X ws t u go other h =
      tested (is_keyword word s) t u ws (λ e g. subst (λ (z : Sign). X (record { sign = z; at = at } ∷ ws)) (sym (by_keyword word s e)) (go g)) (λ e g. other g) h

  -- a mark
  pub marked : (which : Mark) (s : Sign) (at : ℕ) (X : Words → Type 0) (ws : Words) (t u : Turn) → (Turned D t ws → X (its which at ∷ ws)) → (Turned D u ws → X (record { sign = s; at = at } ∷ ws))
      → Turned D (if is_mark which s then t else u) ws → X (record { sign = s; at = at } ∷ ws)
  marked which s at X ws t u go other h =
      tested (is_mark which s) t u ws (λ e g. subst (λ (z : Sign). X (record { sign = z; at = at } ∷ ws)) (sym (by_mark which s e)) (go g)) (λ e g. other g) h

  -- something opens
  pub opened_found : {X : Type 0} (k : Frames) (f : Frame) (mode : Mode) (at : ℕ) (ws : Words) → (nest k + weight f ≤ 128 → Left D (f ∷ k) mode ws → X) → Turned D (opened k f mode at) ws → X
  opened_found k f mode at ws go h = tested (has_room k (weight f)) (Ok (f ∷ k, mode)) (fails flaw.TooDeep at) ws (λ e g. go (leb-true (nest k + weight f) 128 e) g) (λ e g. absurd g) h

  pub shallow_found : {X : Type 0} (k : Frames) (await : Await) (at : ℕ) (ws : Words) → (nest k + 1 ≤ 128 → Awaits D k await ws → X) → Turned D (shallow k await at) ws → X
  shallow_found k await at ws go h = tested (has_room k 1) (goes k await) (fails flaw.TooDeep at) ws (λ e g. go (leb-true (nest k + 1) 128 e) g) (λ e g. absurd g) h

  pub begins_found : {X : Type 0} (kind : Definition → Bool) (k : Frames) (await : Await) (at : ℕ) (ws : Words) → (HasPlace kind k → Awaits D k await ws → X) → Turned D (begins kind k await at) ws → X
  begins_found kind k await at ws go h = tested (nat_lt (count kind k) 1024) (goes k await) (fails flaw.TooMany at) ws (λ e g. go (ltb-true (count kind k) 1024 e) g) (λ e g. absurd g) h

  -- ---- behind an expression, where the text may end

  module _ (end : ℕ) where
    -- what comes next
    abbrev pub next_of : Words → Next
    next_of [] = at_end end
    next_of (w ∷ ws) = next_word w

    -- what a turn leaves of these words, which begin with what it sees; at their end it gives the program
    abbrev pub Follows : Words → Turn → Type 0
    Follows [] t = ended t end ≡ Ok D
    Follows (w ∷ ws) t = Turned D t ws

    abbrev outcome : List Definition → Outcome
    outcome ds = Ok ds

    wrong : (e : Fault) → Err e ≡ outcome D → ⊥
    wrong e h = cc

    pub lost : {X : Type 0} (r : Words) (e : Fault) → Follows r (Err e) → X
    lost [] e h = absurd (wrong e h)
    lost (w ∷ ws) e h = absurd h

    pub met : (which : Mark) (r : Words) (X : Words → Type 0) (t : ℕ → Turn) (u : Turn) → ((at : ℕ) (ws : Words) → Turned D (t at) ws → X (its which at ∷ ws)) → (Follows r u → X r)
        → Follows r (if meets which (next_of r) then t (next_of r).at else u) → X r
    met which [] X t u go other h = other h
    met which (w ∷ ws) X t u go other h = marked which w.sign w.at X ws (t w.at) u (go w.at ws) other h

    -- this mark, or a fault
    pub met_alone : (which : Mark) (r : Words) (X : Words → Type 0) (t : ℕ → Turn) → ((at : ℕ) (ws : Words) → Turned D (t at) ws → X (its which at ∷ ws))
        → Follows r (if meets which (next_of r) then t (next_of r).at else unexpected (next_of r).at) → X r
    met_alone which r X t go h = met which r X t (unexpected (next_of r).at) go (λ g. lost r (record { flaw = flaw.Unexpected; at = (next_of r).at }) g) h

    pub met_keyword : (word : Keyword) (r : Words) (X : Words → Type 0) (t : Turn) → ((at : ℕ) (ws : Words) → Turned D t ws → X (the word at ∷ ws))
        → Follows r (if meets_keyword word (next_of r) then t else unexpected (next_of r).at) → X r
    met_keyword word [] X t go h = lost [] (record { flaw = flaw.Unexpected; at = end }) h
    met_keyword word (w ∷ ws) X t go h = keyworded word w.sign w.at X ws t (unexpected w.at) (go w.at ws) (λ g. absurd g) h
