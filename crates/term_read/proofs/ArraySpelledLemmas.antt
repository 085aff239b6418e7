-- What is spelled as an array term is read.
use Rattle.std.proofs.Common.{◌≡◌, ℕ, suc, ◌+◌, ◌≤◌, ◌<◌, true, List, [], ◌∷◌, length, drop, Ok, refl, sym, ap, ◌∙◌, arith}
use Rattle.std.specs.Prelude.{codes, nat_eq, ◌&&◌, if◌then◌else◌}
use Rattle.std.proofs.lemmas.Bool.{lt-ltb, le-ltb, eq-eqb}
use Rattle.lex_core.specs.declared.token.Token.{Token}
use Rattle.term_tree.specs.Terms.{Text, Tree, ArrayTree, upd, splice, width_of, array_height, HIGHEST}
use Rattle.term_print.specs.Words.{name, opens, closes, lexemes}
use Rattle.term_words.specs.Scopes.{Scope}
use Rattle.term_read.specs.Reading.{Frame, Mode, wanted, Turn, goes, ends, fails, Outcome, step, too_high, ArrayFrame, updated, spliced, spliced_below, Slot, updated_at, updated_by, spliced_at, array_wanted, array_head, in_term, array_close, ArrayTurn, array_goes, array_fails, array_go_on, array_run, array_given, array_judged, filled, array_variable, in_turn, numbered, array_from}
use Rattle.term_read.specs.Spelling.{Words, placed, Spells, ArraySpells, an_array, an_update, a_splice}
use Rattle.term_read.proofs.SpelledLemmas.{drive, Drives, reads}
use Rattle.term_read.proofs.LoopLemmas.{left_over}

module _ (scope : Scope) (len : ℕ) where
  -- what a turn leads to, where words are left
  abbrev pub array_turned : ArrayTurn → Words → Outcome ArrayTree
  array_turned t r = array_go_on t r (λ a m. array_run scope len a m r)

  -- a term in its bracket
  abbrev pub inside : List ArrayFrame → Slot → List Frame → Mode → Words → Outcome ArrayTree
  inside a s k m r = array_run scope len a (in_term s k m) r

  abbrev pub outside : List ArrayFrame → Slot → Tree → Words → Outcome ArrayTree
  outside a s t r = array_turned (filled a s t) r

  turn_drives : (a : List ArrayFrame) (s : Slot) (t : Turn) (r : Words) → array_turned (in_turn a s t) r ≡ drive scope (length a + 1) (inside a s) (outside a s) t r
  turn_drives a s (goes k m) r = refl
  turn_drives a s (ends t) r = refl
  turn_drives a s (fails f) r = refl

  inside_drives : (a : List ArrayFrame) (s : Slot) → Drives scope (length a + 1) (inside a s) (outside a s)
  unfolding array_run
  inside_drives a s k m x r = turn_drives a s (step scope (length a + 1) k m x) r

  -- a term that is spelled in a bracket fills it
  fills : (n : ℕ) (a : List ArrayFrame) (s : Slot) (ws r : Words) (t : Tree) → Spells scope n ws t r → suc (length a) + n ≤ 1024 → array_run scope len a (in_term s [] wanted) ws ≡ array_turned (filled a s t) r
  fills n a s ws r t spelled room = reads scope (length a + 1) (inside a s) (outside a s) (inside_drives a s) n [] ws r t spelled (omega arith)

  -- a bracket opens, where there is room
  array_opens : (a : List ArrayFrame) (p : ℕ) (ws : Words) → length a < 1024 → array_run scope len a array_wanted (placed opens p ∷ ws) ≡ array_run scope len a (array_head p) ws
  unfolding array_run
  array_opens a p ws l = ap (λ b. array_turned (if b then array_goes a (array_head p) else array_fails too_high) ws) (lt-ltb (length a) 1024 l)

  update_begins : (a : List ArrayFrame) (p s : ℕ) (ws : Words) → array_run scope len a (array_head p) (placed (name (codes "upd")) s ∷ ws) ≡ array_run scope len (updated p ∷ a) array_wanted ws
  unfolding array_run
  update_begins a p s ws = refl

  splice_begins : (a : List ArrayFrame) (p s : ℕ) (ws : Words) → array_run scope len a (array_head p) (placed (name (codes "splice")) s ∷ ws) ≡ array_run scope len (spliced p ∷ a) array_wanted ws
  unfolding array_run
  splice_begins a p s ws = refl

  -- the `)` of an array term that isn't too high ends it
  array_closes : (a : List ArrayFrame) (q : ℕ) (f : ArrayTree) (r : Words) → array_height f ≤ HIGHEST → array_run scope len a (array_close f) (placed closes q ∷ r) ≡ array_turned (array_given a f) r
  unfolding array_run
  array_closes a q f r low = ap (λ b. array_turned (if b then array_fails too_high else array_given a f) r) (le-ltb HIGHEST (array_height f) low)

  -- both widths fit
  both_fit : (i b : Tree) → width_of i ≡ 64 → width_of b ≡ 8 → (nat_eq (width_of i) 64 && nat_eq (width_of b) 8) ≡ true
  both_fit i b wide byte = rw (eq-eqb (width_of i) 64 wide, eq-eqb (width_of b) 8 byte) refl

  -- an array term that is spelled is given to the brackets that are open
  array_reads : (n : ℕ) (a : List ArrayFrame) (ws r : Words) (f : ArrayTree) → ArraySpells scope n ws f r → length a + n ≤ 1024 → array_run scope len a array_wanted ws ≡ array_turned (array_given a f) r
  unfolding array_run
  array_reads n a ws r f (an_array {p = p} {f = x} e) room = ap (λ o. array_turned (array_variable a p x o) r) e
  array_reads (suc n) a ws r f (an_update {p = p} {q = q} {s = s} {ws = us} {ws' = vs} {ws'' = ts} {f = g} {i = i} {b = b} of at by wide byte low) room =
      array_opens a p _ (omega arith) ∙ update_begins a p s us ∙ array_reads n (updated p ∷ a) us vs g of (omega arith)
      ∙ fills n a (updated_at p g) vs ts i at (omega arith) ∙ fills n a (updated_by p g i) ts _ b by (omega arith)
      ∙ ap (λ c. array_turned (array_judged c p a (upd g i b)) (placed closes q ∷ r)) (both_fit i b wide byte) ∙ array_closes a q (upd g i b) r low
  array_reads (suc n) a ws r f (a_splice {p = p} {q = q} {s = s} {ws = us} {ws' = vs} {ws'' = ts} {f = g} {g = h} {i = i} of below at wide low) room =
      array_opens a p _ (omega arith) ∙ splice_begins a p s us ∙ array_reads n (spliced p ∷ a) us vs g of (omega arith)
      ∙ array_reads n (spliced_below p g ∷ a) vs ts h below (omega arith) ∙ fills n a (spliced_at p g h) ts _ i at (omega arith)
      ∙ ap (λ c. array_turned (array_judged c p a (splice g h i)) (placed closes q ∷ r)) (eq-eqb (width_of i) 64 wide) ∙ array_closes a q (splice g h i) r low

-- a whole array term that is spelled is read
pub array_spelled_read : (scope : Scope) (len : ℕ) (ws r : Words) (f : ArrayTree) → ArraySpells scope 1024 ws f r → array_run scope len [] array_wanted ws ≡ Ok (f, r)
array_spelled_read scope len ws r f s = array_reads scope len 1024 [] ws r f s (omega arith)

-- words spell one array term
pub array_spelled_once : (scope : Scope) (ws r q : Words) (f g : ArrayTree) → ArraySpells scope 1024 ws f r → ArraySpells scope 1024 ws g q → (f ≡ g) × (r ≡ q)
array_spelled_once scope ws r q f g one other =
    let same : ◌≡◌ {A = Outcome ArrayTree} (Ok (f, r)) (Ok (g, q)) = sym (array_spelled_read scope 0 ws r f one) ∙ array_spelled_read scope 0 ws q g other in
    let pair : ◌≡◌ {A = ArrayTree × Words} (f, r) (g, q) = cc in
    (ap (λ (p : ArrayTree × Words). p.0) pair, ap (λ (p : ArrayTree × Words). p.1) pair)

-- what is spelled by tokens is read
pub spelled_array_is_read : (text : Text) (ts : List Token) (from next : ℕ) (scope : Scope) (f : ArrayTree) → next ≤ length ts
    → ArraySpells scope 1024 (drop from (lexemes text ts)) f (drop next (lexemes text ts)) → array_from text ts from scope ≡ Ok (f, next)
unfolding array_from
spelled_array_is_read text ts from next scope f l s =
    ap (numbered (length ts)) (array_spelled_read scope (length text) _ _ f s) ∙ ap (λ n. Ok (f, n)) (left_over text ts next l)
