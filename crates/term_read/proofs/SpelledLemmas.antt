-- What is spelled is read.
use Rattle.std.proofs.Common.{◌≡◌, ℕ, zero, suc, ◌+◌, ◌≤◌, ◌<◌, Bool, true, false, List, [], ◌∷◌, ◌++◌, length, map, drop, Option, Some, None, Ok, Err, IsSome, append_assoc, refl, sym, ap, ◌∙◌, arith}
use Rattle.std.specs.Prelude.{is_some, bytes_eq, codes, nat_eq, if◌then◌else◌}
use Rattle.std.proofs.lemmas.Bool.{lt-ltb, le-ltb, eq-eqb}
use Rattle.std.proofs.lemmas.List.{length-append}
use Rattle.bv_bits.specs.declared.Op.{Op}
use Rattle.bv_bits.specs.declared.Op.TheVariants.{Not}
use Rattle.bv_bits.specs.Bits.{result_width_of}
use Rattle.term_tree.specs.Terms.{Text, Tree, array, applied, width_of}
use Rattle.term_make.specs.Making.{make, within_height}
use Rattle.term_select.specs.Selecting.{select}
use Rattle.term_print.specs.Words.{name, opens, closes, number, literal, Lexeme, lexemes}
use Rattle.term_words.specs.Operators.{arity, operator_of}
use Rattle.term_words.specs.Scopes.{Scope}
use Rattle.term_read.specs.Reading.{Frame, arguments, index, application, selection, Mode, wanted, head, close, Turn, goes, ends, fails, Outcome, go_on, run, step, judged, argument_read, given, given_made, variable, selected, headed, too_high, high, low, extended, of_array, numbered, term_from}
use Rattle.term_read.specs.Spelling.{Words, placed, Heads, plain, extracting, zero_extending, sign_extending, Spells, a_literal, a_variable, an_application, a_selection, Arguments, no_more, one_more}
use Rattle.lex_core.specs.declared.token.Token.{Token}
use Rattle.term_tree.proofs.SameLemmas.{same_text}
use Rattle.term_read.proofs.LoopLemmas.{left_over}

-- no word of an operator without numbers is a word that stands for none
not_both : (o : Option Op) (op : Op) → o ≡ None → o ≡ Some op → ⊥
not_both None op none some = absurd (cc)
not_both (Some p) op none some = absurd (cc)

differs : (x w : Text) (op : Op) → operator_of w ≡ None → operator_of x ≡ Some op → (b : Bool) → bytes_eq x w ≡ b → b ≡ false
differs x w op none some true e = absurd (not_both (operator_of w) op none (ap operator_of (sym (same_text x w e)) ∙ some))
differs x w op none some false e = refl

no_extract : operator_of (codes "extract") ≡ None
unfolding operator_of
no_extract = refl

no_zext : operator_of (codes "zext") ≡ None
unfolding operator_of
no_zext = refl

no_sext : operator_of (codes "sext") ≡ None
unfolding operator_of
no_sext = refl

no_sel : operator_of (codes "sel") ≡ None
unfolding operator_of
no_sel = refl

plain_head : (k : List Frame) (open_at at : ℕ) (x : Text) (op : Op) → operator_of x ≡ Some op → headed k open_at at x ≡ goes (arguments open_at op [] ∷ k) wanted
unfolding headed
plain_head k open_at at x op e =
    rw (differs x (codes "extract") op no_extract e _ refl, differs x (codes "zext") op no_zext e _ refl, differs x (codes "sext") op no_sext e _ refl, differs x (codes "sel") op no_sel e _ refl, e) refl

-- operators have arguments
some_arity : (op : Op) → 0 < arity op
some_arity Not = omega arith
some_arity op = omega arith

fits_is : (o : Option ℕ) → IsSome o → is_some o ≡ true
fits_is o h = h

-- a reader of words, which does with each turn of a term what `drive` says
module _ {A : Type 0} (scope : Scope) (deep : ℕ) (R : List Frame → Mode → Words → Outcome A) (D : Tree → Words → Outcome A) where
  -- what a turn leads to, where words are left
  abbrev pub drive : Turn → Words → Outcome A
  drive (goes k m) r = R k m r
  drive (ends t) r = D t r
  drive (fails f) r = Err f

  -- the reader does so at each word
  abbrev pub Drives : Type 0
  Drives = (k : List Frame) (m : Mode) (x : Lexeme) (r : Words) → R k m (x ∷ r) ≡ drive (step scope deep k m x) r

  -- a bracket opens, where there is room
  opens_here : Drives → (k : List Frame) (p : ℕ) (ws : Words) → deep + length k < 1024 → R k wanted (placed opens p ∷ ws) ≡ R k (head p) ws
  opens_here by k p ws l = by k wanted (placed opens p) ws ∙ ap (λ b. drive (if b then goes k (head p) else fails too_high) ws) (lt-ltb (deep + length k) 1024 l)

  -- the words of an operator begin its arguments
  head_read : Drives → (k : List Frame) (p : ℕ) (op : Op) (ws r : Words) → Heads op ws r → R k (head p) ws ≡ R (arguments p op [] ∷ k) wanted r
  unfolding headed
  head_read by k p op ws r (plain {x = x} {p = q} e) = by k (head p) (placed (name x) q) r ∙ ap (λ t. drive t r) (plain_head k p q x op e)
  head_read by k p op ws r (extracting {hi = hi} {lo = lo} {p = q} {q = s} {s = v}) = by k (head p) (placed (name (codes "extract")) q) _ ∙ by k (high p) (placed (number hi) s) _ ∙ by k (low p hi) (placed (number lo) v) r
  head_read by k p op ws r (zero_extending {to = to} {p = q} {q = s}) = by k (head p) (placed (name (codes "zext")) q) _ ∙ by k (extended p false) (placed (number to) s) r
  head_read by k p op ws r (sign_extending {to = to} {p = q} {q = s}) = by k (head p) (placed (name (codes "sext")) q) _ ∙ by k (extended p true) (placed (number to) s) r

  -- the `)` of an application that fits ends it
  closed : Drives → (k : List Frame) (p q : ℕ) (op : Op) (ts : List Tree) (t : Tree) (r : Words) → IsSome (result_width_of op (map width_of ts)) → within_height (make (applied op ts)) ≡ Some t
      → drive (judged (is_some (result_width_of op (map width_of ts))) p k (application op ts)) (placed closes q ∷ r) ≡ drive (given k t) r
  closed by k p q op ts t r fits made =
      ap (λ b. drive (judged b p k (application op ts)) (placed closes q ∷ r)) (fits_is _ fits) ∙ by k (close (application op ts)) (placed closes q) r ∙ ap (λ o. drive (given_made k o) r) made

  closed_selection : Drives → (k : List Frame) (p q : ℕ) (f : Text) (i t : Tree) (r : Words) → width_of i ≡ 64 → within_height (select (array f) i) ≡ Some t
      → drive (judged (nat_eq (width_of i) 64) p k (selection f i)) (placed closes q ∷ r) ≡ drive (given k t) r
  closed_selection by k p q f i t r fits made =
      ap (λ b. drive (judged b p k (selection f i)) (placed closes q ∷ r)) (eq-eqb (width_of i) 64 fits) ∙ by k (close (selection f i)) (placed closes q) r ∙ ap (λ o. drive (given_made k o) r) made

  mutual
    unfolding headed

    -- a term that is spelled is given to the brackets that are open
    pub reads : Drives → (n : ℕ) (k : List Frame) (ws r : Words) (t : Tree) → Spells scope n ws t r → deep + length k + n ≤ 1024 → R k wanted ws ≡ drive (given k t) r
    reads by n k ws r t (a_literal {p = p} {b = b}) room = by k wanted (placed (literal b) p) r
    reads by n k ws r t (a_variable {p = p} {w = w} {x = x} e) room = by k wanted (placed (name x) p) r ∙ ap (λ o. drive (variable k p x o) r) e
    reads by (suc n) k ws r t (an_application {p = p} {q = q} {op = op} {ws = hs} {ws' = bs} {ts = ts} heads args fits made) room =
        opens_here by k p hs (omega arith) ∙ head_read by k p op hs bs heads ∙ reads_arguments by n k p op [] bs ts _ (arity op) args (omega arith) (some_arity op) (omega arith)
        ∙ closed by k p q op ts t r fits made
    reads by (suc n) k ws r t (a_selection {p = p} {q = q} {s = s} {v = v} {f = f} {ws = inside} {i = i} e inner fits made) room =
        opens_here by k p _ (omega arith) ∙ by k (head p) (placed (name (codes "sel")) s) _ ∙ by k (of_array p) (placed (name f) v) inside ∙ ap (λ o. drive (selected k p v f o) inside) e
        ∙ reads by n (index p f ∷ k) inside _ i inner (omega arith) ∙ closed_selection by k p q f i t r fits made

    -- so are arguments in a row, behind those that are read
    reads_arguments : Drives → (n : ℕ) (k : List Frame) (p : ℕ) (op : Op) (done : List Tree) (ws : Words) (ts : List Tree) (r : Words) (c : ℕ) → Arguments scope n c ws ts r
        → length done + c ≡ arity op → 0 < c → deep + suc (length k) + n ≤ 1024
        → R (arguments p op done ∷ k) wanted ws ≡ drive (judged (is_some (result_width_of op (map width_of (done ++ ts)))) p k (application op (done ++ ts))) r
    reads_arguments by n k p op done ws ts r zero args all some room = absurd (omega arith)
    reads_arguments by n k p op done ws ts r (suc zero) (one_more {r = q} {t = t} first no_more) all some room =
        reads by n (arguments p op done ∷ k) ws q t first room
        ∙ ap (λ b. drive (argument_read b p op (done ++ t ∷ []) k) q) (le-ltb (length (done ++ t ∷ [])) (arity op) (omega (arith, length-append done (t ∷ []))))
    reads_arguments by n k p op done ws ts r (suc (suc c)) (one_more {r = q} {t = t} {ts = us} first more) all some room =
        reads by n (arguments p op done ∷ k) ws q t first room
        ∙ ap (λ b. drive (argument_read b p op (done ++ t ∷ []) k) q) (lt-ltb (length (done ++ t ∷ [])) (arity op) (omega (arith, length-append done (t ∷ []))))
        ∙ reads_arguments by n k p op (done ++ t ∷ []) q us r (suc c) more (omega (arith, length-append done (t ∷ []))) (omega arith) room
        ∙ ap (λ (l : List Tree). drive (judged (is_some (result_width_of op (map width_of l))) p k (application op l)) r) (append_assoc done (t ∷ []) us)

-- reading a term alone does so
run_step : (scope : Scope) (len : ℕ) (t : Turn) (r : Words) → go_on t r (λ k m. run scope len k m r) ≡ drive scope 0 (run scope len) (λ u q. Ok (u, q)) t r
run_step scope len (goes k m) r = refl
run_step scope len (ends t) r = refl
run_step scope len (fails f) r = refl

run_drives : (scope : Scope) (len : ℕ) → Drives scope 0 (run scope len) (λ u q. Ok (u, q))
unfolding run
run_drives scope len k m x r = run_step scope len (step scope 0 k m x) r

both_terms : (t u : Tree) (r q : Words) → ◌≡◌ {A = Outcome Tree} (Ok (t, r)) (Ok (u, q)) → t ≡ u
both_terms t u r q e = let pair : ◌≡◌ {A = Tree × Words} (t, r) (u, q) = cc in ap (λ (p : Tree × Words). p.0) pair

both_rests : (t u : Tree) (r q : Words) → ◌≡◌ {A = Outcome Tree} (Ok (t, r)) (Ok (u, q)) → r ≡ q
both_rests t u r q e = let pair : ◌≡◌ {A = Tree × Words} (t, r) (u, q) = cc in ap (λ (p : Tree × Words). p.1) pair

-- a whole term that is spelled is read
pub spelled_read : (scope : Scope) (len : ℕ) (ws r : Words) (t : Tree) → Spells scope 1024 ws t r → run scope len [] wanted ws ≡ Ok (t, r)
spelled_read scope len ws r t s = reads scope 0 (run scope len) (λ u q. Ok (u, q)) (run_drives scope len) 1024 [] ws r t s (omega arith)

-- words spell one term
pub spelled_once : (scope : Scope) (ws r q : Words) (t u : Tree) → Spells scope 1024 ws t r → Spells scope 1024 ws u q → (t ≡ u) × (r ≡ q)
spelled_once scope ws r q t u one other =
    let same : ◌≡◌ {A = Outcome Tree} (Ok (t, r)) (Ok (u, q)) = sym (spelled_read scope 0 ws r t one) ∙ spelled_read scope 0 ws q u other in
    (both_terms t u r q same, both_rests t u r q same)

-- what is spelled by tokens is read
pub spelled_is_read : (text : Text) (ts : List Token) (from next : ℕ) (scope : Scope) (t : Tree) → next ≤ length ts
    → Spells scope 1024 (drop from (lexemes text ts)) t (drop next (lexemes text ts)) → term_from text ts from scope ≡ Ok (t, next)
unfolding term_from
spelled_is_read text ts from next scope t l s =
    ap (numbered (length ts)) (spelled_read scope (length text) _ _ t s) ∙ ap (λ n. Ok (t, n)) (left_over text ts next l)
