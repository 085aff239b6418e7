-- What is read is spelled.
use Rattle.std.proofs.Common.{◌≡◌, ℕ, zero, suc, ◌+◌, ◌-◌, ◌≤◌, ◌<◌, Bool, true, false, List, [], ◌∷◌, ◌++◌, length, map, drop, Option, Some, None, Ok, Err, IsSome, refl, sym, ap, subst, ◌∙◌, arith}
use Rattle.std.specs.Prelude.{is_some, bytes_eq, codes, nat_lt, nat_eq, if◌then◌else◌}
use Rattle.std.proofs.lemmas.Bool.{lt-ltb, le-ltb, ltb-true, ltb-false, eqb-true}
use Rattle.std.proofs.lemmas.List.{length-append, length-drop, length-map, drop-drop, drop_all}
use Rattle.bv_bits.specs.declared.Op.{Op}
use Rattle.bv_bits.specs.declared.Op.TheVariants.{Not}
use Rattle.bv_bits.specs.Bits.{result_width_of}
use Rattle.term_tree.specs.declared.term.Sort.{Sort}
use Rattle.term_tree.specs.declared.term.Sort.TheVariants as sort
use Rattle.term_read.specs.declared.reading.TermReadFault.{TermReadFault}
use Rattle.term_tree.specs.Terms.{Text, Tree, lit, var, array, applied, width_of}
use Rattle.term_make.specs.Making.{make, within_height}
use Rattle.term_select.specs.Selecting.{select}
use Rattle.term_print.specs.Words.{Word, opens, closes, name, number, literal, other, Lexeme, lexeme, lexemes}
use Rattle.term_words.specs.Operators.{arity, operator_of}
use Rattle.term_words.specs.Scopes.{Scope, sort_of}
use Rattle.term_read.specs.Reading.{Frame, arguments, index, Whole, application, selection, Mode, wanted, head, high, low, extended, of_array, close, Turn, goes, ends, fails, Outcome, go_on, run, step, judged, argument_read, begun, given, given_made, variable, selected, headed, whole_made, on_wanted, on_head, on_close, Answer, numbered, term_from}
use Rattle.term_read.specs.Spelling.{Words, placed, Heads, plain, extracting, zero_extending, sign_extending, Spells, a_literal, a_variable, an_application, a_selection, Arguments, no_more, one_more}
use Rattle.lex_core.specs.declared.token.Token.{Token}
use Rattle.term_tree.proofs.SameLemmas.{same_text}

-- inside so many open brackets, with so many levels left
module _ (scope : Scope) (deep base : ℕ) where
  -- the words of `all` before r have opened these brackets, and n levels are left
  abbrev pub Under : List Frame → ℕ → Words → Words → Type 0
  Under [] n all r = (all ≡ r) × (n ≡ base)
  Under (arguments p op ts ∷ k) n all r =
      (hs : Words) × (bs : Words) × Under k (suc n) all (placed opens p ∷ hs) × Heads op hs bs × Arguments scope n (length ts) bs ts r × (length ts < arity op)
  Under (index p f ∷ k) n all r =
      (s : ℕ) × (v : ℕ) × Under k (suc n) all (placed opens p ∷ placed (name (codes "sel")) s ∷ placed (name f) v ∷ r) × (sort_of scope f ≡ Some sort.Array)

  -- the same of an application with all its parts
  abbrev pub Ready : List Frame → Whole → ℕ → Words → Words → Type 0
  Ready k (application op ts) n all r =
      (p : ℕ) × (hs : Words) × (bs : Words) × Under k (suc n) all (placed opens p ∷ hs) × Heads op hs bs × Arguments scope n (arity op) bs ts r × IsSome (result_width_of op (map width_of ts))
  Ready k (selection f i) n all r =
      (p : ℕ) × (s : ℕ) × (v : ℕ) × (ws : Words) × Under k (suc n) all (placed opens p ∷ placed (name (codes "sel")) s ∷ placed (name f) v ∷ ws) × (sort_of scope f ≡ Some sort.Array)
      × Spells scope n ws i r × (width_of i ≡ 64)

  -- where reading stands
  abbrev pub At : List Frame → Mode → ℕ → Words → Words → Type 0
  At k wanted n all r = Under k n all r
  At k (head p) n all r = Under k (suc n) all (placed opens p ∷ r)
  At k (high p) n all r = (q : ℕ) × Under k (suc n) all (placed opens p ∷ placed (name (codes "extract")) q ∷ r)
  At k (low p hi) n all r = (q : ℕ) × (s : ℕ) × Under k (suc n) all (placed opens p ∷ placed (name (codes "extract")) q ∷ placed (number hi) s ∷ r)
  At k (extended p false) n all r = (q : ℕ) × Under k (suc n) all (placed opens p ∷ placed (name (codes "zext")) q ∷ r)
  At k (extended p true) n all r = (q : ℕ) × Under k (suc n) all (placed opens p ∷ placed (name (codes "sext")) q ∷ r)
  At k (of_array p) n all r = (q : ℕ) × Under k (suc n) all (placed opens p ∷ placed (name (codes "sel")) q ∷ r)
  At k (close w) n all r = Ready k w n all r

  abbrev pub Sounds : Words → Words → Turn → Type 0
  Sounds all r (goes k m) = (n : ℕ) × At k m n all r
  Sounds all r (ends t) = Spells scope base all t r
  Sounds all r (fails f) = Unit {0}

  room : (k : List Frame) (n : ℕ) (all r : Words) → Under k n all r → length k + n ≡ base
  room [] n all r u = omega (arith, u.1)
  room (arguments p op ts ∷ k) n all r u = omega (arith, room k (suc n) all _ u.2)
  room (index p f ∷ k) n all r u = omega (arith, room k (suc n) all _ u.2)

  -- one argument more
  more_read : (n c : ℕ) (ws r q : Words) (ts : List Tree) (t : Tree) → Arguments scope n c ws ts r → Spells scope n r t q → Arguments scope n (suc c) ws (ts ++ t ∷ []) q
  more_read n zero ws r q [] t no_more s = one_more s no_more
  more_read n zero ws r q (u ∷ ts) t h s = elim h [ ]
  more_read n (suc c) ws r q [] t h s = elim h [ ]
  more_read n (suc c) ws r q (u ∷ ts) t (one_more first args) s = one_more first (more_read n c _ r q ts t args s)

  judged_sound : (b : Bool) (p : ℕ) (k : List Frame) (w : Whole) (n : ℕ) (all r : Words) → (b ≡ true → Ready k w n all r) → Sounds all r (judged b p k w)
  judged_sound true p k w n all r h = (n, h refl)
  judged_sound false p k w n all r h = tt

  read_sound : (b : Bool) (p : ℕ) (op : Op) (us : List Tree) (k : List Frame) (n : ℕ) (all hs bs r : Words) → nat_lt (length us) (arity op) ≡ b → length us ≤ arity op → Under k (suc n) all (placed opens p ∷ hs)
      → Heads op hs bs → Arguments scope n (length us) bs us r → Sounds all r (argument_read b p op us k)
  read_sound true p op us k n all hs bs r e less u heads args = (n, (hs, bs, u, heads, args, ltb-true (length us) (arity op) e))
  read_sound false p op us k n all hs bs r e less u heads args =
      let full : length us ≡ arity op = omega (arith, ltb-false (length us) (arity op) e) in
      judged_sound (is_some (result_width_of op (map width_of us))) p k (application op us) n all r
      (λ fits. (p, hs, bs, u, heads, subst (λ (c : ℕ). Arguments scope n c bs us r) full args, fits))

  given_sound : (k : List Frame) (n : ℕ) (all ws r : Words) (t : Tree) → Under k n all ws → Spells scope n ws t r → Sounds all r (given k t)
  given_sound [] n all ws r t u s = subst (λ (l : ℕ). Spells scope l all t r) u.1 (subst (λ (l : Words). Spells scope n l t r) (sym u.0) s)
  given_sound (arguments p op ts ∷ k) n all ws r t u s =
      let one : suc (length ts) ≡ length (ts ++ t ∷ []) = omega (arith, length-append ts (t ∷ [])) in
      let args = subst (λ (c : ℕ). Arguments scope n c u.1 (ts ++ t ∷ []) r) one (more_read n (length ts) u.1 ws r ts t u.4 s) in
      read_sound (nat_lt (length (ts ++ t ∷ [])) (arity op)) p op (ts ++ t ∷ []) k n all u.0 u.1 r refl (omega (arith, one, u.5)) u.2 u.3 args
  given_sound (index p f ∷ k) n all ws r t u s =
      judged_sound (nat_eq (width_of t) 64) p k (selection f t) n all r (λ fits. (p, u.0, u.1, ws, u.2, u.3, s, eqb-true (width_of t) 64 fits))

  made_sound : (o : Option Tree) (k : List Frame) (n : ℕ) (all ws r : Words) → Under k n all ws → ((t : Tree) → o ≡ Some t → Spells scope n ws t r) → Sounds all r (given_made k o)
  made_sound None k n all ws r u s = tt
  made_sound (Some t) k n all ws r u s = given_sound k n all ws r t u (s t refl)

  whole_sound : (k : List Frame) (w : Whole) (n q : ℕ) (all r : Words) → Ready k w n all (placed closes q ∷ r) → Sounds all r (given_made k (within_height (whole_made w)))
  whole_sound k (application op ts) n q all r h =
      made_sound (within_height (make (applied op ts))) k (suc n) all (placed opens h.0 ∷ h.1) r h.3 (λ t e. an_application h.4 h.5 h.6 e)
  whole_sound k (selection f i) n q all r h =
      made_sound (within_height (select (array f) i)) k (suc n) all (placed opens h.0 ∷ placed (name (codes "sel")) h.1 ∷ placed (name f) h.2 ∷ h.3) r h.4 (λ t e. a_selection h.5 h.6 h.7 e)

  close_sound : (k : List Frame) (whole : Whole) (n : ℕ) (all : Words) (w : Word) (at : ℕ) (r : Words) → Ready k whole n all (placed w at ∷ r) → Sounds all r (on_close k whole w at)
  close_sound k whole n all closes at r h = whole_sound k whole n at all r h
  close_sound k whole n all opens at r h = tt
  close_sound k whole n all w at r h = tt

  variable_sound : (o : Option Sort) (k : List Frame) (n : ℕ) (all : Words) (x : Text) (at : ℕ) (r : Words) → sort_of scope x ≡ o → Under k n all (placed (name x) at ∷ r) → Sounds all r (variable k at x o)
  variable_sound None k n all x at r e u = tt
  variable_sound (Some (sort.Bits w)) k n all x at r e u = given_sound k n all (placed (name x) at ∷ r) r (var x w) u (a_variable e)
  variable_sound (Some sort.Array) k n all x at r e u = tt

  wanted_sound : deep + base ≡ 1024 → (k : List Frame) (n : ℕ) (all : Words) (w : Word) (at : ℕ) (r : Words) → Under k n all (placed w at ∷ r) → Sounds all r (on_wanted scope deep k w at)
  wanted_sound full k zero all opens at r u = let all_open = room k zero all _ u in rw (le-ltb (deep + length k) 1024 (omega arith)) tt
  wanted_sound full k (suc n) all opens at r u = let some = room k (suc n) all _ u in rw (lt-ltb (deep + length k) 1024 (omega arith)) (n, u)
  wanted_sound full k n all (name x) at r u = variable_sound (sort_of scope x) k n all x at r refl u
  wanted_sound full k n all (literal b) at r u = given_sound k n all (placed (literal b) at ∷ r) r (lit b) u a_literal
  wanted_sound full k n all closes at r u = tt
  wanted_sound full k n all (number i) at r u = tt
  wanted_sound full k n all other at r u = tt

  begun_sound : (o : Option Op) (k : List Frame) (p at n : ℕ) (all : Words) (x : Text) (r : Words) → operator_of x ≡ o → Under k (suc n) all (placed opens p ∷ placed (name x) at ∷ r) → ((op : Op) → 0 < arity op) → Sounds all r (begun k p at o)
  begun_sound None k p at n all x r e u some = tt
  begun_sound (Some op) k p at n all x r e u some = (n, (placed (name x) at ∷ r, r, u, plain e, no_more, some op))

  -- the word, where it is one that is known
  known : (x w : Text) (k : List Frame) (p at n : ℕ) (all r : Words) → bytes_eq x w ≡ true → Under k (suc n) all (placed opens p ∷ placed (name x) at ∷ r) → Under k (suc n) all (placed opens p ∷ placed (name w) at ∷ r)
  known x w k p at n all r e u = subst (λ (y : Text). Under k (suc n) all (placed opens p ∷ placed (name y) at ∷ r)) (same_text x w e) u

  heads_sound : (a b c d : Bool) (k : List Frame) (p at n : ℕ) (all : Words) (x : Text) (r : Words)
      → bytes_eq x (codes "extract") ≡ a → bytes_eq x (codes "zext") ≡ b → bytes_eq x (codes "sext") ≡ c → bytes_eq x (codes "sel") ≡ d
      → Under k (suc n) all (placed opens p ∷ placed (name x) at ∷ r) → ((op : Op) → 0 < arity op)
      → Sounds all r (if a then goes k (high p) else (if b then goes k (extended p false) else (if c then goes k (extended p true) else (if d then goes k (of_array p) else begun k p at (operator_of x)))))
  heads_sound true b c d k p at n all x r ea eb ec ed u some = (n, (at, known x (codes "extract") k p at n all r ea u))
  heads_sound false true c d k p at n all x r ea eb ec ed u some = (n, (at, known x (codes "zext") k p at n all r eb u))
  heads_sound false false true d k p at n all x r ea eb ec ed u some = (n, (at, known x (codes "sext") k p at n all r ec u))
  heads_sound false false false true k p at n all x r ea eb ec ed u some = (n, (at, known x (codes "sel") k p at n all r ed u))
  heads_sound false false false false k p at n all x r ea eb ec ed u some = begun_sound (operator_of x) k p at n all x r refl u some

  head_sound : (k : List Frame) (p n : ℕ) (all : Words) (w : Word) (at : ℕ) (r : Words) → Under k (suc n) all (placed opens p ∷ placed w at ∷ r) → ((op : Op) → 0 < arity op) → Sounds all r (on_head k p w at)
  unfolding headed
  head_sound k p n all (name x) at r u some = heads_sound _ _ _ _ k p at n all x r refl refl refl refl u some
  head_sound k p n all opens at r u some = tt
  head_sound k p n all closes at r u some = tt
  head_sound k p n all (number i) at r u some = tt
  head_sound k p n all (literal b) at r u some = tt
  head_sound k p n all other at r u some = tt

  selected_sound : (o : Option Sort) (k : List Frame) (p at n q : ℕ) (all : Words) (x : Text) (r : Words) → sort_of scope x ≡ o → Under k (suc n) all (placed opens p ∷ placed (name (codes "sel")) q ∷ placed (name x) at ∷ r) → Sounds all r (selected k p at x o)
  selected_sound None k p at n q all x r e u = tt
  selected_sound (Some (sort.Bits w)) k p at n q all x r e u = tt
  selected_sound (Some sort.Array) k p at n q all x r e u = (n, (q, at, u, e))

  pub step_sound : deep + base ≡ 1024 → (k : List Frame) (m : Mode) (n : ℕ) (all : Words) (w : Word) (at : ℕ) (r : Words) → At k m n all (placed w at ∷ r) → ((op : Op) → 0 < arity op) → Sounds all r (step scope deep k m (placed w at))
  step_sound full k wanted n all w at r h some = wanted_sound full k n all w at r h
  step_sound full k (head p) n all w at r h some = head_sound k p n all w at r h some
  step_sound full k (high p) n all (number i) at r h some = (n, (h.0, at, h.1))
  step_sound full k (high p) n all opens at r h some = tt
  step_sound full k (high p) n all w at r h some = tt
  step_sound full k (low p hi) n all (number i) at r h some = (n, (placed (name (codes "extract")) h.0 ∷ placed (number hi) h.1 ∷ placed (number i) at ∷ r, r, h.2, extracting, no_more, omega arith))
  step_sound full k (low p hi) n all opens at r h some = tt
  step_sound full k (low p hi) n all w at r h some = tt
  step_sound full k (extended p false) n all (number i) at r h some = (n, (placed (name (codes "zext")) h.0 ∷ placed (number i) at ∷ r, r, h.1, zero_extending, no_more, omega arith))
  step_sound full k (extended p true) n all (number i) at r h some = (n, (placed (name (codes "sext")) h.0 ∷ placed (number i) at ∷ r, r, h.1, sign_extending, no_more, omega arith))
  step_sound full k (extended p signed) n all opens at r h some = tt
  step_sound full k (extended p signed) n all w at r h some = tt
  step_sound full k (of_array p) n all (name x) at r h some = selected_sound (sort_of scope x) k p at n h.0 all x r refl h.1
  step_sound full k (of_array p) n all opens at r h some = tt
  step_sound full k (of_array p) n all w at r h some = tt
  step_sound full k (close whole) n all w at r h some = close_sound k whole n all w at r h

-- operators have arguments
pub some_arity : (op : Op) → 0 < arity op
some_arity Not = omega arith
some_arity op = omega arith

-- an outcome in which what is read is spelled
abbrev pub IsSpelled : Scope → Words → Outcome Tree → Type 0
IsSpelled scope all (Ok (t, r)) = Spells scope 1024 all t r
IsSpelled scope all (Err f) = Unit {0}

module _ (scope : Scope) (len : ℕ) (all : Words) where
  turn_sound : (t : Turn) (r : Words) → Sounds scope 0 1024 all r t → ((k : List Frame) (m : Mode) (n : ℕ) → At scope 0 1024 k m n all r → IsSpelled scope all (run scope len k m r))
      → IsSpelled scope all (go_on t r (λ k' m'. run scope len k' m' r))
  turn_sound (goes k m) r h later = later k m h.0 h.1
  turn_sound (ends t) r h later = h
  turn_sound (fails f) r h later = tt

  run_sound : (k : List Frame) (m : Mode) (n : ℕ) (r : Words) → At scope 0 1024 k m n all r → IsSpelled scope all (run scope len k m r)
  unfolding run
  run_sound k m n [] h = tt
  run_sound k m n (x ∷ r) h = turn_sound (step scope 0 k m x) r (step_sound scope 0 1024 refl k m n all x.word x.at r h some_arity) (λ k' m' n' g. run_sound k' m' n' r g)

-- what is read is spelled
pub read_spelled : (scope : Scope) (len : ℕ) (ws r : Words) (t : Tree) → run scope len [] wanted ws ≡ Ok (t, r) → Spells scope 1024 ws t r
read_spelled scope len ws r t e = subst (IsSpelled scope ws) e (run_sound scope len ws [] wanted 1024 ws (refl, refl))

-- the words behind a head are an end of its words
head_end : (op : Op) (ws r : Words) → Heads op ws r → (i : ℕ) × (i ≤ length ws) × (r ≡ drop i ws)
head_end op ws r (plain e) = (1, omega arith, refl)
head_end op ws r extracting = (3, omega arith, refl)
head_end op ws r zero_extending = (2, omega arith, refl)
head_end op ws r sign_extending = (2, omega arith, refl)

-- there is a word more
pub more_left : (i : ℕ) (ws : Words) (x : Lexeme) (r : Words) → x ∷ r ≡ drop i ws → suc (suc i) ≤ suc (length ws)
more_left i ws x r e = omega (arith, ap length e, length-drop i ws)

-- and those behind it
pub behind_one : (i : ℕ) (ws : Words) (x : Lexeme) (r : Words) → x ∷ r ≡ drop i ws → r ≡ drop (suc i) ws
behind_one i ws x r e = let one : i + 1 ≡ suc i = omega arith in ap (drop 1) e ∙ drop-drop 1 i ws ∙ ap (λ k. drop k ws) one

-- what is left behind a term is an end of the words
mutual
  pub spelled_end : (scope : Scope) (n : ℕ) (ws r : Words) (t : Tree) → Spells scope n ws t r → (i : ℕ) × (i ≤ length ws) × (r ≡ drop i ws)
  spelled_end scope n ws r t (a_literal {p = p} {b = b}) = (1, omega arith, refl)
  spelled_end scope n ws r t (a_variable {x = x} e) = (1, omega arith, refl)
  spelled_end scope (suc n) ws r t (an_application {q = q} {ws = hs} {ws' = bs} heads args fits made) =
      let h = head_end _ hs bs heads in
      let a = arguments_end scope n _ bs _ _ args in
      let e : placed closes q ∷ r ≡ drop (h.0 + a.0) hs = a.2 ∙ ap (drop a.0) h.2 ∙ drop-drop a.0 h.0 hs in
      (suc (suc (h.0 + a.0)), more_left (h.0 + a.0) hs (placed closes q) r e, behind_one (h.0 + a.0) hs (placed closes q) r e)
  spelled_end scope (suc n) ws r t (a_selection {q = q} {s = s} {v = v} {ws = inside} e inner fits made) =
      let a = spelled_end scope n inside _ _ inner in
      (suc (suc (suc (suc a.0))), omega (arith, more_left a.0 inside (placed closes q) r a.2), behind_one a.0 inside (placed closes q) r a.2)

  arguments_end : (scope : Scope) (n c : ℕ) (ws : Words) (ts : List Tree) (r : Words) → Arguments scope n c ws ts r → (i : ℕ) × (i ≤ length ws) × (r ≡ drop i ws)
  arguments_end scope n c ws ts r no_more = (0, omega arith, refl)
  arguments_end scope n (suc c) ws ts r (one_more {r = q} first more) =
      let a = spelled_end scope n ws q _ first in
      let b = arguments_end scope n c q _ r more in
      let e : r ≡ drop (a.0 + b.0) ws = b.2 ∙ ap (drop b.0) a.2 ∙ drop-drop b.0 a.0 ws in
      (a.0 + b.0, omega (arith, b.1, a.1, ap length a.2, length-drop a.0 ws), e)

first_part : (u t : Tree) (m n : ℕ) → ◌≡◌ {A = Answer Tree} (Ok (u, m)) (Ok (t, n)) → u ≡ t
first_part u t m n e = let pair : ◌≡◌ {A = Tree × ℕ} (u, m) (t, n) = cc in ap (λ (p : Tree × ℕ). p.0) pair

second_part : (u t : Tree) (m n : ℕ) → ◌≡◌ {A = Answer Tree} (Ok (u, m)) (Ok (t, n)) → m ≡ n
second_part u t m n e = let pair : ◌≡◌ {A = Tree × ℕ} (u, m) (t, n) = cc in ap (λ (p : Tree × ℕ). p.1) pair

no_answer : (f : TermReadFault) (t : Tree) (n : ℕ) → ◌≡◌ {A = Answer Tree} (Err f) (Ok (t, n)) → ⊥
no_answer f t n e = cc

-- an end of words by its length
pub same_end : (i : ℕ) (ws : Words) → drop i ws ≡ drop (length ws - length (drop i ws)) ws
same_end i [] = drop_all i [] (omega arith) ∙ sym (drop_all _ [] (omega arith))
same_end zero (x ∷ ws) = let none : 0 ≡ length (x ∷ ws) - length (x ∷ ws) = omega arith in ap (λ k. drop k (x ∷ ws)) none
same_end (suc i) (x ∷ ws) =
    let less = length-drop i ws in
    let e : suc (length ws - length (drop i ws)) ≡ suc (length ws) - length (drop i ws) = omega (arith, less) in
    same_end i ws ∙ ap (λ k. drop k (x ∷ ws)) e

-- what is read is spelled by the tokens up to the next
pub read_is_spelled : (text : Text) (ts : List Token) (from next : ℕ) (scope : Scope) (t : Tree) → term_from text ts from scope ≡ Ok (t, next)
    → Spells scope 1024 (drop from (lexemes text ts)) t (drop next (lexemes text ts))
unfolding term_from
read_is_spelled text ts from next scope t e = go (run scope (length text) [] wanted (drop from (lexemes text ts))) refl e
  where
    go : (o : Outcome Tree) → run scope (length text) [] wanted (drop from (lexemes text ts)) ≡ o → numbered (length ts) o ≡ Ok (t, next) → Spells scope 1024 (drop from (lexemes text ts)) t (drop next (lexemes text ts))
    go (Ok (u, r)) is same =
        let s = read_spelled scope (length text) (drop from (lexemes text ts)) r u is in
        let left = spelled_end scope 1024 (drop from (lexemes text ts)) r u s in
        let terms : u ≡ t = first_part u t (length ts - length r) next same in
        let numbers : length ts - length r ≡ next = second_part u t (length ts - length r) next same in
        let whole : r ≡ drop (from + left.0) (lexemes text ts) = left.2 ∙ drop-drop left.0 from (lexemes text ts) in
        let some = length-map ts (lexeme text) in
        let at : length (lexemes text ts) - length (drop (from + left.0) (lexemes text ts)) ≡ next = omega (arith, numbers, some, ap length whole) in
        let place : drop (from + left.0) (lexemes text ts) ≡ drop next (lexemes text ts) = same_end (from + left.0) (lexemes text ts) ∙ ap (λ k. drop k (lexemes text ts)) at in
        subst (λ (l : Words). Spells scope 1024 (drop from (lexemes text ts)) t l) (whole ∙ place) (subst (λ (v : Tree). Spells scope 1024 (drop from (lexemes text ts)) v r) terms s)
    go (Err f) is same = absurd (no_answer f t next same)
