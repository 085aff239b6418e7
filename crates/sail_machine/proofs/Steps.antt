-- How the machine goes on over single words.
use Rattle.std.proofs.Common.{◌≡◌, ℕ, zero, suc, ◌+◌, ◌≤◌, ◌<◌, Bool, true, false, List, [], ◌∷◌, ◌++◌, Option, Some, None, Result, Ok, Err, refl, sym, ap, ◌∙◌, append_assoc, arith}
use Rattle.std.specs.Prelude.{⊤, if◌then◌else◌, nat_lt, nat_le}
use Rattle.std.proofs.lemmas.Bool.{lt-ltb, le-leb}
use Rattle.bv_bits.specs.Bits.{IsWidth, is_width}
use Rattle.sail_syntax.specs.Tree.{Text, Tree, Trees, none, some, Case, Cases, no_case, case, Step, Steps, done, next}
use Rattle.sail_syntax.specs.View.{trees, cases_of, steps_of}
use Rattle.sail_syntax.specs.declared.tree.Infix.{Infix}
use Rattle.sail_syntax.specs.declared.tree.Infix.TheVariants as between
use Rattle.sail_grammar.specs.declared.keyword.Keyword.TheVariants as kw
use Rattle.sail_grammar.specs.declared.mark.Mark.TheVariants as m
use Rattle.sail_grammar.specs.declared.word.Sign.{Sign}
use Rattle.sail_grammar.specs.declared.word.Sign.TheVariants as sign
use Rattle.sail_grammar.specs.declared.word.Word.{Word}
use Rattle.sail_grammar.specs.Words.{Words}
use Rattle.sail_machine.specs.declared.awaited.Await.{Await}
use Rattle.sail_machine.specs.Frames.{Frame, Frames, Mode, awaits, have, whole, nest, weight, chained}
use Rattle.sail_machine.specs.Signs.{is_mark, is_keyword, operator_in, same_infix, at_end, next_word}
use Rattle.sail_machine.specs.Turns.{Turn, has_room, opened, shallow, ends, after}
use Rattle.sail_machine.specs.Run.{Outcome, and_then, ended, run}

-- a turn, and the words behind it
abbrev pub go : ℕ → Turn → Words → Outcome
go end t ws = and_then t (λ k m. run end k m ws)

pub width_ok : (w : ℕ) → IsWidth w → is_width w ≡ true
width_ok w h = rw (lt-ltb 0 w h.positive) (le-leb w 128 h.at_most)

pub room_ok : (k : Frames) (levels : ℕ) → nest k + levels ≤ 128 → has_room k levels ≡ true
room_ok k levels h = le-leb (nest k + levels) 128 h

pub opened_ok : (k : Frames) (f : Frame) (mode : Mode) (at : ℕ) → nest k + weight f ≤ 128 → opened k f mode at ≡ Ok (f ∷ k, mode)
opened_ok k f mode at h = rw (room_ok k (weight f) h) refl

pub shallow_ok : (k : Frames) (a : Await) (at : ℕ) → nest k + 1 ≤ 128 → shallow k a at ≡ Ok (k, awaits a)
shallow_ok k a at h = rw (room_ok k 1 h) refl

-- the machine goes on behind something that opens
pub goes_in : (end : ℕ) (k : Frames) (f : Frame) (mode : Mode) (at : ℕ) (ws : Words) → nest k + weight f ≤ 128 → go end (opened k f mode at) ws ≡ run end (f ∷ k) mode ws
goes_in end k f mode at ws h = ap (λ (t : Turn). go end t ws) (opened_ok k f mode at h)

pub goes_shallow : (end : ℕ) (k : Frames) (a : Await) (at : ℕ) (ws : Words) → nest k + 1 ≤ 128 → go end (shallow k a at) ws ≡ run end k (awaits a) ws
goes_shallow end k a at ws h = ap (λ (t : Turn). go end t ws) (shallow_ok k a at h)

-- the machine goes on where a test holds
pub goes_if : (end : ℕ) (b : Bool) (t u : Turn) (ws : Words) → b ≡ true → go end (if b then t else u) ws ≡ go end t ws
goes_if end b t u ws h = ap (λ (c : Bool). go end (if c then t else u) ws) h

pub same_infix_is : (op : Infix) → same_infix op op ≡ true
same_infix_is between.Add = refl
same_infix_is between.Sub = refl
same_infix_is between.Mul = refl
same_infix_is between.And = refl
same_infix_is between.Or = refl
same_infix_is between.Xor = refl
same_infix_is between.Join = refl
same_infix_is between.Eq = refl
same_infix_is between.Ne = refl

-- ---- what stands behind an expression

-- a sign that ends a name
pub record EndsName (s : Sign) : Type 0 where
  pub no_open : is_mark m.Open s ≡ false
  pub no_equals : is_mark m.Equals s ≡ false

-- a sign that ends an operand
pub record EndsOperand (s : Sign) : Type 0 where
  pub name : EndsName s
  pub no_square : is_mark m.OpenSquare s ≡ false
  pub no_operator : operator_in s ≡ None

-- a sign that ends an expression, which may end open
pub record EndsBy (o : Bool) (s : Sign) : Type 0 where
  pub operand : EndsOperand s
  pub no_else : o ≡ true → is_keyword kw.Else s ≡ false

abbrev pub IsAfter : Words → Type 0
IsAfter [] = ⊤
IsAfter (v ∷ r) = EndsName v.sign

abbrev pub IsEnd : Bool → Words → Type 0
IsEnd o [] = ⊤
IsEnd o (v ∷ r) = EndsBy o v.sign

pub after_end : (o : Bool) (r : Words) → IsEnd o r → IsAfter r
after_end o [] h = tt
after_end o (v ∷ r) h = h.operand.name

-- a closed end of what may end open
pub shut_end : (o : Bool) (r : Words) → IsEnd true r → IsEnd o r
shut_end o [] h = tt
shut_end o (v ∷ r) h = record { operand = h.operand; no_else = λ is. h.no_else refl }

pub ends_name : (s : Sign) → is_mark m.Open s ≡ false → is_mark m.Equals s ≡ false → EndsName s
ends_name s p q = record { no_open = p; no_equals = q }

pub ends_by : (o : Bool) (s : Sign) → is_mark m.Open s ≡ false → is_mark m.Equals s ≡ false → is_mark m.OpenSquare s ≡ false → operator_in s ≡ None → is_keyword kw.Else s ≡ false → EndsBy o s
ends_by o s p q u v w = record { operand = record { name = ends_name s p q; no_square = u; no_operator = v }; no_else = λ is. w }

-- ---- lists with a last member

-- expressions in front of others
abbrev pub before_trees : List Tree → Trees → Trees
before_trees [] ys = ys
before_trees (x ∷ xs) ys = some x (before_trees xs ys)

pub trees_last : (xs : List Tree) (x : Tree) → trees (xs ++ x ∷ []) ≡ before_trees xs (some x none)
trees_last [] x = refl
trees_last (y ∷ xs) x = ap (λ (t : Trees). some y t) (trees_last xs x)

pub trees_more : (xs : List Tree) (x : Tree) (ys : Trees) → before_trees (xs ++ x ∷ []) ys ≡ before_trees xs (some x ys)
trees_more [] x ys = refl
trees_more (y ∷ xs) x ys = ap (λ (t : Trees). some y t) (trees_more xs x ys)

-- arms in front of others
abbrev pub before_cases : List Case → Cases → Cases
before_cases [] ys = ys
before_cases (x ∷ xs) ys = case x (before_cases xs ys)

pub cases_last : (xs : List Case) (x : Case) → cases_of (xs ++ x ∷ []) ≡ before_cases xs (case x no_case)
cases_last [] x = refl
cases_last (y ∷ xs) x = ap (λ (t : Cases). case y t) (cases_last xs x)

pub cases_more : (xs : List Case) (x : Case) (ys : Cases) → before_cases (xs ++ x ∷ []) ys ≡ before_cases xs (case x ys)
cases_more [] x ys = refl
cases_more (y ∷ xs) x ys = ap (λ (t : Cases). case y t) (cases_more xs x ys)

-- statements in front of others
abbrev pub before_steps : List Step → Steps → Steps
before_steps [] ys = ys
before_steps (x ∷ xs) ys = next x (before_steps xs ys)

pub steps_last : (xs : List Step) (x : Step) → steps_of (xs ++ x ∷ []) ≡ before_steps xs (next x done)
steps_last [] x = refl
steps_last (y ∷ xs) x = ap (λ (t : Steps). next y t) (steps_last xs x)

pub steps_more : (xs : List Step) (x : Step) (ys : Steps) → before_steps (xs ++ x ∷ []) ys ≡ before_steps xs (next x ys)
steps_more [] x ys = refl
steps_more (y ∷ xs) x ys = ap (λ (t : Steps). next y t) (steps_more xs x ys)
