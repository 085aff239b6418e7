-- Reading a term or an array term from words, from left to right, with what is open on a stack.
use Rattle.std.specs.Prelude.{ℕ, ◌+◌, ◌-◌, Bool, true, false, ◌&&◌, if◌then◌else◌, nat_lt, nat_eq, List, [], ◌∷◌, ◌++◌, length, map, drop, is_some, Option, Some, None, Result, Ok, Err, bytes_eq, codes}
use Rattle.bv_bits.specs.declared.Op.{Op}
use Rattle.bv_bits.specs.declared.Op.TheVariants.{Extract, ZExt, SExt}
use Rattle.bv_bits.specs.Bits.{result_width_of}
use Rattle.lex_core.specs.declared.token.Token.{Token}
use Rattle.term_tree.specs.declared.term.Sort.{Sort}
use Rattle.term_tree.specs.declared.term.Sort.TheVariants as sort
use Rattle.term_tree.specs.declared.term.TermFault.TheVariants as limit
use Rattle.term_read.specs.declared.reading.TermReadFault.{TermReadFault}
use Rattle.term_read.specs.declared.reading.TermReadFault.TheVariants as fault
use Rattle.term_tree.specs.Terms.{Text, Tree, lit, var, ArrayTree, array, upd, splice, applied, width_of, array_height, HIGHEST}
use Rattle.term_make.specs.Making.{Made, make, within_height}
use Rattle.term_select.specs.Selecting.{select}
use Rattle.term_print.specs.Words.{Word, opens, closes, name, number, literal, Lexeme, lexemes}
use Rattle.term_words.specs.Operators.{arity, operator_of}
use Rattle.term_words.specs.Scopes.{Scope, sort_of}

-- how deep brackets nest at most
abbrev pub DEEPEST : ℕ
DEEPEST = 1024

-- a term of height 1,025 would be made, or a bracket is the 1,025th that is open
abbrev pub too_high : TermReadFault
too_high = fault.Term limit.TermTooHigh

-- ---- terms

-- a bracket that is open, with the place of its `(`
pub data Frame : Type 0 where
  -- an operator, and the arguments that are read; the next one is to come
  arguments : (at : ℕ) (op : Op) (ts : List Tree) → Frame
  -- a byte of an array variable, whose index is to come
  index : (at : ℕ) (f : Text) → Frame

-- an application with all its parts
pub data Whole : Type 0 where
  -- an operator at arguments
  application : (op : Op) (ts : List Tree) → Whole
  -- the byte of an array variable at an index
  selection : (f : Text) (i : Tree) → Whole

-- what comes next
pub data Mode : Type 0 where
  -- a term
  wanted : Mode
  -- the word behind a `(`
  head : (at : ℕ) → Mode
  -- the first number of `extract`
  high : (at : ℕ) → Mode
  -- its second number
  low : (at hi : ℕ) → Mode
  -- the number of `zext` or, if signed, of `sext`
  extended : (at : ℕ) (signed : Bool) → Mode
  -- the array variable of `sel`
  of_array : (at : ℕ) → Mode
  -- the `)` of an application
  close : (w : Whole) → Mode

-- what a word leads to
pub data Turn : Type 0 where
  -- reading goes on
  goes : (k : List Frame) (m : Mode) → Turn
  -- the term ends
  ends : (t : Tree) → Turn
  -- the word is at fault, or an open bracket before it
  fails : (f : TermReadFault) → Turn

-- what is made of an application
abbrev pub whole_made : Whole → Made Tree
whole_made (application op ts) = make (applied op ts)
whole_made (selection f i) = select (array f) i

-- an application that is closed next, if its arguments fit; else its `(` is at fault
abbrev pub judged : Bool → ℕ → List Frame → Whole → Turn
judged true at k w = goes k (close w)
judged false at k w = fails (fault.WidthDiffers at)

-- the operator at these arguments, where it takes so many, or the next argument
abbrev pub argument_read : Bool → ℕ → Op → List Tree → List Frame → Turn
argument_read true at op ts k = goes (arguments at op ts ∷ k) wanted
argument_read false at op ts k = judged (is_some (result_width_of op (map width_of ts))) at k (application op ts)

-- a term is read inside these brackets
abbrev pub given : List Frame → Tree → Turn
given [] t = ends t
given (arguments at op ts ∷ k) t = argument_read (nat_lt (length (ts ++ t ∷ [])) (arity op)) at op (ts ++ t ∷ []) k
given (index at f ∷ k) t = judged (nat_eq (width_of t) 64) at k (selection f t)

-- what was made, if it wasn't too high
abbrev pub given_made : List Frame → Option Tree → Turn
given_made k None = fails too_high
given_made k (Some t) = given k t

-- a name where a term is wanted, by its sort
abbrev pub variable : List Frame → ℕ → Text → Option Sort → Turn
variable k at x None = fails (fault.Unbound at)
variable k at x (Some (sort.Bits w)) = given k (var x w)
variable k at x (Some sort.Array) = fails (fault.WidthDiffers at)

-- a name where `sel` wants an array variable, by its sort
abbrev pub selected : List Frame → ℕ → ℕ → Text → Option Sort → Turn
selected k open_at at x None = fails (fault.Unbound at)
selected k open_at at x (Some (sort.Bits w)) = fails (fault.WidthDiffers at)
selected k open_at at x (Some sort.Array) = goes (index open_at x ∷ k) wanted

-- an operator without numbers, where there is one
abbrev pub begun : List Frame → ℕ → ℕ → Option Op → Turn
begun k open_at at None = fails (fault.Form at)
begun k open_at at (Some op) = goes (arguments open_at op [] ∷ k) wanted

-- the name behind a `(`
unfoldable pub headed : List Frame → ℕ → ℕ → Text → Turn
headed k open_at at x =
    if bytes_eq x (codes "extract") then goes k (high open_at)
    else (if bytes_eq x (codes "zext") then goes k (extended open_at false)
    else (if bytes_eq x (codes "sext") then goes k (extended open_at true)
    else (if bytes_eq x (codes "sel") then goes k (of_array open_at)
    else begun k open_at at (operator_of x))))

-- a word where a term is wanted, inside so many brackets that aren't on the stack
abbrev pub on_wanted : Scope → ℕ → List Frame → Word → ℕ → Turn
on_wanted scope deep k opens at = if nat_lt (deep + length k) DEEPEST then goes k (head at) else fails too_high
on_wanted scope deep k (name x) at = variable k at x (sort_of scope x)
on_wanted scope deep k (literal b) at = given k (lit b)
on_wanted scope deep k w at = fails (fault.Form at)

-- a word behind a `(`
abbrev pub on_head : List Frame → ℕ → Word → ℕ → Turn
on_head k open_at (name x) at = headed k open_at at x
on_head k open_at w at = fails (fault.Form at)

-- a word where the first number of `extract` is wanted
abbrev pub on_high : List Frame → ℕ → Word → ℕ → Turn
on_high k open_at (number n) at = goes k (low open_at n)
on_high k open_at w at = fails (fault.Form at)

-- a word where its second number is wanted
abbrev pub on_low : List Frame → ℕ → ℕ → Word → ℕ → Turn
on_low k open_at hi (number n) at = goes (arguments open_at (Extract hi n) [] ∷ k) wanted
on_low k open_at hi w at = fails (fault.Form at)

-- the operator that widens, with sign or without
abbrev pub widening : Bool → ℕ → Op
widening true to = SExt to
widening false to = ZExt to

-- a word where the number of `zext` or `sext` is wanted
abbrev pub on_extended : List Frame → ℕ → Bool → Word → ℕ → Turn
on_extended k open_at signed (number n) at = goes (arguments open_at (widening signed n) [] ∷ k) wanted
on_extended k open_at signed w at = fails (fault.Form at)

-- a word where the array variable of `sel` is wanted
abbrev pub on_array : Scope → List Frame → ℕ → Word → ℕ → Turn
on_array scope k open_at (name x) at = selected k open_at at x (sort_of scope x)
on_array scope k open_at w at = fails (fault.Form at)

-- a word where the `)` of an application is wanted
abbrev pub on_close : List Frame → Whole → Word → ℕ → Turn
on_close k whole closes at = given_made k (within_height (whole_made whole))
on_close k whole w at = fails (fault.Form at)

-- the next word of a term
abbrev pub step : Scope → ℕ → List Frame → Mode → Lexeme → Turn
step scope deep k wanted x = on_wanted scope deep k x.word x.at
step scope deep k (head open_at) x = on_head k open_at x.word x.at
step scope deep k (high open_at) x = on_high k open_at x.word x.at
step scope deep k (low open_at hi) x = on_low k open_at hi x.word x.at
step scope deep k (extended open_at signed) x = on_extended k open_at signed x.word x.at
step scope deep k (of_array open_at) x = on_array scope k open_at x.word x.at
step scope deep k (close w) x = on_close k w x.word x.at

-- what is read and the words behind it, or the first fault
abbrev pub Outcome : Type 0 → Type 0
Outcome A = Result (A × List Lexeme) TermReadFault

-- what a turn leads to, where these words are left
abbrev pub go_on : Turn → List Lexeme → (List Frame → Mode → Outcome Tree) → Outcome Tree
go_on (goes k m) xs more = more k m
go_on (ends t) xs more = Ok (t, xs)
go_on (fails f) xs more = Err f

-- reading a term from words, in a text of so many bytes
unfoldable pub run : Scope → ℕ → List Frame → Mode → List Lexeme → Outcome Tree
run scope len k m [] = Err (fault.Form len)
run scope len k m (x ∷ xs) = go_on (step scope 0 k m x) xs (λ k' m'. run scope len k' m' xs)

-- what is read and the number of the token behind it, or the first fault
abbrev pub Answer : Type 0 → Type 0
Answer A = Result (A × ℕ) TermReadFault

-- the number of the token behind what is read, of so many
abbrev pub numbered : {A : Type 0} → ℕ → Outcome A → Answer A
numbered count (Ok (it, rest)) = Ok (it, count - length rest)
numbered count (Err f) = Err f

-- the term that begins at a token, or the first fault
unfoldable pub term_from : Text → List Token → ℕ → Scope → Answer Tree
term_from text ts from scope = numbered (length ts) (run scope (length text) [] wanted (drop from (lexemes text ts)))

-- ---- array terms

-- a bracket that is open, where an array term is to come
pub data ArrayFrame : Type 0 where
  -- the array of `upd`
  updated : (at : ℕ) → ArrayFrame
  -- the first array of `splice`
  spliced : (at : ℕ) → ArrayFrame
  -- its second array
  spliced_below : (at : ℕ) (f : ArrayTree) → ArrayFrame

-- the bracket in which a term is to come
pub data Slot : Type 0 where
  -- the index of `upd`
  updated_at : (at : ℕ) (f : ArrayTree) → Slot
  -- its byte
  updated_by : (at : ℕ) (f : ArrayTree) (i : Tree) → Slot
  -- the index of `splice`
  spliced_at : (at : ℕ) (f g : ArrayTree) → Slot

-- what comes next
pub data ArrayMode : Type 0 where
  -- an array term
  array_wanted : ArrayMode
  -- the word behind a `(`
  array_head : (at : ℕ) → ArrayMode
  -- a term, or more of it
  in_term : (s : Slot) (k : List Frame) (m : Mode) → ArrayMode
  -- the `)` of an array term
  array_close : (f : ArrayTree) → ArrayMode

-- what a word leads to
pub data ArrayTurn : Type 0 where
  array_goes : (a : List ArrayFrame) (m : ArrayMode) → ArrayTurn
  array_ends : (f : ArrayTree) → ArrayTurn
  array_fails : (f : TermReadFault) → ArrayTurn

-- an array term that is closed next, if its parts fit; else its `(` is at fault
abbrev pub array_judged : Bool → ℕ → List ArrayFrame → ArrayTree → ArrayTurn
array_judged true at a f = array_goes a (array_close f)
array_judged false at a f = array_fails (fault.WidthDiffers at)

-- an array term is read inside these brackets
abbrev pub array_given : List ArrayFrame → ArrayTree → ArrayTurn
array_given [] f = array_ends f
array_given (updated at ∷ a) f = array_goes a (in_term (updated_at at f) [] wanted)
array_given (spliced at ∷ a) f = array_goes (spliced_below at f ∷ a) array_wanted
array_given (spliced_below at f ∷ a) g = array_goes a (in_term (spliced_at at f g) [] wanted)

-- a term is read in its bracket
abbrev pub filled : List ArrayFrame → Slot → Tree → ArrayTurn
filled a (updated_at at f) t = array_goes a (in_term (updated_by at f t) [] wanted)
filled a (updated_by at f i) t = array_judged (nat_eq (width_of i) 64 && nat_eq (width_of t) 8) at a (upd f i t)
filled a (spliced_at at f g) t = array_judged (nat_eq (width_of t) 64) at a (splice f g t)

-- a name where an array term is wanted, by its sort
abbrev pub array_variable : List ArrayFrame → ℕ → Text → Option Sort → ArrayTurn
array_variable a at x None = array_fails (fault.Unbound at)
array_variable a at x (Some (sort.Bits w)) = array_fails (fault.WidthDiffers at)
array_variable a at x (Some sort.Array) = array_given a (array x)

-- a word where an array term is wanted
abbrev pub on_array_wanted : Scope → List ArrayFrame → Word → ℕ → ArrayTurn
on_array_wanted scope a opens at = if nat_lt (length a) DEEPEST then array_goes a (array_head at) else array_fails too_high
on_array_wanted scope a (name x) at = array_variable a at x (sort_of scope x)
on_array_wanted scope a w at = array_fails (fault.Form at)

-- the name behind a `(`
abbrev pub array_headed : List ArrayFrame → ℕ → ℕ → Text → ArrayTurn
array_headed a open_at at x =
    if bytes_eq x (codes "upd") then array_goes (updated open_at ∷ a) array_wanted
    else (if bytes_eq x (codes "splice") then array_goes (spliced open_at ∷ a) array_wanted
    else array_fails (fault.Form at))

-- a word behind a `(`
abbrev pub on_array_head : List ArrayFrame → ℕ → Word → ℕ → ArrayTurn
on_array_head a open_at (name x) at = array_headed a open_at at x
on_array_head a open_at w at = array_fails (fault.Form at)

-- what a turn of a term leads to
abbrev pub in_turn : List ArrayFrame → Slot → Turn → ArrayTurn
in_turn a s (goes k m) = array_goes a (in_term s k m)
in_turn a s (ends t) = filled a s t
in_turn a s (fails f) = array_fails f

-- a word where the `)` of an array term is wanted
abbrev pub on_array_close : List ArrayFrame → ArrayTree → Word → ℕ → ArrayTurn
on_array_close a f closes at = if nat_lt HIGHEST (array_height f) then array_fails too_high else array_given a f
on_array_close a f w at = array_fails (fault.Form at)

-- the next word of an array term; the brackets round a term are those on the stack and its own
abbrev pub array_step : Scope → List ArrayFrame → ArrayMode → Lexeme → ArrayTurn
array_step scope a array_wanted x = on_array_wanted scope a x.word x.at
array_step scope a (array_head open_at) x = on_array_head a open_at x.word x.at
array_step scope a (in_term s k m) x = in_turn a s (step scope (length a + 1) k m x)
array_step scope a (array_close f) x = on_array_close a f x.word x.at

-- what a turn leads to, where these words are left
abbrev pub array_go_on : ArrayTurn → List Lexeme → (List ArrayFrame → ArrayMode → Outcome ArrayTree) → Outcome ArrayTree
array_go_on (array_goes a m) xs more = more a m
array_go_on (array_ends f) xs more = Ok (f, xs)
array_go_on (array_fails f) xs more = Err f

-- reading an array term from words, in a text of so many bytes
unfoldable pub array_run : Scope → ℕ → List ArrayFrame → ArrayMode → List Lexeme → Outcome ArrayTree
array_run scope len a m [] = Err (fault.Form len)
array_run scope len a m (x ∷ xs) = array_go_on (array_step scope a m x) xs (λ a' m'. array_run scope len a' m' xs)

-- the array term that begins at a token, or the first fault
unfoldable pub array_from : Text → List Token → ℕ → Scope → Answer ArrayTree
array_from text ts from scope = numbered (length ts) (array_run scope (length text) [] array_wanted (drop from (lexemes text ts)))
