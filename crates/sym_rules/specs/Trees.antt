-- Trees of events with open leaves: what an evaluation does up to the point that a leaf stands for. What is evaluated next is joined to each leaf.
use Rattle.std.specs.Prelude.{ℕ, zero, suc, ◌-◌, List, [], ◌∷◌, Option, Some, None, nat_eq, if◌then◌else◌, length, drop}
use Rattle.bv_bits.specs.declared.Bits.{Bits}
use Rattle.bv_bits.specs.declared.Op.TheVariants as op
use Rattle.term_tree.specs.Terms as term
use Rattle.term_tree.specs.Terms.{Tree}
use Rattle.term_rules.specs.Shapes.{literal_of}
use Rattle.term_make.specs.Making.{Made, make}
use Rattle.term_arena.specs.Nodes.{Meaning}
use Rattle.term_arena.specs.Built.{built}
use Rattle.term_arena.specs.Said.{Said, Answer, Answers, Refuses, says, said_just, said_of, said_then, behind}
use Rattle.trace_plain.specs.declared.trace.FailKind.{FailKind}
use Rattle.trace_plain.specs.Trace as plain
use Rattle.trace_plain.specs.Trace.{Event, assume, Trace, trace}
use Rattle.sym_rules.specs.Values.{SymValue, SymSlot, SymPath}

-- a tree whose leaves carry something
pub data SymTree (L : Type 0) : Type 0 where
  -- what comes next is joined here
  leaf : (at : L) → SymTree L
  -- these terms are named or made, and then
  naming : (terms : List Meaning) → (next : SymTree L) → SymTree L
  -- an event, and then
  on : (event : Event) → (next : SymTree L) → SymTree L
  -- one of two
  split : (yes no : SymTree L) → SymTree L
  -- the instruction fails
  fails : (kind : FailKind) → SymTree L

-- ---- joining

-- the next tree at each leaf, from what the leaf carries; what fails is closed
unfoldable pub onto : {L M : Type 0} → SymTree L → (L → SymTree M) → SymTree M
onto (leaf l) f = f l
onto (naming ms t) f = naming ms (onto t f)
onto (on e t) f = on e (onto t f)
onto (split a b) f = split (onto a f) (onto b f)
onto (fails k) f = fails k

-- what a leaf carries: a value, and where the path stands
pub record Leaf (X : Type 0) : Type 0 where
  pub value : X
  pub path : SymPath

-- what an expression does, from where the path stands
abbrev pub SymMeaning : Type 0 → Type 0
SymMeaning X = SymPath → SymTree (Leaf X)

-- gives this, and does nothing
abbrev pub sym_pure : {X : Type 0} → X → SymMeaning X
sym_pure x = λ p. leaf (record { value = x; path = p })

-- first the one, then the other on what it gave
abbrev pub sym_bind : {X Y : Type 0} → SymMeaning X → (X → SymMeaning Y) → SymMeaning Y
sym_bind m f = λ p. onto (m p) (λ l. f l.value l.path)

-- fails, wherever the path stands
abbrev pub sym_fails : {X : Type 0} → FailKind → SymMeaning X
sym_fails k = λ p. fails k

-- the path with other locals
abbrev pub with_locals : List SymSlot → SymPath → SymPath
with_locals locals p = record p { locals = locals }

-- only the n oldest locals are left
abbrev pub leaf_within : {X : Type 0} → ℕ → Leaf X → SymTree (Leaf X)
leaf_within n l = leaf (record l { path = with_locals (drop (length l.path.locals - n) l.path.locals) l.path })

-- what is bound within is forgotten
abbrev pub sym_within : {X : Type 0} → SymMeaning X → SymMeaning X
sym_within m = λ p. onto (m p) (leaf_within (length p.locals))

-- ---- what is said of terms

-- what is made of terms, or why the instruction fails, with the terms that are named or made on the way
abbrev pub Telling : Type 0 → Type 0
Telling X = Said FailKind X

-- goes on with what is said, or fails
abbrev pub told_answer : {X : Type 0} → Answer FailKind X → SymMeaning X
told_answer (Answers x) = sym_pure x
told_answer (Refuses k) = sym_fails k

-- the terms are named or made, and then
abbrev pub told : {X : Type 0} → Telling X → SymMeaning X
told s = λ p. naming s.work (told_answer s.answer p)

-- a term that is made of an application
abbrev pub making : Tree → Telling Tree
making t = said_of (make t)

-- the literal of a bit
abbrev pub bit_term : ℕ → Tree
bit_term n = term.lit (record { width = 1; value = n })

-- ---- forks

-- the opposite of a bit, as it is made
abbrev pub opposite_made : Tree → Made Tree
opposite_made t = make (term.one op.Not t)

-- both parts of a fork, each behind what it assumes
abbrev pub both : {L : Type 0} → Tree → SymTree L → SymTree L → SymTree L
both t yes_part no_part = naming (built (opposite_made t)) (split (on (assume t) yes_part) (on (assume (opposite_made t).it) no_part))

-- the part that a literal chooses, or both parts
abbrev pub forked : {L : Type 0} → Option Bits → Tree → SymTree L → SymTree L → SymTree L
forked (Some b) t yes_part no_part = if nat_eq b.value 1 then yes_part else no_part
forked None t yes_part no_part = both t yes_part no_part

-- one part where a bit is 1, another where it isn't
abbrev pub fork : {X : Type 0} → Tree → SymMeaning X → SymMeaning X → SymMeaning X
fork t yes_part no_part = λ p. forked (literal_of t) t (yes_part p) (no_part p)

-- ---- traces

-- a trace behind an event
abbrev pub with_first : Event → Trace → Trace
with_first e (trace events end) = trace (e ∷ events) end

-- a trace without events
abbrev pub ends_so : plain.End → Trace
ends_so end = trace [] end

-- a trace that goes on as one of two
abbrev pub two_cases : Trace → Trace → Trace
two_cases a b = ends_so (plain.cases (plain.some a (plain.some b plain.none)))

-- the trace of a tree: each leaf is the end of the instruction
abbrev pub traced : {L : Type 0} → SymTree L → Trace
traced (leaf l) = ends_so plain.done
traced (naming ms t) = traced t
traced (on e t) = with_first e (traced t)
traced (split a b) = two_cases (traced a) (traced b)
traced (fails k) = ends_so (plain.fail k)

-- ---- the limit

-- why there is no trace: it would have more events and ends than it may
pub data TooLarge : Type 0 where
  too_large : TooLarge

-- what is counted: a trace, and how many more events and ends there may be behind it
abbrev pub Counted : Type 0
Counted = Said TooLarge (Trace × ℕ)

-- one more event or end, where there is room for it
abbrev pub one_more : ℕ → (ℕ → Counted) → Counted
one_more zero next = says (Refuses too_large)
one_more (suc room) next = next room

-- the trace of a tree with so much room, and the terms that are named or made up to its end, or up to the first event or end without room
abbrev pub counted : {L : Type 0} → SymTree L → ℕ → Counted
counted (leaf l) room = one_more room (λ left. said_just (ends_so plain.done, left))
counted (naming ms t) room = behind ms (counted t room)
counted (on e t) room = one_more room (λ left. said_then (counted t left) (λ c. said_just (with_first e c.0, c.1)))
counted (split a b) room =
    one_more room (λ left. said_then (counted a left) (λ c. said_then (counted b c.1) (λ d. said_just (two_cases c.0 d.0, d.1))))
counted (fails k) room = one_more room (λ left. said_just (ends_so (plain.fail k), left))
