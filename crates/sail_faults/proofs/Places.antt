-- A fault of a step stands at the word that it takes, or, at the `=` of an assignment, at the name in front; a name that stands first in an expression has its own word's place.
use Rattle.std.proofs.Common.{◌≡◌, ◌⊎◌, inl, inr, refl, ℕ, Bool, true, false, List, [], ◌∷◌, ◌++◌, Option, Some, None, Ok, Err}
use Rattle.std.specs.Prelude.{⊤, if◌then◌else◌, nat_le, nat_lt}
use Rattle.sail_syntax.specs.Tree.{Text, Tree, node, name, chain, when, choose, assign, Step}
use Rattle.sail_syntax.specs.View.{trees}
use Rattle.sail_syntax.specs.Program.{Definition}
use Rattle.sail_syntax.specs.declared.tree.Infix.{Infix}
use Rattle.sail_syntax.specs.declared.tree.Infix.TheVariants as between
use Rattle.sail_syntax.specs.declared.tree.Index.{Index}
use Rattle.sail_syntax.specs.declared.types.Ty.{Ty}
use Rattle.sail_syntax.specs.declared.types.Ty.TheVariants as ty
use Rattle.sail_syntax.specs.declared.patterns.Part.{Part}
use Rattle.sail_syntax.specs.declared.patterns.Part.TheVariants as part
use Rattle.sail_syntax.specs.declared.patterns.Pattern.{Pattern}
use Rattle.sail_syntax.specs.declared.patterns.Pattern.TheVariants as pattern
use Rattle.sail_grammar.specs.declared.keyword.Keyword.TheVariants as kw
use Rattle.sail_grammar.specs.declared.mark.Mark.TheVariants as m
use Rattle.sail_grammar.specs.declared.word.Sign.{Sign}
use Rattle.sail_grammar.specs.declared.word.Sign.TheVariants as sign
use Rattle.sail_grammar.specs.declared.word.Word.{Word}
use Rattle.sail_grammar.specs.Expressions.{repeats}
use Rattle.sail_grammar.specs.Definitions.{is_register, is_enum, is_a_function}
use Rattle.sail_machine.specs.declared.fault.Fault.{Fault}
use Rattle.sail_machine.specs.declared.fault.Flaw.TheVariants as flaw
use Rattle.sail_machine.specs.declared.heads.Binder.{Binder}
use Rattle.sail_machine.specs.declared.heads.EnumHead.{EnumHead}
use Rattle.sail_machine.specs.declared.awaited.Await.{Await}
use Rattle.sail_machine.specs.declared.awaited.Await.TheVariants as a
use Rattle.sail_machine.specs.declared.awaited.Fixed.{Fixed}
use Rattle.sail_machine.specs.declared.awaited.Fixed.TheVariants as fixed
use Rattle.sail_machine.specs.declared.awaited.Naming.{Naming}
use Rattle.sail_machine.specs.declared.awaited.Naming.TheVariants as naming
use Rattle.sail_machine.specs.declared.awaited.Counting.{Counting}
use Rattle.sail_machine.specs.declared.awaited.Counting.TheVariants as counting
use Rattle.sail_machine.specs.declared.awaited.Sized.{Sized}
use Rattle.sail_machine.specs.declared.awaited.Sized.TheVariants as sized
use Rattle.sail_machine.specs.declared.awaited.TypeUse.{TypeUse}
use Rattle.sail_machine.specs.declared.awaited.TypeUse.TheVariants as typing
use Rattle.sail_machine.specs.declared.awaited.IndexUse.{IndexUse}
use Rattle.sail_machine.specs.declared.awaited.IndexUse.TheVariants as index
use Rattle.sail_machine.specs.Frames as f
use Rattle.sail_machine.specs.Frames.{Frame, Frames, Mode, awaits, have, whole, weight}
use Rattle.sail_machine.specs.Signs.{Next, next_word, is_keyword, is_mark, is_operator, meets, meets_keyword, same_infix}
use Rattle.sail_machine.specs.Turns.{Turn, fails, has_room, opened, shallow, begins, count, defined, definition, definition_by, first_word, closed, statements_end, ends, ends_in, infix_after, after_by, after, next_operator, function_of}
use Rattle.sail_machine.specs.Headers.{typed, type_word, called, name_word, may_be, counted, number_word, sized_by, widens, asserts, binds_local, arms_with, slices, replaces, indexed, behind, awaited, is_sign, fixed_word}
use Rattle.sail_machine.specs.Machine as machine
use Rattle.sail_machine.specs.Machine.{one_word, keyword_word, operand_word, want, closes, block_closes, assigns, index_word, inside, statement, text_word, truth_alone, part_word, name_alone, pattern_named, parts_alone, arms_close, step_await, step}
use Rattle.sail_faults.specs.Places.{IsHere, name_place}

-- what a step leads to, at a place: a fault there, or what comes next; an expression that began with a name began there
abbrev pub Stands : ℕ → Turn → Type 0
Stands at (Ok s) = IsHere s.1 at
Stands at (Err e) = e.at ≡ at

-- ---- turns

if_stands : (at : ℕ) (b : Bool) (t u : Turn) → Stands at t → Stands at u → Stands at (if b then t else u)
if_stands at true t u g h = g
if_stands at false t u g h = h

opened_stands : (k : Frames) (g : Frame) (mode : Mode) (at : ℕ) → IsHere mode at → Stands at (opened k g mode at)
opened_stands k g mode at h = if_stands at (has_room k (weight g)) _ _ h refl

shallow_stands : (k : Frames) (w : Await) (at : ℕ) → IsHere (awaits w) at → Stands at (shallow k w at)
shallow_stands k w at h = if_stands at (has_room k 1) _ _ h refl

begins_stands : (kind : Definition → Bool) (k : Frames) (w : Await) (at : ℕ) → IsHere (awaits w) at → Stands at (begins kind k w at)
begins_stands kind k w at h = if_stands at (nat_lt (count kind k) 1024) _ _ h refl

first_stands : (k : Frames) (s : Sign) (at : ℕ) → Stands at (first_word k s at)
first_stands k s at =
    if_stands at (is_keyword kw.Register s) _ _ (begins_stands is_register k (a.Name (naming.Register at)) at tt) (if_stands at (is_keyword kw.Enum s) _ _ (begins_stands is_enum k (a.Name (naming.Enum at)) at tt)
    (if_stands at (is_keyword kw.Val s) _ _ tt (if_stands at (is_keyword kw.Function s) _ _ (begins_stands is_a_function k (a.Name (naming.Function at)) at tt) refl)))

definition_stands : (k : Frames) (n : Next) → Stands n.at (definition k n)
definition_stands k n = by n.sign
  where
    by : (o : Option Sign) → Stands n.at (definition_by k o n.at)
    by None = tt
    by (Some s) = first_stands k s n.at

closed_stands : (k : Frames) (ss : List Step) (p at : ℕ) → Stands at (closed k ss p)
closed_stands [] ss p at = tt
closed_stands (f.looping x i j q ∷ k) ss p at = tt
closed_stands (g ∷ k) ss p at = tt

statements_stand : (k : Frames) (ss : List Step) (p : ℕ) (n : Next) → Stands n.at (statements_end k ss p n)
statements_stand k ss p n = if_stands n.at (meets m.Semicolon n) _ _ tt (if_stands n.at (meets m.CloseBrace n) _ _ (closed_stands k ss p n.at) refl)

pub ends_stand : (k : Frames) (x : Tree) (n : Next) → Stands n.at (ends k x n)
unfolding ends ends_in
ends_stand [] x n = refl
ends_stand (f.program ds ∷ k) x n = refl
ends_stand (f.body h t ∷ k) x n = definition_stands (defined k (function_of h t x)) n
ends_stand (f.paren p ∷ k) x n = if_stands n.at (meets m.Close n) _ _ tt refl
ends_stand (f.args c xs p ∷ k) x n = if_stands n.at (meets m.Comma n) _ _ tt (if_stands n.at (meets m.Close n) _ _ tt refl)
ends_stand (f.testing p ∷ k) x n = if_stands n.at (meets_keyword kw.Then n) _ _ tt refl
ends_stand (f.choosing t p ∷ k) x n = if_stands n.at (meets_keyword kw.Else n) _ _ tt (ends_stand k (node p (when t x)) n)
ends_stand (f.otherwise t y p ∷ k) x n = ends_stand k (node p (choose t y x)) n
ends_stand (f.subject p ∷ k) x n = if_stands n.at (meets m.OpenBrace n) _ _ (opened_stands k (f.arms x [] p) (awaits (a.Part [])) n.at tt) refl
ends_stand (f.arms y cs p ∷ k) x n = refl
ends_stand (f.armed y cs pt p ∷ k) x n = if_stands n.at (meets m.Comma n) _ _ tt (if_stands n.at (meets m.CloseBrace n) _ _ tt refl)
ends_stand (f.chained op xs p ∷ k) x n = ends_stand k (node p (chain op (trees (xs ++ x ∷ [])))) n
ends_stand (f.assigning y p ∷ k) x n = ends_stand k (node p (assign y x)) n
ends_stand (f.flipping p ∷ k) x n = if_stands n.at (meets m.Close n) _ _ tt refl
ends_stand (f.slicing y c p ∷ k) x n = refl
ends_stand (f.updating p ∷ k) x n = if_stands n.at (meets_keyword kw.With n) _ _ tt refl
ends_stand (f.indexing y p ∷ k) x n = refl
ends_stand (f.replacing y hi lo p ∷ k) x n = if_stands n.at (meets m.CloseSquare n) _ _ tt refl
ends_stand (f.widening signed p ∷ k) x n = refl
ends_stand (f.widened signed w p ∷ k) x n = if_stands n.at (meets m.Close n) _ _ tt refl
ends_stand (f.asserting p ∷ k) x n = if_stands n.at (meets m.Comma n) _ _ tt refl
ends_stand (f.asserted y p ∷ k) x n = refl
ends_stand (f.looping y i j p ∷ k) x n = refl
ends_stand (f.statements ss p ∷ k) x n = statements_stand k _ p n
ends_stand (f.binding ss b y t p ∷ k) x n = statements_stand k _ p n

infix_stands : (k : Frames) (x : Tree) (p : ℕ) (op : Infix) (at : ℕ) → Stands at (infix_after k x p op at)
infix_stands (f.chained before xs q ∷ k) x p op at = if_stands at (same_infix before op) _ _ (if_stands at (repeats op) _ _ tt refl) refl
infix_stands [] x p op at = tt
infix_stands (g ∷ k) x p op at = tt

after_stands : (k : Frames) (x : Tree) (c p : ℕ) (n : Next) → Stands n.at (after k x c p n)
after_stands k x c p n = by (next_operator n.sign)
  where
    by : (o : Option Infix) → Stands n.at (after_by k x c p n o)
    by None = if_stands n.at (meets m.OpenSquare n) _ _ (opened_stands k (f.slicing x c p) (awaits (a.Index index.High)) n.at tt) (ends_stand k x n)
    by (Some op) = infix_stands k x p op n.at

-- ---- expressions

one_word_stands : (k : Frames) (s : Sign) (at : ℕ) → Stands at (one_word k s at)
one_word_stands k (sign.Literal b) at = tt
one_word_stands k (sign.Name x) at = refl
one_word_stands k _ at = refl

keyword_stands : (k : Frames) (w : Word) → Stands w.at (keyword_word k w)
keyword_stands k w =
    if_stands w.at (is_keyword kw.True w.sign) _ _ tt (if_stands w.at (is_keyword kw.False w.sign) _ _ tt (if_stands w.at (is_keyword kw.ZeroExtend w.sign) _ _ tt (if_stands w.at (is_keyword kw.SignExtend w.sign) _ _ tt
    (if_stands w.at (is_keyword kw.Assert w.sign) _ _ tt (if_stands w.at (is_keyword kw.Exit w.sign) _ _ tt (one_word_stands k w.sign w.at))))))

operand_stands : (k : Frames) (w : Word) → Stands w.at (operand_word k w)
operand_stands k w =
    if_stands w.at (is_mark m.Open w.sign) _ _ (opened_stands k (f.paren w.at) (awaits a.Inside) w.at tt) (if_stands w.at (is_mark m.OpenBrace w.sign) _ _ (opened_stands k (f.statements [] w.at) (awaits (a.Statement None)) w.at tt)
    (if_stands w.at (is_mark m.OpenSquare w.sign) _ _ (opened_stands k (f.updating w.at) (awaits a.Want) w.at tt) (if_stands w.at (is_mark m.Tilde w.sign) _ _ tt (keyword_stands k w))))

want_stands : (k : Frames) (w : Word) → Stands w.at (want k w)
want_stands k w =
    if_stands w.at (is_keyword kw.If w.sign) _ _ (opened_stands k (f.testing w.at) (awaits a.Want) w.at tt) (if_stands w.at (is_keyword kw.Match w.sign) _ _ (opened_stands k (f.subject w.at) (awaits a.Want) w.at tt)
    (if_stands w.at (is_keyword kw.Foreach w.sign) _ _ tt (operand_stands k w)))

closes_stand : (k : Frames) (at : ℕ) → Stands at (closes k at)
closes_stand (f.paren p ∷ k) at = tt
closes_stand (f.args c xs p ∷ k) at = tt
closes_stand [] at = refl
closes_stand (g ∷ k) at = refl

block_stands : (k : Frames) (before : Option ℕ) (at : ℕ) → Stands at (block_closes k before at)
block_stands (f.statements ss p ∷ k) before at = closed_stands k _ p at
block_stands [] before at = refl
block_stands (g ∷ k) before at = refl

-- a nesting too deep stands at p where the sign is `=`
pub record IsDeep (p : ℕ) (s : Sign) (e : Fault) : Type 0 where
  pub deep : e.flaw ≡ flaw.TooDeep
  pub equals : is_mark m.Equals s ≡ true
  pub place : e.at ≡ p

-- what a sign behind a name, which is at p, leads to
abbrev pub StandsNamed : ℕ → Sign → ℕ → Turn → Type 0
StandsNamed p s at (Ok k) = IsHere k.1 at
StandsNamed p s at (Err e) = (e.at ≡ at) ⊎ IsDeep p s e

as_named : (p : ℕ) (s : Sign) (at : ℕ) (t : Turn) → Stands at t → StandsNamed p s at t
as_named p s at (Ok k) h = h
as_named p s at (Err e) h = inl h

deep_stands : (k : Frames) (g : Frame) (p : ℕ) (s : Sign) (at : ℕ) (b : Bool) → is_mark m.Equals s ≡ true → StandsNamed p s at (if b then Ok (g ∷ k, awaits a.Want) else fails flaw.TooDeep p)
deep_stands k g p s at true h = tt
deep_stands k g p s at false h = inr (record { deep = refl; equals = h; place = refl })

assigns_stand : (k : Frames) (x : Text) (p : ℕ) (s : Sign) (at : ℕ) → is_mark m.Equals s ≡ true → StandsNamed p s at (assigns k x p at)
assigns_stand (f.chained op xs q ∷ k) x p s at h = inl refl
assigns_stand [] x p s at h = deep_stands [] (f.assigning x p) p s at (has_room [] 1) h
assigns_stand (g ∷ k) x p s at h = deep_stands (g ∷ k) (f.assigning x p) p s at (has_room (g ∷ k) 1) h

binds_stand : (k : Frames) (b : Binder) (x : Text) (t : Option Ty) (at : ℕ) → Stands at (binds_local k b x t at)
binds_stand (f.statements ss p ∷ k) b x t at = tt
binds_stand [] b x t at = refl
binds_stand (g ∷ k) b x t at = refl

arms_with_stand : (k : Frames) (pt : Pattern) (at : ℕ) → Stands at (arms_with k pt at)
arms_with_stand (f.arms x cs p ∷ k) pt at = tt
arms_with_stand [] pt at = refl
arms_with_stand (g ∷ k) pt at = refl

-- ---- types, names, numbers, indices

typed_stands : (k : Frames) (u : TypeUse) (t : Ty) (at : ℕ) → Stands at (typed k u t)
typed_stands k (typing.Argument h) t at = tt
typed_stands k (typing.Answer h) t at = tt
typed_stands k (typing.Param h x) t at = tt
typed_stands k (typing.Returned h) t at = tt
typed_stands k (typing.Local b x) t at = tt

type_stands : (k : Frames) (u : TypeUse) (s : Sign) (at : ℕ) → Stands at (type_word k u s at)
type_stands k u (sign.Name x) at = typed_stands k u (ty.Enum x) at
type_stands k u (sign.Keyword word) at =
    if_stands at (is_keyword kw.Bits (sign.Keyword word)) _ _ tt (if_stands at (is_keyword kw.Bool (sign.Keyword word)) _ _ (typed_stands k u ty.Bool at) (if_stands at (is_keyword kw.Unit (sign.Keyword word)) _ _ (typed_stands k u ty.Unit at) refl))
type_stands k u _ at = refl

called_stands : (k : Frames) (u : Naming) (x : Text) (at : ℕ) → Stands at (called k u x)
called_stands k (naming.Register p) x at = tt
called_stands k (naming.Enum p) x at = tt
called_stands k (naming.Val p) x at = tt
called_stands k (naming.Function p) x at = tt
called_stands k (naming.Member e) x at = tt
called_stands k (naming.Param e) x at = tt
called_stands k (naming.Each p) x at = tt
called_stands k (naming.Local b) x at = tt

name_stands : (k : Frames) (u : Naming) (s : Sign) (at : ℕ) → Stands at (name_word k u s at)
name_stands k u (sign.Name x) at = called_stands k u x at
name_stands k u _ at = refl

number_stands : (k : Frames) (c : Counting) (s : Sign) (at : ℕ) → Stands at (number_word k c s at)
number_stands k c (sign.Number n) at = if_stands at (may_be c n) _ _ tt refl
number_stands k c _ at = refl

index_stands : (k : Frames) (u : IndexUse) (s : Sign) (at : ℕ) → Stands at (index_word k u s at)
index_stands k u (sign.Number i) at = if_stands at (nat_le i 127) _ _ tt refl
index_stands k u (sign.Name x) at = tt
index_stands k u _ at = refl

slices_stand : (k : Frames) (hi lo : Index) (at : ℕ) → Stands at (slices k hi lo at)
slices_stand (f.slicing x c p ∷ k) hi lo at = tt
slices_stand [] hi lo at = refl
slices_stand (g ∷ k) hi lo at = refl

replaces_stand : (k : Frames) (hi lo : Index) (at : ℕ) → Stands at (replaces k hi lo at)
replaces_stand (f.indexing x p ∷ k) hi lo at = tt
replaces_stand [] hi lo at = refl
replaces_stand (g ∷ k) hi lo at = refl

indexed_stands : (k : Frames) (u : IndexUse) (i : Index) (at : ℕ) → Stands at (indexed k u i at)
indexed_stands k index.High i at = tt
indexed_stands k (index.Low hi) i at = slices_stand k hi i at
indexed_stands k index.WithHigh i at = tt
indexed_stands k (index.WithLow hi) i at = replaces_stand k hi i at

sized_stands : (k : Frames) (z : Sized) (w at : ℕ) → Stands at (sized_by k z w)
sized_stands k (sized.Register x p) w at = tt
sized_stands k (sized.Type u) w at = typed_stands k u (ty.Bits w) at
sized_stands k (sized.Part ps (Some x)) w at = tt
sized_stands k (sized.Part ps None) w at = tt
sized_stands k sized.Widening w at = tt

widens_stand : (k : Frames) (w at : ℕ) → Stands at (widens k w at)
widens_stand (f.widening signed p ∷ k) w at = tt
widens_stand [] w at = refl
widens_stand (g ∷ k) w at = refl

asserts_stand : (k : Frames) (z : Text) (at : ℕ) → Stands at (asserts k z at)
asserts_stand (f.asserted x p ∷ k) z at = tt
asserts_stand [] z at = refl
asserts_stand (g ∷ k) z at = refl

-- ---- fixed words

behind_stands : (k : Frames) (w : Fixed) (at : ℕ) → Stands at (behind k w at)
behind_stands k fixed.OrderWord at = tt
behind_stands k fixed.OrderEnd at = tt
behind_stands k (fixed.RegisterColon x p) at = tt
behind_stands k (fixed.BitsWord z) at = tt
behind_stands k (fixed.BitsOpen z) at = shallow_stands k (a.Number (counting.Width z)) at tt
behind_stands k (fixed.BitsClose z w) at = sized_stands k z w at
behind_stands k (fixed.EnumEquals x p) at = tt
behind_stands k (fixed.EnumOpen x p) at = tt
behind_stands k (fixed.ValColon x p) at = tt
behind_stands k (fixed.ValOpen x p) at = tt
behind_stands k (fixed.ValArrow e) at = tt
behind_stands k (fixed.FunctionOpen x p) at = tt
behind_stands k (fixed.ParamColon e x) at = tt
behind_stands k (fixed.FunctionArrow e) at = tt
behind_stands k (fixed.FunctionEquals e t) at = tt
behind_stands k (fixed.FlipOpen p) at = opened_stands k (f.flipping p) (awaits a.Want) at tt
behind_stands k (fixed.WidenOpen signed p) at = opened_stands k (f.widening signed p) (awaits (a.Number (counting.Width sized.Widening))) at tt
behind_stands k (fixed.WidenComma w) at = widens_stand k w at
behind_stands k (fixed.AssertOpen p) at = opened_stands k (f.asserting p) (awaits a.Want) at tt
behind_stands k (fixed.AssertClose z) at = asserts_stand k z at
behind_stands k (fixed.ExitOpen p) at = shallow_stands k (a.Fixed (fixed.ExitClose p)) at tt
behind_stands k (fixed.ExitClose p) at = tt
behind_stands k (fixed.EachOpen p) at = shallow_stands k (a.Name (naming.Each p)) at tt
behind_stands k (fixed.EachFrom x p) at = tt
behind_stands k (fixed.EachTo x i p) at = tt
behind_stands k (fixed.EachClose x i j p) at = tt
behind_stands k (fixed.EachBlock x i j p) at = opened_stands (f.looping x i j p ∷ k) (f.statements [] at) (awaits (a.Statement None)) at tt
behind_stands k (fixed.LocalEquals b x t) at = binds_stand k b x (Some t) at
behind_stands k (fixed.Arrow pt) at = arms_with_stand k pt at
behind_stands k (fixed.IndexEnd u i) at = indexed_stands k u i at

fixed_stands : (k : Frames) (w : Fixed) (s : Sign) (at : ℕ) → Stands at (fixed_word k w s at)
fixed_stands k w s at = if_stands at (is_sign (awaited w) s) _ _ (behind_stands k w at) refl

-- ---- patterns and texts

text_word_stands : (k : Frames) (s : Sign) (at : ℕ) → Stands at (text_word k s at)
text_word_stands k (sign.Text z) at = tt
text_word_stands k _ at = refl

truth_stands : (k : Frames) (ps : List Part) (b : Bool) (at : ℕ) → Stands at (truth_alone k ps b at)
truth_stands k [] b at = tt
truth_stands k (q ∷ ps) b at = refl

part_stands : (k : Frames) (ps : List Part) (s : Sign) (at : ℕ) → Stands at (part_word k ps s at)
part_stands k ps (sign.Literal b) at = tt
part_stands k ps (sign.Name x) at = tt
part_stands k ps (sign.Keyword word) at =
    if_stands at (is_keyword kw.Wildcard (sign.Keyword word)) _ _ tt (if_stands at (is_keyword kw.True (sign.Keyword word)) _ _ (truth_stands k ps true at)
    (if_stands at (is_keyword kw.False (sign.Keyword word)) _ _ (truth_stands k ps false at) refl))
part_stands k ps _ at = refl

name_alone_stands : (k : Frames) (ps : List Part) (who : Option Text) (at : ℕ) → Stands at (name_alone k ps who at)
name_alone_stands k [] who at = arms_with_stand k (pattern_named who) at
name_alone_stands k (q ∷ ps) who at = refl

parts_stand : (k : Frames) (ps : List Part) (at : ℕ) → Stands at (parts_alone k ps at)
parts_stand k [] at = refl
parts_stand k (part.Lit b ∷ []) at = arms_with_stand k (pattern.Lit b) at
parts_stand k (part.Bind x w ∷ []) at = refl
parts_stand k (part.Skip w ∷ []) at = refl
parts_stand k (p ∷ q ∷ ps) at = arms_with_stand k (pattern.Parts (p ∷ q ∷ ps)) at

arms_close_stands : (k : Frames) (at : ℕ) → Stands at (arms_close k at)
arms_close_stands (f.arms x cs p ∷ k) at = tt
arms_close_stands [] at = refl
arms_close_stands (g ∷ k) at = refl

-- ---- all words

-- what a word leads to, at its place; behind a name also at the name's
abbrev pub StandsBy : Option ℕ → Word → Turn → Type 0
StandsBy (Some p) w t = StandsNamed p w.sign w.at t
StandsBy None w t = Stands w.at t

inside_stands : (k : Frames) (w : Word) → Stands w.at (inside k w)
inside_stands k w = if_stands w.at (is_mark m.Close w.sign) _ _ (closes_stand k w.at) (want_stands k w)

statement_stands : (k : Frames) (before : Option ℕ) (w : Word) → Stands w.at (statement k before w)
statement_stands k before w =
    if_stands w.at (is_mark m.CloseBrace w.sign) _ _ (block_stands k before w.at) (if_stands w.at (is_keyword kw.Let w.sign) _ _ tt (if_stands w.at (is_keyword kw.Var w.sign) _ _ tt (want_stands k w)))

equals_stand : (k : Frames) (x : Text) (p : ℕ) (w : Word) (b : Bool) → is_mark m.Equals w.sign ≡ b → StandsNamed p w.sign w.at (if b then assigns k x p w.at else after k (node p (name x)) 0 p (next_word w))
equals_stand k x p w true h = assigns_stand k x p w.sign w.at h
equals_stand k x p w false h = as_named p w.sign w.at _ (after_stands k (node p (name x)) 0 p (next_word w))

open_stands : (k : Frames) (x : Text) (p : ℕ) (w : Word) (b : Bool) (t : Turn) → StandsNamed p w.sign w.at t → StandsNamed p w.sign w.at (if b then opened k (f.args x [] p) (awaits a.Inside) w.at else t)
open_stands k x p w true t h = as_named p w.sign w.at _ (opened_stands k (f.args x [] p) (awaits a.Inside) w.at tt)
open_stands k x p w false t h = h

named_stands : (k : Frames) (x : Text) (p : ℕ) (w : Word) → StandsNamed p w.sign w.at (machine.named k x p w)
named_stands k x p w = open_stands k x p w (is_mark m.Open w.sign) _ (equals_stand k x p w (is_mark m.Equals w.sign) refl)

await_stands : (k : Frames) (await : Await) (w : Word) → StandsBy (name_place (awaits await)) w (step_await k await w)
await_stands k a.Begin w = if_stands w.at (is_keyword kw.Default w.sign) _ _ tt (definition_stands k (next_word w))
await_stands k a.Definition w = definition_stands k (next_word w)
await_stands k (a.Fixed e) w = fixed_stands k e w.sign w.at
await_stands k (a.Name u) w = name_stands k u w.sign w.at
await_stands k (a.Number c) w = number_stands k c w.sign w.at
await_stands k (a.Type u) w = type_stands k u w.sign w.at
await_stands k (a.MemberOrEnd e) w = if_stands w.at (is_mark m.CloseBrace w.sign) _ _ tt (name_stands k (naming.Member e) w.sign w.at)
await_stands k (a.MoreMembers e) w = if_stands w.at (is_mark m.Comma w.sign) _ _ tt (if_stands w.at (is_mark m.CloseBrace w.sign) _ _ tt refl)
await_stands k (a.TypeOrEnd e) w = if_stands w.at (is_mark m.Close w.sign) _ _ tt (type_stands k (typing.Argument e) w.sign w.at)
await_stands k (a.MoreTypes e) w = if_stands w.at (is_mark m.Comma w.sign) _ _ tt (if_stands w.at (is_mark m.Close w.sign) _ _ tt refl)
await_stands k (a.ParamOrEnd e) w = if_stands w.at (is_mark m.Close w.sign) _ _ tt (name_stands k (naming.Param e) w.sign w.at)
await_stands k (a.MoreParams e) w = if_stands w.at (is_mark m.Comma w.sign) _ _ tt (if_stands w.at (is_mark m.Close w.sign) _ _ tt refl)
await_stands k a.Want w = want_stands k w
await_stands k a.Operand w = operand_stands k w
await_stands k a.Inside w = inside_stands k w
await_stands k (a.Statement before) w = statement_stands k before w
await_stands k (a.Named x p) w = named_stands k x p w
await_stands k (a.Index u) w = index_stands k u w.sign w.at
await_stands k (a.IndexName u x) w = if_stands w.at (is_operator between.Add w.sign) _ _ tt (fixed_stands k (fixed.IndexEnd u (record { var = Some x; plus = 0 })) w.sign w.at)
await_stands k (a.LocalMore b x) w = if_stands w.at (is_mark m.Colon w.sign) _ _ tt (if_stands w.at (is_mark m.Equals w.sign) _ _ (binds_stand k b x None w.at) refl)
await_stands k a.Text w = text_word_stands k w.sign w.at
await_stands k (a.Part ps) w = part_stands k ps w.sign w.at
await_stands k (a.PartNamed ps who) w = if_stands w.at (is_mark m.Colon w.sign) _ _ tt (if_stands w.at (is_mark m.FatArrow w.sign) _ _ (name_alone_stands k ps who w.at) refl)
await_stands k (a.MoreParts ps) w = if_stands w.at (is_operator between.Join w.sign) _ _ tt (if_stands w.at (is_mark m.FatArrow w.sign) _ _ (parts_stand k ps w.at) refl)
await_stands k a.ArmOrEnd w = if_stands w.at (is_mark m.CloseBrace w.sign) _ _ (arms_close_stands k w.at) (part_stands k [] w.sign w.at)

pub step_stands : (k : Frames) (mode : Mode) (w : Word) → StandsBy (name_place mode) w (step k mode w)
step_stands k (awaits await) w = await_stands k await w
step_stands k (have x c p) w = after_stands k x c p (next_word w)
step_stands k (whole x) w = ends_stand k x (next_word w)
