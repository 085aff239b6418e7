-- What is open and what comes next, wherever the machine comes to.
use Rattle.std.proofs.Common.{ℕ, Bool, true, false, List, [], ◌∷◌, ◌++◌, Option, Some, None, Ok, Err}
use Rattle.std.specs.Prelude.{⊤, if◌then◌else◌, nat_le, nat_lt}
use Rattle.sail_syntax.specs.Tree.{Text, Tree, node, chain, when, choose, assign, Step}
use Rattle.sail_syntax.specs.View.{trees}
use Rattle.sail_syntax.specs.Program.{Definition, register, signature}
use Rattle.sail_syntax.specs.declared.tree.Infix.{Infix}
use Rattle.sail_syntax.specs.declared.tree.Index.{Index}
use Rattle.sail_syntax.specs.declared.types.Ty.{Ty}
use Rattle.sail_syntax.specs.declared.types.Ty.TheVariants as ty
use Rattle.sail_syntax.specs.declared.patterns.Pattern.{Pattern}
use Rattle.sail_grammar.specs.declared.keyword.Keyword.TheVariants as kw
use Rattle.sail_grammar.specs.declared.mark.Mark.TheVariants as m
use Rattle.sail_grammar.specs.declared.word.Sign.{Sign}
use Rattle.sail_grammar.specs.declared.word.Sign.TheVariants as sign
use Rattle.sail_grammar.specs.declared.word.Word.{Word}
use Rattle.sail_grammar.specs.Expressions.{repeats}
use Rattle.sail_grammar.specs.Definitions.{is_register, is_enum, is_a_function}
use Rattle.sail_machine.specs.declared.heads.Binder.{Binder}
use Rattle.sail_machine.specs.declared.awaited.Await.{Await}
use Rattle.sail_machine.specs.declared.awaited.Await.TheVariants as a
use Rattle.sail_machine.specs.declared.awaited.Fixed.{Fixed}
use Rattle.sail_machine.specs.declared.awaited.Fixed.TheVariants as fixed
use Rattle.sail_machine.specs.declared.awaited.Naming.{Naming}
use Rattle.sail_machine.specs.declared.awaited.Naming.TheVariants as naming
use Rattle.sail_machine.specs.declared.awaited.Counting.{Counting}
use Rattle.sail_machine.specs.declared.awaited.Counting.TheVariants as counting
use Rattle.sail_machine.specs.declared.awaited.Sized.{Sized}
use Rattle.sail_machine.specs.declared.awaited.Sized.TheVariants as sized
use Rattle.sail_machine.specs.declared.awaited.TypeUse.{TypeUse}
use Rattle.sail_machine.specs.declared.awaited.TypeUse.TheVariants as typing
use Rattle.sail_machine.specs.declared.awaited.IndexUse.{IndexUse}
use Rattle.sail_machine.specs.declared.awaited.IndexUse.TheVariants as index
use Rattle.sail_machine.specs.Frames as f
use Rattle.sail_machine.specs.Frames.{Frame, Frames, Mode, awaits, have, whole, weight}
use Rattle.sail_machine.specs.Signs.{Next, is_keyword, is_mark, meets, meets_keyword, same_infix}
use Rattle.sail_machine.specs.Turns.{Turn, has_room, opened, shallow, begins, count, defined, definition, definition_by, first_word, closed, statements_end, ends, ends_in, infix_after, after_by, after, next_operator, function_of}
use Rattle.sail_machine.specs.Headers.{typed, type_word, called, name_word, may_be, counted, number_word, sized_by, widens, asserts, binds_local, arms_with, slices, replaces, indexed}
use Rattle.sail_machine.specs.Machine.{one_word, keyword_word, operand_word, want, closes, block_closes, assigns, index_word}
use Rattle.sail_machine.proofs.Closing.{Holds, HoldsBlock, IsText, IsStack}

-- an expression may stand here
abbrev pub IsOpen : Frames → Type 0
IsOpen k = Holds k × IsStack k

-- what stands on top
abbrev pub InBlock : Frames → Type 0
InBlock (f.statements ss p ∷ k) = HoldsBlock k × IsStack k
InBlock _ = ⊥

abbrev pub InArms : Frames → Type 0
InArms (f.arms x cs p ∷ k) = IsOpen k
InArms _ = ⊥

abbrev pub InSlice : Frames → Type 0
InSlice (f.slicing x c p ∷ k) = IsOpen k
InSlice _ = ⊥

abbrev pub InUpdate : Frames → Type 0
InUpdate (f.indexing x p ∷ k) = IsOpen k
InUpdate _ = ⊥

abbrev pub InWidening : Frames → Type 0
InWidening (f.widening signed p ∷ k) = IsOpen k
InWidening _ = ⊥

abbrev pub InAssert : Frames → Type 0
InAssert (f.asserted x p ∷ k) = IsOpen k
InAssert _ = ⊥

-- ---- by what comes next

abbrev pub AtType : Frames → TypeUse → Type 0
AtType k (typing.Argument h) = IsText k
AtType k (typing.Answer h) = IsText k
AtType k (typing.Param h x) = IsText k
AtType k (typing.Returned h) = IsText k
AtType k (typing.Local b x) = InBlock k

abbrev pub AtIndex : Frames → IndexUse → Type 0
AtIndex k index.High = InSlice k
AtIndex k (index.Low hi) = InSlice k
AtIndex k index.WithHigh = InUpdate k
AtIndex k (index.WithLow hi) = InUpdate k

abbrev pub AtWidth : Frames → Sized → Type 0
AtWidth k (sized.Register x p) = IsText k
AtWidth k (sized.Type u) = AtType k u
AtWidth k (sized.Part ps who) = InArms k
AtWidth k sized.Widening = InWidening k

abbrev pub AtName : Frames → Naming → Type 0
AtName k (naming.Register p) = IsText k
AtName k (naming.Enum p) = IsText k
AtName k (naming.Val p) = IsText k
AtName k (naming.Function p) = IsText k
AtName k (naming.Member h) = IsText k
AtName k (naming.Param h) = IsText k
AtName k (naming.Each p) = IsOpen k
AtName k (naming.Local b) = InBlock k

abbrev pub AtNumber : Frames → Counting → Type 0
AtNumber k (counting.Width z) = AtWidth k z
AtNumber k (counting.First x p) = IsOpen k
AtNumber k (counting.Last x i p) = IsOpen k
AtNumber k (counting.Plus u x) = AtIndex k u

abbrev pub AtFixed : Frames → Fixed → Type 0
AtFixed k fixed.OrderWord = IsText k
AtFixed k fixed.OrderEnd = IsText k
AtFixed k (fixed.RegisterColon x p) = IsText k
AtFixed k (fixed.BitsWord z) = AtWidth k z
AtFixed k (fixed.BitsOpen z) = AtWidth k z
AtFixed k (fixed.BitsClose z w) = AtWidth k z
AtFixed k (fixed.EnumEquals x p) = IsText k
AtFixed k (fixed.EnumOpen x p) = IsText k
AtFixed k (fixed.ValColon x p) = IsText k
AtFixed k (fixed.ValOpen x p) = IsText k
AtFixed k (fixed.ValArrow h) = IsText k
AtFixed k (fixed.FunctionOpen x p) = IsText k
AtFixed k (fixed.ParamColon h x) = IsText k
AtFixed k (fixed.FunctionArrow h) = IsText k
AtFixed k (fixed.FunctionEquals h t) = IsText k
AtFixed k (fixed.FlipOpen p) = IsOpen k
AtFixed k (fixed.WidenOpen signed p) = IsOpen k
AtFixed k (fixed.WidenComma w) = InWidening k
AtFixed k (fixed.AssertOpen p) = IsOpen k
AtFixed k (fixed.AssertClose z) = InAssert k
AtFixed k (fixed.ExitOpen p) = IsOpen k
AtFixed k (fixed.ExitClose p) = IsOpen k
AtFixed k (fixed.EachOpen p) = IsOpen k
AtFixed k (fixed.EachFrom x p) = IsOpen k
AtFixed k (fixed.EachTo x i p) = IsOpen k
AtFixed k (fixed.EachClose x i j p) = IsOpen k
AtFixed k (fixed.EachBlock x i j p) = IsOpen k
AtFixed k (fixed.LocalEquals b x t) = InBlock k
AtFixed k (fixed.Arrow pt) = InArms k
AtFixed k (fixed.IndexEnd u i) = AtIndex k u

abbrev pub AtAwait : Frames → Await → Type 0
AtAwait k a.Begin = IsText k
AtAwait k a.Definition = IsText k
AtAwait k (a.Fixed w) = AtFixed k w
AtAwait k (a.Name u) = AtName k u
AtAwait k (a.Number c) = AtNumber k c
AtAwait k (a.Type u) = AtType k u
AtAwait k (a.MemberOrEnd h) = IsText k
AtAwait k (a.MoreMembers h) = IsText k
AtAwait k (a.TypeOrEnd h) = IsText k
AtAwait k (a.MoreTypes h) = IsText k
AtAwait k (a.ParamOrEnd h) = IsText k
AtAwait k (a.MoreParams h) = IsText k
AtAwait k a.Want = IsOpen k
AtAwait k a.Operand = IsOpen k
AtAwait k a.Inside = IsOpen k
AtAwait k (a.Statement before) = InBlock k
AtAwait k (a.Named x p) = IsOpen k
AtAwait k (a.Index u) = AtIndex k u
AtAwait k (a.IndexName u x) = AtIndex k u
AtAwait k (a.LocalMore b x) = InBlock k
AtAwait k a.Text = InAssert k
AtAwait k (a.Part ps) = InArms k
AtAwait k (a.PartNamed ps who) = InArms k
AtAwait k (a.MoreParts ps) = InArms k
AtAwait k a.ArmOrEnd = InArms k

abbrev pub IsReached : Frames → Mode → Type 0
IsReached k (awaits w) = AtAwait k w
IsReached k (have x c p) = IsOpen k
IsReached k (whole x) = IsOpen k

abbrev pub Kept : Turn → Type 0
Kept (Ok s) = IsReached s.0 s.1
Kept (Err e) = ⊤

-- ---- turns

pub if_kept : (b : Bool) (t u : Turn) → Kept t → Kept u → Kept (if b then t else u)
if_kept true t u g h = g
if_kept false t u g h = h

pub opened_kept : (k : Frames) (g : Frame) (mode : Mode) (at : ℕ) → IsReached (g ∷ k) mode → Kept (opened k g mode at)
opened_kept k g mode at h = if_kept (has_room k (weight g)) _ _ h tt

pub shallow_kept : (k : Frames) (w : Await) (at : ℕ) → AtAwait k w → Kept (shallow k w at)
shallow_kept k w at h = if_kept (has_room k 1) _ _ h tt

pub text_kept : (k : Frames) (d : Definition) → IsText k → IsText (defined k d)
text_kept (f.program ds ∷ []) d h = tt
text_kept [] d h = absurd h
text_kept (f.program ds ∷ g ∷ k) d h = absurd h
text_kept (g ∷ k) d h = absurd h

pub begins_kept : (kind : Definition → Bool) (k : Frames) (w : Await) (at : ℕ) → AtAwait k w → Kept (begins kind k w at)
begins_kept kind k w at h = if_kept (nat_lt (count kind k) 1024) _ _ h tt

pub first_kept : (k : Frames) (s : Sign) (at : ℕ) → IsText k → Kept (first_word k s at)
first_kept k s at h =
    if_kept (is_keyword kw.Register s) _ _ (begins_kept is_register k (a.Name (naming.Register at)) at h) (if_kept (is_keyword kw.Enum s) _ _ (begins_kept is_enum k (a.Name (naming.Enum at)) at h)
    (if_kept (is_keyword kw.Val s) _ _ h (if_kept (is_keyword kw.Function s) _ _ (begins_kept is_a_function k (a.Name (naming.Function at)) at h) tt)))

pub definition_kept : (k : Frames) (n : Next) → IsText k → Kept (definition k n)
definition_kept k n h = by n.sign
  where
    by : (o : Option Sign) → Kept (definition_by k o n.at)
    by None = h
    by (Some s) = first_kept k s n.at h

pub closed_kept : (k : Frames) (ss : List Step) (p : ℕ) → HoldsBlock k → IsStack k → Kept (closed k ss p)
closed_kept [] ss p holds stack = absurd holds
closed_kept (f.looping x i j q ∷ k) ss p holds stack = stack
closed_kept (g ∷ k) ss p holds stack = (holds, stack)

pub statements_kept : (k : Frames) (ss : List Step) (p : ℕ) (n : Next) → HoldsBlock k → IsStack k → Kept (statements_end k ss p n)
statements_kept k ss p n holds stack = if_kept (meets m.Semicolon n) _ _ (holds, stack) (if_kept (meets m.CloseBrace n) _ _ (closed_kept k ss p holds stack) tt)

pub ends_kept : (k : Frames) (x : Tree) (n : Next) → IsStack k → Kept (ends k x n)
unfolding ends ends_in
ends_kept [] x n stack = tt
ends_kept (f.program ds ∷ k) x n stack = tt
ends_kept (f.body h t ∷ k) x n stack = definition_kept (defined k (function_of h t x)) n (text_kept k (function_of h t x) stack)
ends_kept (f.paren p ∷ k) x n stack = if_kept (meets m.Close n) _ _ stack tt
ends_kept (f.args c xs p ∷ k) x n stack = if_kept (meets m.Comma n) _ _ (tt, stack) (if_kept (meets m.Close n) _ _ stack tt)
ends_kept (f.testing p ∷ k) x n stack = if_kept (meets_keyword kw.Then n) _ _ (tt, stack) tt
ends_kept (f.choosing t p ∷ k) x n stack = if_kept (meets_keyword kw.Else n) _ _ (tt, stack) (ends_kept k (node p (when t x)) n stack.1)
ends_kept (f.otherwise t y p ∷ k) x n stack = ends_kept k (node p (choose t y x)) n stack.1
ends_kept (f.subject p ∷ k) x n stack = if_kept (meets m.OpenBrace n) _ _ (opened_kept k (f.arms x [] p) (awaits (a.Part [])) n.at stack) tt
ends_kept (f.arms y cs p ∷ k) x n stack = tt
ends_kept (f.armed y cs pt p ∷ k) x n stack = if_kept (meets m.Comma n) _ _ stack (if_kept (meets m.CloseBrace n) _ _ stack tt)
ends_kept (f.chained op xs p ∷ k) x n stack = ends_kept k (node p (chain op (trees (xs ++ x ∷ [])))) n stack.1
ends_kept (f.assigning y p ∷ k) x n stack = ends_kept k (node p (assign y x)) n stack.1
ends_kept (f.flipping p ∷ k) x n stack = if_kept (meets m.Close n) _ _ stack tt
ends_kept (f.slicing y c p ∷ k) x n stack = tt
ends_kept (f.updating p ∷ k) x n stack = if_kept (meets_keyword kw.With n) _ _ stack tt
ends_kept (f.indexing y p ∷ k) x n stack = tt
ends_kept (f.replacing y hi lo p ∷ k) x n stack = if_kept (meets m.CloseSquare n) _ _ stack tt
ends_kept (f.widening signed p ∷ k) x n stack = tt
ends_kept (f.widened signed w p ∷ k) x n stack = if_kept (meets m.Close n) _ _ stack tt
ends_kept (f.asserting p ∷ k) x n stack = if_kept (meets m.Comma n) _ _ stack tt
ends_kept (f.asserted y p ∷ k) x n stack = tt
ends_kept (f.looping y i j p ∷ k) x n stack = tt
ends_kept (f.statements ss p ∷ k) x n stack = statements_kept k _ p n stack.0 stack.1
ends_kept (f.binding ss b y t p ∷ k) x n stack = statements_kept k _ p n stack.0 stack.1

pub infix_kept : (k : Frames) (x : Tree) (p : ℕ) (op : Infix) (at : ℕ) → IsOpen k → Kept (infix_after k x p op at)
infix_kept (f.chained before xs q ∷ k) x p op at h = if_kept (same_infix before op) _ _ (if_kept (repeats op) _ _ (tt, h.1) tt) tt
infix_kept [] x p op at h = absurd h.0
infix_kept (g ∷ k) x p op at h = (tt, h)

pub after_kept : (k : Frames) (x : Tree) (c p : ℕ) (n : Next) → IsOpen k → Kept (after k x c p n)
after_kept k x c p n h = by (next_operator n.sign)
  where
    by : (o : Option Infix) → Kept (after_by k x c p n o)
    by None = if_kept (meets m.OpenSquare n) _ _ (opened_kept k (f.slicing x c p) (awaits (a.Index index.High)) n.at h) (ends_kept k x n h.1)
    by (Some op) = infix_kept k x p op n.at h

-- ---- expressions

pub one_word_kept : (k : Frames) (s : Sign) (at : ℕ) → IsOpen k → Kept (one_word k s at)
one_word_kept k (sign.Literal b) at h = h
one_word_kept k (sign.Name x) at h = h
one_word_kept k _ at h = tt

pub keyword_kept : (k : Frames) (w : Word) → IsOpen k → Kept (keyword_word k w)
keyword_kept k w h =
    if_kept (is_keyword kw.True w.sign) _ _ h (if_kept (is_keyword kw.False w.sign) _ _ h (if_kept (is_keyword kw.ZeroExtend w.sign) _ _ h (if_kept (is_keyword kw.SignExtend w.sign) _ _ h
    (if_kept (is_keyword kw.Assert w.sign) _ _ h (if_kept (is_keyword kw.Exit w.sign) _ _ h (one_word_kept k w.sign w.at h))))))

pub operand_kept : (k : Frames) (w : Word) → IsOpen k → Kept (operand_word k w)
operand_kept k w h =
    if_kept (is_mark m.Open w.sign) _ _ (opened_kept k (f.paren w.at) (awaits a.Inside) w.at (tt, h)) (if_kept (is_mark m.OpenBrace w.sign) _ _ (opened_kept k (f.statements [] w.at) (awaits (a.Statement None)) w.at (block k h))
    (if_kept (is_mark m.OpenSquare w.sign) _ _ (opened_kept k (f.updating w.at) (awaits a.Want) w.at (tt, h)) (if_kept (is_mark m.Tilde w.sign) _ _ h (keyword_kept k w h))))
  where
    block : (k : Frames) → IsOpen k → HoldsBlock k × IsStack k
    block [] h = absurd h.0
    block (f.looping x i j p ∷ k) h = absurd h.0
    block (g ∷ k) h = h

pub want_kept : (k : Frames) (w : Word) → IsOpen k → Kept (want k w)
want_kept k w h =
    if_kept (is_keyword kw.If w.sign) _ _ (opened_kept k (f.testing w.at) (awaits a.Want) w.at (tt, h)) (if_kept (is_keyword kw.Match w.sign) _ _ (opened_kept k (f.subject w.at) (awaits a.Want) w.at (tt, h))
    (if_kept (is_keyword kw.Foreach w.sign) _ _ h (operand_kept k w h)))

pub closes_kept : (k : Frames) (at : ℕ) → IsOpen k → Kept (closes k at)
closes_kept (f.paren p ∷ k) at h = h.1
closes_kept (f.args c xs p ∷ k) at h = h.1
closes_kept [] at h = tt
closes_kept (g ∷ k) at h = tt

pub block_kept : (k : Frames) (before : Option ℕ) (at : ℕ) → InBlock k → Kept (block_closes k before at)
block_kept (f.statements ss p ∷ k) before at h = closed_kept k _ p h.0 h.1
block_kept [] before at h = tt
block_kept (g ∷ k) before at h = tt

pub open_block : (k : Frames) → InBlock k → IsOpen k
open_block (f.statements ss p ∷ k) h = (tt, h)
open_block [] h = absurd h
open_block (g ∷ k) h = absurd h

pub assigns_kept : (k : Frames) (x : Text) (p at : ℕ) → IsOpen k → Kept (assigns k x p at)
assigns_kept (f.chained op xs q ∷ k) x p at h = tt
assigns_kept [] x p at h = absurd h.0
assigns_kept (g ∷ k) x p at h = opened_kept (g ∷ k) (f.assigning x p) (awaits a.Want) p (tt, h)

pub binds_kept : (k : Frames) (b : Binder) (x : Text) (t : Option Ty) (at : ℕ) → InBlock k → Kept (binds_local k b x t at)
binds_kept (f.statements ss p ∷ k) b x t at h = (tt, h)
binds_kept [] b x t at h = tt
binds_kept (g ∷ k) b x t at h = tt

pub arms_with_kept : (k : Frames) (pt : Pattern) (at : ℕ) → InArms k → Kept (arms_with k pt at)
arms_with_kept (f.arms x cs p ∷ k) pt at h = (tt, h)
arms_with_kept [] pt at h = tt
arms_with_kept (g ∷ k) pt at h = tt

-- ---- types, names, numbers, indices

pub typed_kept : (k : Frames) (u : TypeUse) (t : Ty) → AtType k u → Kept (typed k u t)
typed_kept k (typing.Argument h) t here = here
typed_kept k (typing.Answer h) t here = text_kept k (signature h.name h.args t h.at) here
typed_kept k (typing.Param h x) t here = here
typed_kept k (typing.Returned h) t here = here
typed_kept k (typing.Local b x) t here = here

pub type_kept : (k : Frames) (u : TypeUse) (s : Sign) (at : ℕ) → AtType k u → Kept (type_word k u s at)
type_kept k u (sign.Name x) at h = typed_kept k u (ty.Enum x) h
type_kept k u (sign.Keyword word) at h =
    if_kept (is_keyword kw.Bits (sign.Keyword word)) _ _ h (if_kept (is_keyword kw.Bool (sign.Keyword word)) _ _ (typed_kept k u ty.Bool h) (if_kept (is_keyword kw.Unit (sign.Keyword word)) _ _ (typed_kept k u ty.Unit h) tt))
type_kept k u _ at h = tt

pub called_kept : (k : Frames) (u : Naming) (x : Text) → AtName k u → Kept (called k u x)
called_kept k (naming.Register p) x h = h
called_kept k (naming.Enum p) x h = h
called_kept k (naming.Val p) x h = h
called_kept k (naming.Function p) x h = h
called_kept k (naming.Member e) x h = h
called_kept k (naming.Param e) x h = h
called_kept k (naming.Each p) x h = h
called_kept k (naming.Local b) x h = h

pub name_kept : (k : Frames) (u : Naming) (s : Sign) (at : ℕ) → AtName k u → Kept (name_word k u s at)
name_kept k u (sign.Name x) at h = called_kept k u x h
name_kept k u _ at h = tt

pub counted_kept : (k : Frames) (c : Counting) (n : ℕ) → AtNumber k c → AtFixed k (counted c n)
counted_kept k (counting.Width (sized.Register x p)) n h = h
counted_kept k (counting.Width (sized.Type u)) n h = h
counted_kept k (counting.Width (sized.Part ps who)) n h = h
counted_kept k (counting.Width sized.Widening) n h = h
counted_kept k (counting.First x p) n h = h
counted_kept k (counting.Last x i p) n h = h
counted_kept k (counting.Plus u x) n h = h

pub number_kept : (k : Frames) (c : Counting) (s : Sign) (at : ℕ) → AtNumber k c → Kept (number_word k c s at)
number_kept k c (sign.Number n) at h = if_kept (may_be c n) _ _ (counted_kept k c n h) tt
number_kept k c _ at h = tt

pub index_kept : (k : Frames) (u : IndexUse) (s : Sign) (at : ℕ) → AtIndex k u → Kept (index_word k u s at)
index_kept k u (sign.Number i) at h = if_kept (nat_le i 127) _ _ h tt
index_kept k u (sign.Name x) at h = h
index_kept k u _ at h = tt

pub slices_kept : (k : Frames) (hi lo : Index) (at : ℕ) → InSlice k → Kept (slices k hi lo at)
slices_kept (f.slicing x c p ∷ k) hi lo at h = h
slices_kept [] hi lo at h = tt
slices_kept (g ∷ k) hi lo at h = tt

pub replaces_kept : (k : Frames) (hi lo : Index) (at : ℕ) → InUpdate k → Kept (replaces k hi lo at)
replaces_kept (f.indexing x p ∷ k) hi lo at h = (tt, h)
replaces_kept [] hi lo at h = tt
replaces_kept (g ∷ k) hi lo at h = tt

pub indexed_kept : (k : Frames) (u : IndexUse) (i : Index) (at : ℕ) → AtIndex k u → Kept (indexed k u i at)
indexed_kept k index.High i at h = h
indexed_kept k (index.Low hi) i at h = slices_kept k hi i at h
indexed_kept k index.WithHigh i at h = h
indexed_kept k (index.WithLow hi) i at h = replaces_kept k hi i at h

pub sized_kept : (k : Frames) (z : Sized) (w : ℕ) → AtWidth k z → Kept (sized_by k z w)
sized_kept k (sized.Register x p) w h = text_kept k (register x w p) h
sized_kept k (sized.Type u) w h = typed_kept k u (ty.Bits w) h
sized_kept k (sized.Part ps (Some x)) w h = h
sized_kept k (sized.Part ps None) w h = h
sized_kept k sized.Widening w h = h

pub widens_kept : (k : Frames) (w at : ℕ) → InWidening k → Kept (widens k w at)
widens_kept (f.widening signed p ∷ k) w at h = (tt, h)
widens_kept [] w at h = tt
widens_kept (g ∷ k) w at h = tt

pub asserts_kept : (k : Frames) (z : Text) (at : ℕ) → InAssert k → Kept (asserts k z at)
asserts_kept (f.asserted x p ∷ k) z at h = h
asserts_kept [] z at h = tt
asserts_kept (g ∷ k) z at h = tt
