-- Fixed words, names, numbers and types: what each leads to.
use Rattle.std.specs.Prelude.{ℕ, zero, suc, Bool, true, false, if◌then◌else◌, nat_le, List, [], ◌∷◌, ◌++◌, Option, Some, None, Result, Ok, Err}
use Rattle.bv_bits.specs.Bits.{is_width}
use Rattle.sail_syntax.specs.Tree.{Text, Tree, node, slice, check, exit}
use Rattle.sail_syntax.specs.Program.{order, register, enumeration, signature}
use Rattle.sail_syntax.specs.declared.tree.Index.{Index}
use Rattle.sail_syntax.specs.declared.types.Ty.{Ty}
use Rattle.sail_syntax.specs.declared.types.Ty.TheVariants as ty
use Rattle.sail_syntax.specs.declared.patterns.Part.{Part}
use Rattle.sail_syntax.specs.declared.patterns.Part.TheVariants as part
use Rattle.sail_syntax.specs.declared.patterns.Pattern.{Pattern}
use Rattle.sail_grammar.specs.declared.keyword.Keyword.TheVariants as kw
use Rattle.sail_grammar.specs.declared.mark.Mark.TheVariants as m
use Rattle.sail_grammar.specs.declared.word.Sign.{Sign}
use Rattle.sail_grammar.specs.declared.word.Sign.TheVariants as sign
use Rattle.sail_machine.specs.declared.heads.Binder.{Binder}
use Rattle.sail_machine.specs.declared.heads.EnumHead.{EnumHead}
use Rattle.sail_machine.specs.declared.heads.ValHead.{ValHead}
use Rattle.sail_machine.specs.declared.heads.FunctionHead.{FunctionHead}
use Rattle.sail_machine.specs.declared.awaited.Await.TheVariants as a
use Rattle.sail_machine.specs.declared.awaited.Fixed.{Fixed}
use Rattle.sail_machine.specs.declared.awaited.Fixed.TheVariants as fixed
use Rattle.sail_machine.specs.declared.awaited.Naming.{Naming}
use Rattle.sail_machine.specs.declared.awaited.Naming.TheVariants as naming
use Rattle.sail_machine.specs.declared.awaited.Counting.{Counting}
use Rattle.sail_machine.specs.declared.awaited.Counting.TheVariants as counting
use Rattle.sail_machine.specs.declared.awaited.Sized.{Sized}
use Rattle.sail_machine.specs.declared.awaited.Sized.TheVariants as sized
use Rattle.sail_machine.specs.declared.awaited.TypeUse.{TypeUse}
use Rattle.sail_machine.specs.declared.awaited.TypeUse.TheVariants as typing
use Rattle.sail_machine.specs.declared.awaited.IndexUse.{IndexUse}
use Rattle.sail_machine.specs.declared.awaited.IndexUse.TheVariants as index
use Rattle.sail_machine.specs.Frames.{Frames, awaits, have, body, arms, armed, flipping, slicing, indexing, replacing, widening, widened, asserting, asserted, looping, statements, binding}
use Rattle.sail_machine.specs.Signs.{is_keyword, is_mark}
use Rattle.sail_machine.specs.Turns.{Turn, unexpected, goes, fixes, opened, shallow, defined, operand}

-- ---- types

-- one argument type more
abbrev pub with_type : ValHead → Ty → ValHead
with_type h t = record { name = h.name; args = h.args ++ t ∷ []; at = h.at }

-- one parameter more
abbrev pub with_param : FunctionHead → Text → Ty → FunctionHead
with_param h x t = record { name = h.name; params = h.params ++ record { name = x; ty = t } ∷ []; at = h.at }

-- one member more
abbrev pub with_member : EnumHead → Text → EnumHead
with_member h x = record { name = h.name; members = h.members ++ x ∷ []; at = h.at }

-- a type was read
abbrev pub typed : Frames → TypeUse → Ty → Turn
typed k (typing.Argument h) t = goes k (a.MoreTypes (with_type h t))
typed k (typing.Answer h) t = goes (defined k (signature h.name h.args t h.at)) a.Definition
typed k (typing.Param h x) t = goes k (a.MoreParams (with_param h x t))
typed k (typing.Returned h) t = fixes k (fixed.FunctionEquals h t)
typed k (typing.Local b x) t = fixes k (fixed.LocalEquals b x t)

-- the first word of a type
abbrev pub type_word : Frames → TypeUse → Sign → ℕ → Turn
type_word k u (sign.Name x) at = typed k u (ty.Enum x)
type_word k u s at =
    if is_keyword kw.Bits s then fixes k (fixed.BitsOpen (sized.Type u))
    else if is_keyword kw.Bool s then typed k u ty.Bool
    else if is_keyword kw.Unit s then typed k u ty.Unit
    else unexpected at

-- ---- names

-- a name was read, at the place
abbrev pub called : Frames → Naming → Text → Turn
called k (naming.Register p) x = fixes k (fixed.RegisterColon x p)
called k (naming.Enum p) x = fixes k (fixed.EnumEquals x p)
called k (naming.Val p) x = fixes k (fixed.ValColon x p)
called k (naming.Function p) x = fixes k (fixed.FunctionOpen x p)
called k (naming.Member h) x = goes k (a.MoreMembers (with_member h x))
called k (naming.Param h) x = fixes k (fixed.ParamColon h x)
called k (naming.Each p) x = fixes k (fixed.EachFrom x p)
called k (naming.Local b) x = goes k (a.LocalMore b x)

-- a word where a name is awaited
abbrev pub name_word : Frames → Naming → Sign → ℕ → Turn
name_word k u (sign.Name x) at = called k u x
name_word k u s at = unexpected at

-- ---- numbers

-- whether a number may stand there
abbrev pub may_be : Counting → ℕ → Bool
may_be (counting.Width u) n = is_width n
may_be (counting.First x p) n = nat_le n 127
may_be (counting.Last x i p) n = nat_le n 127
may_be (counting.Plus u x) n = nat_le n 127

-- what a width stands before
abbrev pub width_end : Sized → ℕ → Fixed
width_end (sized.Register x p) w = fixed.BitsClose (sized.Register x p) w
width_end (sized.Type u) w = fixed.BitsClose (sized.Type u) w
width_end (sized.Part ps who) w = fixed.BitsClose (sized.Part ps who) w
width_end sized.Widening w = fixed.WidenComma w

-- a variable of an index, and what is added to it
abbrev pub sum_of : Text → ℕ → Index
sum_of x i = record { var = Some x; plus = i }

-- a number was read
abbrev pub counted : Counting → ℕ → Fixed
counted (counting.Width u) n = width_end u n
counted (counting.First x p) n = fixed.EachTo x n p
counted (counting.Last x i p) n = fixed.EachClose x i n p
counted (counting.Plus u x) n = fixed.IndexEnd u (sum_of x n)

-- a word where a number is awaited
abbrev pub number_word : Frames → Counting → Sign → ℕ → Turn
number_word k c (sign.Number n) at = if may_be c n then fixes k (counted c n) else unexpected at
number_word k c s at = unexpected at

-- ---- fixed words

-- the word that ends an index
abbrev pub index_end : IndexUse → Sign
index_end index.High = sign.Mark m.Dots
index_end (index.Low hi) = sign.Mark m.CloseSquare
index_end index.WithHigh = sign.Mark m.Dots
index_end (index.WithLow hi) = sign.Mark m.Equals

-- which word comes next
abbrev pub awaited : Fixed → Sign
awaited fixed.OrderWord = sign.Keyword kw.Order
awaited fixed.OrderEnd = sign.Keyword kw.Dec
awaited (fixed.RegisterColon x p) = sign.Mark m.Colon
awaited (fixed.BitsWord u) = sign.Keyword kw.Bits
awaited (fixed.BitsOpen u) = sign.Mark m.Open
awaited (fixed.BitsClose u w) = sign.Mark m.Close
awaited (fixed.EnumEquals x p) = sign.Mark m.Equals
awaited (fixed.EnumOpen x p) = sign.Mark m.OpenBrace
awaited (fixed.ValColon x p) = sign.Mark m.Colon
awaited (fixed.ValOpen x p) = sign.Mark m.Open
awaited (fixed.ValArrow h) = sign.Mark m.Arrow
awaited (fixed.FunctionOpen x p) = sign.Mark m.Open
awaited (fixed.ParamColon h x) = sign.Mark m.Colon
awaited (fixed.FunctionArrow h) = sign.Mark m.Arrow
awaited (fixed.FunctionEquals h t) = sign.Mark m.Equals
awaited (fixed.FlipOpen p) = sign.Mark m.Open
awaited (fixed.WidenOpen signed p) = sign.Mark m.Open
awaited (fixed.WidenComma w) = sign.Mark m.Comma
awaited (fixed.AssertOpen p) = sign.Mark m.Open
awaited (fixed.AssertClose z) = sign.Mark m.Close
awaited (fixed.ExitOpen p) = sign.Mark m.Open
awaited (fixed.ExitClose p) = sign.Mark m.Close
awaited (fixed.EachOpen p) = sign.Mark m.Open
awaited (fixed.EachFrom x p) = sign.Keyword kw.From
awaited (fixed.EachTo x i p) = sign.Keyword kw.To
awaited (fixed.EachClose x i j p) = sign.Mark m.Close
awaited (fixed.EachBlock x i j p) = sign.Mark m.OpenBrace
awaited (fixed.LocalEquals b x t) = sign.Mark m.Equals
awaited (fixed.Arrow pattern) = sign.Mark m.FatArrow
awaited (fixed.IndexEnd u i) = index_end u

-- whether a sign is the fixed one
abbrev pub is_sign : Sign → Sign → Bool
is_sign (sign.Keyword word) s = is_keyword word s
is_sign (sign.Mark which) s = is_mark which s
is_sign (sign.Name x) s = false
is_sign (sign.Number n) s = false
is_sign (sign.Literal b) s = false
is_sign (sign.Text z) s = false
is_sign (sign.Operator op) s = false

-- a width in brackets was read
abbrev pub sized_by : Frames → Sized → ℕ → Turn
sized_by k (sized.Register x p) w = goes (defined k (register x w p)) a.Definition
sized_by k (sized.Type u) w = typed k u (ty.Bits w)
sized_by k (sized.Part ps (Some x)) w = goes k (a.MoreParts (ps ++ part.Bind x w ∷ []))
sized_by k (sized.Part ps None) w = goes k (a.MoreParts (ps ++ part.Skip w ∷ []))
sized_by k sized.Widening w = fixes k (fixed.WidenComma w)

-- the widened expression comes next
abbrev pub widens : Frames → ℕ → ℕ → Turn
widens (widening signed p ∷ k) w at = Ok (widened signed w p ∷ k, awaits a.Want)
widens k w at = unexpected at

-- an assert was read
abbrev pub asserts : Frames → Text → ℕ → Turn
asserts (asserted test p ∷ k) z at = operand k p (node p (check test z))
asserts k z at = unexpected at

-- the value of a local comes next
abbrev pub binds_local : Frames → Binder → Text → Option Ty → ℕ → Turn
binds_local (statements ss p ∷ k) b x t at = Ok (binding ss b x t p ∷ k, awaits a.Want)
binds_local k b x t at = unexpected at

-- the body of an arm comes next
abbrev pub arms_with : Frames → Pattern → ℕ → Turn
arms_with (arms x cs p ∷ k) pattern at = Ok (armed x cs pattern p ∷ k, awaits a.Want)
arms_with k pattern at = unexpected at

-- a slice was read
abbrev pub slices : Frames → Index → Index → ℕ → Turn
slices (slicing x c p ∷ k) hi lo at = Ok (k, have (node p (slice x hi lo)) (suc c) p)
slices k hi lo at = unexpected at

-- what replaces the bits comes next
abbrev pub replaces : Frames → Index → Index → ℕ → Turn
replaces (indexing x p ∷ k) hi lo at = Ok (replacing x hi lo p ∷ k, awaits a.Want)
replaces k hi lo at = unexpected at

-- an index was read
abbrev pub indexed : Frames → IndexUse → Index → ℕ → Turn
indexed k index.High i at = goes k (a.Index (index.Low i))
indexed k (index.Low hi) lo at = slices k hi lo at
indexed k index.WithHigh i at = goes k (a.Index (index.WithLow i))
indexed k (index.WithLow hi) lo at = replaces k hi lo at

-- a foreach, whose block begins at the place
abbrev pub loops : Frames → Text → ℕ → ℕ → ℕ → ℕ → Turn
loops k x i j p at = opened (looping x i j p ∷ k) (statements [] at) (awaits (a.Statement None)) at

-- a fixed word of the head of a definition, or of a type, stands at the place
abbrev pub behind_head : Frames → Fixed → ℕ → Turn
behind_head k fixed.OrderWord at = fixes k fixed.OrderEnd
behind_head k fixed.OrderEnd at = goes (defined k order) a.Definition
behind_head k (fixed.RegisterColon x p) at = fixes k (fixed.BitsWord (sized.Register x p))
behind_head k (fixed.BitsWord u) at = fixes k (fixed.BitsOpen u)
behind_head k (fixed.BitsOpen u) at = shallow k (a.Number (counting.Width u)) at
behind_head k (fixed.BitsClose u w) at = sized_by k u w
behind_head k (fixed.EnumEquals x p) at = fixes k (fixed.EnumOpen x p)
behind_head k (fixed.EnumOpen x p) at = goes k (a.Name (naming.Member (record { name = x; members = []; at = p })))
behind_head k (fixed.ValColon x p) at = fixes k (fixed.ValOpen x p)
behind_head k (fixed.ValOpen x p) at = goes k (a.TypeOrEnd (record { name = x; args = []; at = p }))
behind_head k (fixed.ValArrow h) at = goes k (a.Type (typing.Answer h))
behind_head k (fixed.FunctionOpen x p) at = goes k (a.ParamOrEnd (record { name = x; params = []; at = p }))
behind_head k (fixed.ParamColon h x) at = goes k (a.Type (typing.Param h x))
behind_head k (fixed.FunctionArrow h) at = goes k (a.Type (typing.Returned h))
behind_head k (fixed.FunctionEquals h t) at = Ok (body h t ∷ k, awaits a.Want)
behind_head k f at = unexpected at

-- the fixed word stands at the place
abbrev pub behind : Frames → Fixed → ℕ → Turn
behind k (fixed.FlipOpen p) at = opened k (flipping p) (awaits a.Want) at
behind k (fixed.WidenOpen signed p) at = opened k (widening signed p) (awaits (a.Number (counting.Width sized.Widening))) at
behind k (fixed.WidenComma w) at = widens k w at
behind k (fixed.AssertOpen p) at = opened k (asserting p) (awaits a.Want) at
behind k (fixed.AssertClose z) at = asserts k z at
behind k (fixed.ExitOpen p) at = shallow k (a.Fixed (fixed.ExitClose p)) at
behind k (fixed.ExitClose p) at = operand k p (node p exit)
behind k (fixed.EachOpen p) at = shallow k (a.Name (naming.Each p)) at
behind k (fixed.EachFrom x p) at = goes k (a.Number (counting.First x p))
behind k (fixed.EachTo x i p) at = goes k (a.Number (counting.Last x i p))
behind k (fixed.EachClose x i j p) at = fixes k (fixed.EachBlock x i j p)
behind k (fixed.EachBlock x i j p) at = loops k x i j p at
behind k (fixed.LocalEquals b x t) at = binds_local k b x (Some t) at
behind k (fixed.Arrow pattern) at = arms_with k pattern at
behind k (fixed.IndexEnd u i) at = indexed k u i at
behind k f at = behind_head k f at

-- a word where a fixed one is awaited
abbrev pub fixed_word : Frames → Fixed → Sign → ℕ → Turn
fixed_word k f s at = if is_sign (awaited f) s then behind k f at else unexpected at
