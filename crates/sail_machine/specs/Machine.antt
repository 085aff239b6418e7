-- The machine: what each word does, by what comes next.
use Rattle.std.specs.Prelude.{ℕ, zero, suc, Bool, true, false, if◌then◌else◌, ◌&&◌, nat_le, List, [], ◌∷◌, ◌++◌, Option, Some, None, Result, Ok, Err}
use Rattle.std.specs.List.{list_all}
use Rattle.sail_syntax.specs.Tree.{Text, Tree, node, unit, lit, truth, name, call, none, cases, Step, does}
use Rattle.sail_syntax.specs.View.{trees, cases_of}
use Rattle.sail_syntax.specs.Program.{enumeration}
use Rattle.sail_syntax.specs.declared.tree.Infix.TheVariants as between
use Rattle.sail_syntax.specs.declared.patterns.Part.{Part}
use Rattle.sail_syntax.specs.declared.patterns.Part.TheVariants as part
use Rattle.sail_syntax.specs.declared.patterns.Pattern.{Pattern}
use Rattle.sail_syntax.specs.declared.patterns.Pattern.TheVariants as pattern
use Rattle.sail_grammar.specs.declared.keyword.Keyword.TheVariants as kw
use Rattle.sail_grammar.specs.declared.mark.Mark.TheVariants as m
use Rattle.sail_grammar.specs.declared.word.Sign.{Sign}
use Rattle.sail_grammar.specs.declared.word.Sign.TheVariants as sign
use Rattle.sail_grammar.specs.declared.word.Word.{Word}
use Rattle.sail_machine.specs.declared.fault.Flaw.TheVariants as flaw
use Rattle.sail_machine.specs.declared.heads.Binder.{Binder}
use Rattle.sail_machine.specs.declared.heads.Binder.TheVariants as binder
use Rattle.sail_machine.specs.declared.heads.EnumHead.{EnumHead}
use Rattle.sail_machine.specs.declared.heads.ValHead.{ValHead}
use Rattle.sail_machine.specs.declared.heads.FunctionHead.{FunctionHead}
use Rattle.sail_machine.specs.declared.awaited.Await.{Await}
use Rattle.sail_machine.specs.declared.awaited.Await.TheVariants as a
use Rattle.sail_machine.specs.declared.awaited.Fixed.TheVariants as fixed
use Rattle.sail_machine.specs.declared.awaited.Naming.TheVariants as naming
use Rattle.sail_machine.specs.declared.awaited.Counting.TheVariants as counting
use Rattle.sail_machine.specs.declared.awaited.Sized.TheVariants as sized
use Rattle.sail_machine.specs.declared.awaited.TypeUse.TheVariants as typing
use Rattle.sail_machine.specs.declared.awaited.IndexUse.{IndexUse}
use Rattle.sail_machine.specs.Frames.{Frame, Frames, Mode, awaits, have, whole, paren, args, testing, subject, arms, chained, assigning, updating, statements}
use Rattle.sail_machine.specs.Signs.{is_keyword, is_mark, is_operator, next_word, at_end}
use Rattle.sail_machine.specs.Turns.{Turn, fails, unexpected, goes, fixes, opened, has_room, defined, definition, operand, closed, ends, after}
use Rattle.sail_machine.specs.Headers.{type_word, name_word, number_word, fixed_word, binds_local, arms_with}

-- ---- definitions

-- the first word of a text
abbrev pub begin : Frames → Word → Turn
begin k w = if is_keyword kw.Default w.sign then fixes k fixed.OrderWord else definition k (next_word w)

-- an enum ends
abbrev pub enum_ends : Frames → EnumHead → Turn
enum_ends k h = goes (defined k (enumeration h.name h.members h.at)) a.Definition

abbrev pub member_or_end : Frames → EnumHead → Word → Turn
member_or_end k h w = if is_mark m.CloseBrace w.sign then enum_ends k h else name_word k (naming.Member h) w.sign w.at

abbrev pub more_members : Frames → EnumHead → Word → Turn
more_members k h w =
    if is_mark m.Comma w.sign then goes k (a.MemberOrEnd h)
    else if is_mark m.CloseBrace w.sign then enum_ends k h
    else unexpected w.at

abbrev pub type_or_end : Frames → ValHead → Word → Turn
type_or_end k h w = if is_mark m.Close w.sign then fixes k (fixed.ValArrow h) else type_word k (typing.Argument h) w.sign w.at

abbrev pub more_types : Frames → ValHead → Word → Turn
more_types k h w =
    if is_mark m.Comma w.sign then goes k (a.Type (typing.Argument h))
    else if is_mark m.Close w.sign then fixes k (fixed.ValArrow h)
    else unexpected w.at

abbrev pub param_or_end : Frames → FunctionHead → Word → Turn
param_or_end k h w = if is_mark m.Close w.sign then fixes k (fixed.FunctionArrow h) else name_word k (naming.Param h) w.sign w.at

abbrev pub more_params : Frames → FunctionHead → Word → Turn
more_params k h w =
    if is_mark m.Comma w.sign then goes k (a.Name (naming.Param h))
    else if is_mark m.Close w.sign then fixes k (fixed.FunctionArrow h)
    else unexpected w.at

-- ---- expressions

-- an operand that is one word, or begins with a name
abbrev pub one_word : Frames → Sign → ℕ → Turn
one_word k (sign.Literal b) at = operand k at (node at (lit b))
one_word k (sign.Name x) at = goes k (a.Named x at)
one_word k s at = unexpected at

-- an operand that begins with a quoted word, or is one word
abbrev pub keyword_word : Frames → Word → Turn
keyword_word k w =
    if is_keyword kw.True w.sign then operand k w.at (node w.at (truth true))
    else if is_keyword kw.False w.sign then operand k w.at (node w.at (truth false))
    else if is_keyword kw.ZeroExtend w.sign then fixes k (fixed.WidenOpen false w.at)
    else if is_keyword kw.SignExtend w.sign then fixes k (fixed.WidenOpen true w.at)
    else if is_keyword kw.Assert w.sign then fixes k (fixed.AssertOpen w.at)
    else if is_keyword kw.Exit w.sign then fixes k (fixed.ExitOpen w.at)
    else one_word k w.sign w.at

-- the first word of an operand
abbrev pub operand_word : Frames → Word → Turn
operand_word k w =
    if is_mark m.Open w.sign then opened k (paren w.at) (awaits a.Inside) w.at
    else if is_mark m.OpenBrace w.sign then opened k (statements [] w.at) (awaits (a.Statement None)) w.at
    else if is_mark m.OpenSquare w.sign then opened k (updating w.at) (awaits a.Want) w.at
    else if is_mark m.Tilde w.sign then fixes k (fixed.FlipOpen w.at)
    else keyword_word k w

-- the first word of an expression
abbrev pub want : Frames → Word → Turn
want k w =
    if is_keyword kw.If w.sign then opened k (testing w.at) (awaits a.Want) w.at
    else if is_keyword kw.Match w.sign then opened k (subject w.at) (awaits a.Want) w.at
    else if is_keyword kw.Foreach w.sign then fixes k (fixed.EachOpen w.at)
    else operand_word k w

-- nothing stands in the bracket
abbrev pub closes : Frames → ℕ → Turn
closes (paren p ∷ k) at = operand k p (node p unit)
closes (args f xs p ∷ k) at = operand k p (node p (call f (trees xs)))
closes k at = unexpected at

-- an expression, or the bracket
abbrev pub inside : Frames → Word → Turn
inside k w = if is_mark m.Close w.sign then closes k w.at else want k w

-- the statement for which a `;` in front of the brace stands
abbrev pub one_more : Option ℕ → List Step
one_more None = []
one_more (Some p) = does (node p unit) ∷ []

-- the brace of a block
abbrev pub block_closes : Frames → Option ℕ → ℕ → Turn
block_closes (statements ss p ∷ k) before at = closed k (ss ++ one_more before) p
block_closes k before at = unexpected at

-- a statement, or the brace
abbrev pub statement : Frames → Option ℕ → Word → Turn
statement k before w =
    if is_mark m.CloseBrace w.sign then block_closes k before w.at
    else if is_keyword kw.Let w.sign then goes k (a.Name (naming.Local binder.Let))
    else if is_keyword kw.Var w.sign then goes k (a.Name (naming.Local binder.Var))
    else want k w

-- an assignment, which begins with its name, at p; it is no operand of a chain
abbrev pub assigns : Frames → Text → ℕ → ℕ → Turn
assigns (chained op xs q ∷ k) x p at = unexpected at
assigns k x p at = opened k (assigning x p) (awaits a.Want) p

-- what follows a name at p
abbrev pub named : Frames → Text → ℕ → Word → Turn
named k x p w =
    if is_mark m.Open w.sign then opened k (args x [] p) (awaits a.Inside) w.at
    else if is_mark m.Equals w.sign then assigns k x p w.at
    else after k (node p (name x)) 0 p (next_word w)

-- ---- indices, locals, texts

-- an index
abbrev pub index_word : Frames → IndexUse → Sign → ℕ → Turn
index_word k u (sign.Number i) at = if nat_le i 127 then fixes k (fixed.IndexEnd u (record { var = None; plus = i })) else unexpected at
index_word k u (sign.Name x) at = goes k (a.IndexName u x)
index_word k u s at = unexpected at

-- what follows the name of an index
abbrev pub index_name : Frames → IndexUse → Text → Word → Turn
index_name k u x w =
    if is_operator between.Add w.sign then goes k (a.Number (counting.Plus u x))
    else fixed_word k (fixed.IndexEnd u (record { var = Some x; plus = 0 })) w.sign w.at

-- what follows the name of a local
abbrev pub local_more : Frames → Binder → Text → Word → Turn
local_more k b x w =
    if is_mark m.Colon w.sign then goes k (a.Type (typing.Local b x))
    else if is_mark m.Equals w.sign then binds_local k b x None w.at
    else unexpected w.at

-- the text of an assert
abbrev pub text_word : Frames → Sign → ℕ → Turn
text_word k (sign.Text z) at = fixes k (fixed.AssertClose z)
text_word k s at = unexpected at

-- ---- patterns

-- `true` or `false`, which is no part among others
abbrev pub truth_alone : Frames → List Part → Bool → ℕ → Turn
truth_alone k [] b at = fixes k (fixed.Arrow (pattern.Truth b))
truth_alone k (q ∷ ps) b at = unexpected at

-- the first word of a part
abbrev pub part_word : Frames → List Part → Sign → ℕ → Turn
part_word k ps (sign.Literal b) at = goes k (a.MoreParts (ps ++ part.Lit b ∷ []))
part_word k ps (sign.Name x) at = goes k (a.PartNamed ps (Some x))
part_word k ps s at =
    if is_keyword kw.Wildcard s then goes k (a.PartNamed ps None)
    else if is_keyword kw.True s then truth_alone k ps true at
    else if is_keyword kw.False s then truth_alone k ps false at
    else unexpected at

-- a name, or `_`, as a pattern
abbrev pub pattern_named : Option Text → Pattern
pattern_named (Some x) = pattern.Name x
pattern_named None = pattern.Any

-- such a pattern, which is no part among others
abbrev pub name_alone : Frames → List Part → Option Text → ℕ → Turn
name_alone k [] who at = arms_with k (pattern_named who) at
name_alone k (q ∷ ps) who at = unexpected at

-- what follows a name, or `_`, in a pattern
abbrev pub part_named : Frames → List Part → Option Text → Word → Turn
part_named k ps who w =
    if is_mark m.Colon w.sign then fixes k (fixed.BitsWord (sized.Part ps who))
    else if is_mark m.FatArrow w.sign then name_alone k ps who w.at
    else unexpected w.at

-- one part as a pattern: a literal
abbrev pub one_part : Frames → Part → ℕ → Turn
one_part k (part.Lit b) at = arms_with k (pattern.Lit b) at
one_part k (part.Bind x w) at = unexpected at
one_part k (part.Skip w) at = unexpected at

-- parts as a pattern: one literal, or two parts or more
abbrev pub parts_alone : Frames → List Part → ℕ → Turn
parts_alone k [] at = unexpected at
parts_alone k (p ∷ []) at = one_part k p at
parts_alone k (p ∷ q ∷ ps) at = arms_with k (pattern.Parts (p ∷ q ∷ ps)) at

-- what follows parts
abbrev pub more_parts : Frames → List Part → Word → Turn
more_parts k ps w =
    if is_operator between.Join w.sign then goes k (a.Part ps)
    else if is_mark m.FatArrow w.sign then parts_alone k ps w.at
    else unexpected w.at

-- the brace of a match behind a last `,`
abbrev pub arms_close : Frames → ℕ → Turn
arms_close (arms x cs p ∷ k) at = Ok (k, whole (node p (cases x (cases_of cs))))
arms_close k at = unexpected at

-- an arm, or the brace
abbrev pub arm_or_end : Frames → Word → Turn
arm_or_end k w = if is_mark m.CloseBrace w.sign then arms_close k w.at else part_word k [] w.sign w.at

-- ---- all of them

-- where no expression has just ended
abbrev pub step_await : Frames → Await → Word → Turn
step_await k a.Begin w = begin k w
step_await k a.Definition w = definition k (next_word w)
step_await k (a.Fixed f) w = fixed_word k f w.sign w.at
step_await k (a.Name u) w = name_word k u w.sign w.at
step_await k (a.Number c) w = number_word k c w.sign w.at
step_await k (a.Type u) w = type_word k u w.sign w.at
step_await k (a.MemberOrEnd h) w = member_or_end k h w
step_await k (a.MoreMembers h) w = more_members k h w
step_await k (a.TypeOrEnd h) w = type_or_end k h w
step_await k (a.MoreTypes h) w = more_types k h w
step_await k (a.ParamOrEnd h) w = param_or_end k h w
step_await k (a.MoreParams h) w = more_params k h w
step_await k a.Want w = want k w
step_await k a.Operand w = operand_word k w
step_await k a.Inside w = inside k w
step_await k (a.Statement before) w = statement k before w
step_await k (a.Named x p) w = named k x p w
step_await k (a.Index u) w = index_word k u w.sign w.at
step_await k (a.IndexName u x) w = index_name k u x w
step_await k (a.LocalMore b x) w = local_more k b x w
step_await k a.Text w = text_word k w.sign w.at
step_await k (a.Part ps) w = part_word k ps w.sign w.at
step_await k (a.PartNamed ps who) w = part_named k ps who w
step_await k (a.MoreParts ps) w = more_parts k ps w
step_await k a.ArmOrEnd w = arm_or_end k w

-- what a word does
abbrev pub step : Frames → Mode → Word → Turn
step k (awaits a) w = step_await k a w
step k (have x slices p) w = after k x slices p (next_word w)
step k (whole x) w = ends k x (next_word w)
