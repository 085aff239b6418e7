-- What a word does: it changes what is open and what comes next, or it is a fault. Here is what all words share, and what ends with an expression.
use Rattle.std.specs.Prelude.{ℕ, zero, suc, ◌+◌, Bool, true, false, if◌then◌else◌, nat_lt, nat_le, List, [], ◌∷◌, ◌++◌, length, Option, Some, None, Result, Ok, Err}
use Rattle.std.specs.List.{filter}
use Rattle.sail_syntax.specs.Tree.{Text, Tree, node, name, chain, flip, slice, update, call, widen, choose, when, cases, foreach, check, assign, block, Case, arm, Step, binds, holds, does}
use Rattle.sail_syntax.specs.View.{trees, cases_of, steps_of}
use Rattle.sail_syntax.specs.Program.{Definition, order, register, enumeration, signature, function}
use Rattle.sail_syntax.specs.declared.tree.Infix.{Infix}
use Rattle.sail_syntax.specs.declared.tree.Index.{Index}
use Rattle.sail_syntax.specs.declared.types.Ty.{Ty}
use Rattle.sail_grammar.specs.declared.keyword.Keyword.TheVariants as kw
use Rattle.sail_grammar.specs.declared.mark.Mark.TheVariants as m
use Rattle.sail_grammar.specs.declared.word.Sign.{Sign}
use Rattle.sail_grammar.specs.Expressions.{repeats}
use Rattle.sail_grammar.specs.Definitions.{max_nesting, most_of_a_kind, is_register, is_enum, is_a_function}
use Rattle.sail_machine.specs.declared.fault.Flaw.{Flaw}
use Rattle.sail_machine.specs.declared.fault.Flaw.TheVariants as flaw
use Rattle.sail_machine.specs.declared.fault.Fault.{Fault}
use Rattle.sail_machine.specs.declared.heads.Binder.{Binder}
use Rattle.sail_machine.specs.declared.heads.Binder.TheVariants as binder
use Rattle.sail_machine.specs.declared.heads.FunctionHead.{FunctionHead}
use Rattle.sail_machine.specs.declared.awaited.Await.{Await}
use Rattle.sail_machine.specs.declared.awaited.Await.TheVariants as a
use Rattle.sail_machine.specs.declared.awaited.Fixed.{Fixed}
use Rattle.sail_machine.specs.declared.awaited.Naming.TheVariants as naming
use Rattle.sail_machine.specs.declared.awaited.IndexUse.TheVariants as index
use Rattle.sail_machine.specs.Frames.{Frame, Frames, Mode, awaits, have, whole, nest, weight, program, body, paren, args, testing, choosing, otherwise, subject, arms, armed, chained, assigning, flipping, slicing, updating, indexing, replacing, widening, widened, asserting, asserted, looping, statements, binding}
use Rattle.sail_machine.specs.Signs.{Next, meets, meets_keyword, operator_in, is_there, is_keyword, same_infix}

-- what a word does
abbrev pub Turn : Type 0
Turn = Result (Frames × Mode) Fault

-- a flaw at a place
abbrev pub fails : Flaw → ℕ → Turn
fails why at = Err (record { flaw = why; at = at })

abbrev pub unexpected : ℕ → Turn
unexpected at = fails flaw.Unexpected at

-- the same is open, and this comes next
abbrev pub goes : Frames → Await → Turn
goes k a = Ok (k, awaits a)

-- a fixed word comes next
abbrev pub fixes : Frames → Fixed → Turn
fixes k f = goes k (a.Fixed f)

-- whether there is room for so many levels more
abbrev pub has_room : Frames → ℕ → Bool
has_room k levels = nat_le (nest k + levels) max_nesting

-- something more is open, from the word at the place on
abbrev pub opened : Frames → Frame → Mode → ℕ → Turn
opened k f m at = if has_room k (weight f) then Ok (f ∷ k, m) else fails flaw.TooDeep at

-- a bracket that holds no expression
abbrev pub shallow : Frames → Await → ℕ → Turn
shallow k a at = if has_room k 1 then goes k a else fails flaw.TooDeep at

-- ---- definitions

-- one more definition
abbrev pub defined : Frames → Definition → Frames
defined (program ds ∷ k) d = program (ds ++ d ∷ []) ∷ k
defined k d = k

-- how many definitions of a kind there are
abbrev pub count : (Definition → Bool) → Frames → ℕ
count kind (program ds ∷ k) = length (filter kind ds)
count kind k = 0

-- one more definition of a kind begins
abbrev pub begins : (Definition → Bool) → Frames → Await → ℕ → Turn
begins kind k a at = if nat_lt (count kind k) most_of_a_kind then goes k a else fails flaw.TooMany at

-- the first word of a definition
abbrev pub first_word : Frames → Sign → ℕ → Turn
first_word k s at =
    if is_keyword kw.Register s then begins is_register k (a.Name (naming.Register at)) at
    else if is_keyword kw.Enum s then begins is_enum k (a.Name (naming.Enum at)) at
    else if is_keyword kw.Val s then goes k (a.Name (naming.Val at))
    else if is_keyword kw.Function s then begins is_a_function k (a.Name (naming.Function at)) at
    else unexpected at

-- a definition, or the end
abbrev pub definition_by : Frames → Option Sign → ℕ → Turn
definition_by k None at = goes k a.Definition
definition_by k (Some s) at = first_word k s at

abbrev pub definition : Frames → Next → Turn
definition k n = definition_by k n.sign n.at

-- the function whose head was read
abbrev pub function_of : FunctionHead → Ty → Tree → Definition
function_of h t e = function (record { name = h.name; params = h.params; result = t; body = e; at = h.at })

-- ---- the end of an expression

-- an operand that begins at its own place
abbrev pub operand : Frames → ℕ → Tree → Turn
operand k at x = Ok (k, have x 0 at)

-- one argument more
abbrev pub args_end : Frames → Text → List Tree → ℕ → Next → Turn
args_end k f xs at n =
    if meets m.Comma n then Ok (args f xs at ∷ k, awaits a.Want)
    else if meets m.Close n then operand k at (node at (call f (trees xs)))
    else unexpected n.at

-- one arm more
abbrev pub arms_end : Frames → Tree → List Case → ℕ → Next → Turn
arms_end k x cs at n =
    if meets m.Comma n then Ok (arms x cs at ∷ k, awaits a.ArmOrEnd)
    else if meets m.CloseBrace n then Ok (k, whole (node at (cases x (cases_of cs))))
    else unexpected n.at

-- a block is closed; that of a foreach ends the foreach
abbrev pub closed : Frames → List Step → ℕ → Turn
closed (looping x from to p ∷ k) ss at = Ok (k, whole (node p (foreach x from to (node at (block (steps_of ss))))))
closed k ss at = operand k at (node at (block (steps_of ss)))

-- one statement more
abbrev pub statements_end : Frames → List Step → ℕ → Next → Turn
statements_end k ss at n =
    if meets m.Semicolon n then Ok (statements ss at ∷ k, awaits (a.Statement (Some n.at)))
    else if meets m.CloseBrace n then closed k ss at
    else unexpected n.at

-- the statement that declares a local
abbrev pub bound : Binder → Text → Option Ty → Tree → Step
bound binder.Let x t e = binds x t e
bound binder.Var x t e = holds x t e

-- an expression ended in something that doesn't end with it
unfoldable pub ends_in : Frames → Frame → Tree → Next → Turn
ends_in k (program ds) e n = unexpected n.at
ends_in k (body head t) e n = definition (defined k (function_of head t e)) n
ends_in k (paren p) e n = if meets m.Close n then operand k p e else unexpected n.at
ends_in k (args f xs p) e n = args_end k f (xs ++ e ∷ []) p n
ends_in k (testing p) e n = if meets_keyword kw.Then n then Ok (choosing e p ∷ k, awaits a.Want) else unexpected n.at
ends_in k (choosing t p) e n = unexpected n.at
ends_in k (otherwise t y p) e n = unexpected n.at
ends_in k (subject p) e n = if meets m.OpenBrace n then opened k (arms e [] p) (awaits (a.Part [])) n.at else unexpected n.at
ends_in k (arms on cs p) e n = unexpected n.at
ends_in k (armed on cs pattern p) e n = arms_end k on (cs ++ arm pattern e ∷ []) p n
ends_in k (chained op xs p) e n = unexpected n.at
ends_in k (assigning x p) e n = unexpected n.at
ends_in k (flipping p) e n = if meets m.Close n then operand k p (node p (flip e)) else unexpected n.at
ends_in k (slicing of slices p) e n = unexpected n.at
ends_in k (updating p) e n = if meets_keyword kw.With n then Ok (indexing e p ∷ k, awaits (a.Index index.WithHigh)) else unexpected n.at
ends_in k (indexing of p) e n = unexpected n.at
ends_in k (replacing of hi lo p) e n = if meets m.CloseSquare n then operand k p (node p (update of hi lo e)) else unexpected n.at
ends_in k (widening signed p) e n = unexpected n.at
ends_in k (widened signed to p) e n = if meets m.Close n then operand k p (node p (widen signed to e)) else unexpected n.at
ends_in k (asserting p) e n = if meets m.Comma n then Ok (asserted e p ∷ k, awaits a.Text) else unexpected n.at
ends_in k (asserted test p) e n = unexpected n.at
ends_in k (looping x from to p) e n = unexpected n.at
ends_in k (statements ss p) e n = statements_end k (ss ++ does e ∷ []) p n
ends_in k (binding ss b x t p) e n = statements_end k (ss ++ bound b x t e ∷ []) p n

-- an expression ended, and this comes next: what ends with it ends too
unfoldable pub ends : Frames → Tree → Next → Turn
ends [] e n = unexpected n.at
ends (choosing t p ∷ k) e n = if meets_keyword kw.Else n then Ok (otherwise t e p ∷ k, awaits a.Want) else ends k (node p (when t e)) n
ends (otherwise t y p ∷ k) e n = ends k (node p (choose t y e)) n
ends (chained op xs p ∷ k) e n = ends k (node p (chain op (trees (xs ++ e ∷ [])))) n
ends (assigning x p ∷ k) e n = ends k (node p (assign x e)) n
ends (f ∷ k) e n = ends_in k f e n

-- ---- what follows an operand

-- an operator in a chain
abbrev pub chains : Frames → Infix → List Tree → ℕ → Infix → ℕ → Turn
chains k before xs p op at =
    if same_infix before op then (if repeats op then Ok (chained before xs p ∷ k, awaits a.Operand) else unexpected at)
    else fails flaw.Mixed at

-- an operator behind an operand that begins at p
abbrev pub infix_after : Frames → Tree → ℕ → Infix → ℕ → Turn
infix_after (chained before xs q ∷ k) x p op at = chains k before (xs ++ x ∷ []) q op at
infix_after k x p op at = Ok (chained op (x ∷ []) p ∷ k, awaits a.Operand)

-- behind an operand stands no operator
abbrev pub plain_after : Frames → Tree → ℕ → ℕ → Next → Turn
plain_after k x slices p n = if meets m.OpenSquare n then opened k (slicing x slices p) (awaits (a.Index index.High)) n.at else ends k x n

abbrev pub after_by : Frames → Tree → ℕ → ℕ → Next → Option Infix → Turn
after_by k x slices p n None = plain_after k x slices p n
after_by k x slices p n (Some op) = infix_after k x p op n.at

abbrev pub next_operator : Option Sign → Option Infix
next_operator None = None
next_operator (Some s) = operator_in s

-- behind an operand with so many slices that begins at p
abbrev pub after : Frames → Tree → ℕ → ℕ → Next → Turn
after k x slices p n = after_by k x slices p n (next_operator n.sign)
