-- The grammar of expressions: which words spell which tree.
--
-- `Spells n o ts x r`: of the words ts those in front of the words r spell the expression x, within n levels of nesting. The flag says
-- whether it ends open, so that an `else` behind it belongs to an `if` in it. The other families are read in the same way.
use Rattle.std.specs.Prelude.{◌≡◌, ◌≤◌, ◌<◌, ℕ, zero, suc, Bool, true, false, List, [], ◌∷◌, Option, Some, None}
use Rattle.bv_bits.specs.Bits.{IsWidth}
use Rattle.bv_bits.specs.declared.Bits.{Bits}
use Rattle.sail_syntax.specs.Tree.{Text, Tree, node, unit, lit, truth, name, chain, flip, slice, update, call, widen, choose, when, cases, foreach, check, exit, assign, block, Trees, none, some, Case, arm, Cases, no_case, case, Step, binds, holds, does, Steps, done, next}
use Rattle.sail_syntax.specs.declared.tree.Infix.{Infix}
use Rattle.sail_syntax.specs.declared.tree.Infix.TheVariants as between
use Rattle.sail_syntax.specs.declared.tree.Index.{Index}
use Rattle.sail_syntax.specs.declared.patterns.Pattern.{Pattern}
use Rattle.sail_syntax.specs.declared.patterns.Pattern.TheVariants as pattern
use Rattle.sail_syntax.specs.declared.patterns.Part.{Part}
use Rattle.sail_syntax.specs.declared.patterns.Part.TheVariants as part
use Rattle.sail_syntax.specs.declared.types.Ty.{Ty}
use Rattle.sail_syntax.specs.declared.types.Ty.TheVariants as ty
use Rattle.sail_grammar.specs.declared.keyword.Keyword.TheVariants as k
use Rattle.sail_grammar.specs.declared.mark.Mark.TheVariants as m
use Rattle.sail_grammar.specs.Words.{Words, the, its, named, counted, valued, quoted, joining, place}

-- an index or a bound of a foreach: from 0 to 127
abbrev pub IsIndexNumber : ℕ → Type 0
IsIndexNumber i = i ≤ 127

-- whether an operator may stand several times in a chain: all but `==` and `!=`
abbrev pub repeats : Infix → Bool
repeats between.Add = true
repeats between.Sub = true
repeats between.Mul = true
repeats between.And = true
repeats between.Or = true
repeats between.Xor = true
repeats between.Join = true
repeats between.Eq = false
repeats between.Ne = false

-- ---- what holds no expression

-- a type
pub data SpellsType : ℕ → Words → Ty → Words → Type 0 where
  bits_type : {n w p q s e : ℕ} {r : Words} → IsWidth w → SpellsType (suc n) (the k.Bits p ∷ its m.Open q ∷ counted w s ∷ its m.Close e ∷ r) (ty.Bits w) r
  bool_type : {n p : ℕ} {r : Words} → SpellsType n (the k.Bool p ∷ r) ty.Bool r
  unit_type : {n p : ℕ} {r : Words} → SpellsType n (the k.Unit p ∷ r) ty.Unit r
  enum_type : {n p : ℕ} {x : Text} {r : Words} → SpellsType n (named x p ∷ r) (ty.Enum x) r

-- the type behind a name, if one is written
pub data SpellsWritten : ℕ → Words → Option Ty → Words → Type 0 where
  no_type : {n : ℕ} {r : Words} → SpellsWritten n r None r
  a_type : {n p : ℕ} {t : Ty} {ts r : Words} → SpellsType n ts t r → SpellsWritten n (its m.Colon p ∷ ts) (Some t) r

-- an index: a number, a foreach variable, or such a variable plus a number
pub data SpellsIndex : Words → Index → Words → Type 0 where
  at_number : {i p : ℕ} {r : Words} → IsIndexNumber i → SpellsIndex (counted i p ∷ r) (record { var = None; plus = i }) r
  at_name : {p : ℕ} {x : Text} {r : Words} → SpellsIndex (named x p ∷ r) (record { var = Some x; plus = 0 }) r
  at_sum : {i p q s : ℕ} {x : Text} {r : Words} → IsIndexNumber i → SpellsIndex (named x p ∷ joining between.Add q ∷ counted i s ∷ r) (record { var = Some x; plus = i }) r

-- a part of a pattern
pub data SpellsPart : ℕ → Words → Part → Words → Type 0 where
  part_value : {n p : ℕ} {b : Bits} {r : Words} → SpellsPart n (valued b p ∷ r) (part.Lit b) r
  part_name : {n w p q s t e e' : ℕ} {x : Text} {r : Words} → IsWidth w
      → SpellsPart (suc n) (named x p ∷ its m.Colon q ∷ the k.Bits s ∷ its m.Open t ∷ counted w e ∷ its m.Close e' ∷ r) (part.Bind x w) r
  part_any : {n w p q s t e e' : ℕ} {r : Words} → IsWidth w
      → SpellsPart (suc n) (the k.Wildcard p ∷ its m.Colon q ∷ the k.Bits s ∷ its m.Open t ∷ counted w e ∷ its m.Close e' ∷ r) (part.Skip w) r

-- parts with `@` between them
pub data SpellsParts : ℕ → Words → List Part → Words → Type 0 where
  last_part : {n : ℕ} {a : Part} {ts r : Words} → SpellsPart n ts a r → SpellsParts n ts (a ∷ []) r
  more_parts : {n q : ℕ} {a : Part} {all : List Part} {ts r r' : Words} → SpellsPart n ts a (joining between.Join q ∷ r) → SpellsParts n r all r' → SpellsParts n ts (a ∷ all) r'

-- a pattern
pub data SpellsPattern : ℕ → Words → Pattern → Words → Type 0 where
  any_value : {n p : ℕ} {r : Words} → SpellsPattern n (the k.Wildcard p ∷ r) pattern.Any r
  a_name : {n p : ℕ} {x : Text} {r : Words} → SpellsPattern n (named x p ∷ r) (pattern.Name x) r
  a_value : {n p : ℕ} {b : Bits} {r : Words} → SpellsPattern n (valued b p ∷ r) (pattern.Lit b) r
  if_true : {n p : ℕ} {r : Words} → SpellsPattern n (the k.True p ∷ r) (pattern.Truth true) r
  if_false : {n p : ℕ} {r : Words} → SpellsPattern n (the k.False p ∷ r) (pattern.Truth false) r
  in_parts : {n q : ℕ} {a : Part} {all : List Part} {ts r r' : Words} → SpellsPart n ts a (joining between.Join q ∷ r) → SpellsParts n r all r' → SpellsPattern n ts (pattern.Parts (a ∷ all)) r'

-- ---- expressions

mutual
  -- an expression
  pub data Spells : ℕ → Bool → Words → Tree → Words → Type 0 where
    alone : {n c : ℕ} {ts r : Words} {x : Tree} → SpellsOperand n c ts x r → Spells n false ts x r
    in_chain : {n c q : ℕ} {op : Infix} {ts r r' : Words} {x : Tree} {xs : Trees}
        → SpellsOperand n c ts x (joining op q ∷ r) → SpellsRest n op r xs r' → Spells n false ts (node (place ts) (chain op (some x xs))) r'
    if_then : {n p q : ℕ} {a b : Bool} {ts r r' : Words} {t y : Tree}
        → Spells n a ts t (the k.Then q ∷ r) → Spells n b r y r' → Spells (suc n) true (the k.If p ∷ ts) (node p (when t y)) r'
    -- an `else` belongs to the nearest `if`, so what stands before it doesn't end open
    if_else : {n p q s : ℕ} {a o : Bool} {ts r r' r'' : Words} {t y z : Tree}
        → Spells n a ts t (the k.Then q ∷ r) → Spells n false r y (the k.Else s ∷ r') → Spells n o r' z r'' → Spells (suc n) o (the k.If p ∷ ts) (node p (choose t y z)) r''
    by_cases : {n p q : ℕ} {a : Bool} {ts r r' : Words} {x : Tree} {arms : Cases}
        → Spells (suc n) a ts x (its m.OpenBrace q ∷ r) → SpellsArms n r arms r' → Spells (suc (suc n)) false (the k.Match p ∷ ts) (node p (cases x arms)) r'
    for_each : {n i j p q s t e e' u v : ℕ} {x : Text} {ts r : Words} {body : Tree} → IsIndexNumber i → IsIndexNumber j → SpellsBlock (suc n) ts body r
        → Spells (suc n) false (the k.Foreach p ∷ its m.Open q ∷ named x s ∷ the k.From t ∷ counted i e ∷ the k.To e' ∷ counted j u ∷ its m.Close v ∷ ts) (node p (foreach x i j body)) r
    assigned : {n p q : ℕ} {o : Bool} {x : Text} {ts r : Words} {by : Tree} → Spells n o ts by r → Spells (suc n) o (named x p ∷ its m.Equals q ∷ ts) (node p (assign x by)) r

  -- an operand with so many slices; a further one nests deeper by each whole one before it
  pub data SpellsOperand : ℕ → ℕ → Words → Tree → Words → Type 0 where
    unsliced : {n : ℕ} {ts r : Words} {x : Tree} → SpellsAtom n ts x r → SpellsOperand n 0 ts x r
    sliced : {n c q s e : ℕ} {ts r r' r'' : Words} {x : Tree} {hi lo : Index} → SpellsOperand n c ts x (its m.OpenSquare q ∷ r) → c < n
        → SpellsIndex r hi (its m.Dots s ∷ r') → SpellsIndex r' lo (its m.CloseSquare e ∷ r'') → SpellsOperand n (suc c) ts (node (place ts) (slice x hi lo)) r''

  -- the operands of a chain behind the first one, with one operator between them
  pub data SpellsRest : ℕ → Infix → Words → Trees → Words → Type 0 where
    last_operand : {n c : ℕ} {op : Infix} {ts r : Words} {x : Tree} → SpellsOperand n c ts x r → SpellsRest n op ts (some x none) r
    more_operands : {n c q : ℕ} {op : Infix} {ts r r' : Words} {x : Tree} {xs : Trees}
        → SpellsOperand n c ts x (joining op q ∷ r) → repeats op ≡ true → SpellsRest n op r xs r' → SpellsRest n op ts (some x xs) r'

  -- an operand without slices
  pub data SpellsAtom : ℕ → Words → Tree → Words → Type 0 where
    a_literal : {n p : ℕ} {b : Bits} {r : Words} → SpellsAtom n (valued b p ∷ r) (node p (lit b)) r
    is_true : {n p : ℕ} {r : Words} → SpellsAtom n (the k.True p ∷ r) (node p (truth true)) r
    is_false : {n p : ℕ} {r : Words} → SpellsAtom n (the k.False p ∷ r) (node p (truth false)) r
    nothing : {n p q : ℕ} {r : Words} → SpellsAtom (suc n) (its m.Open p ∷ its m.Close q ∷ r) (node p unit) r
    -- parentheses don't belong to what stands in them
    inside : {n p q : ℕ} {o : Bool} {ts r : Words} {x : Tree} → Spells n o ts x (its m.Close q ∷ r) → SpellsAtom (suc n) (its m.Open p ∷ ts) x r
    braces : {n : ℕ} {ts r : Words} {x : Tree} → SpellsBlock n ts x r → SpellsAtom n ts x r
    flipped : {n p q s : ℕ} {o : Bool} {ts r : Words} {x : Tree} → Spells n o ts x (its m.Close s ∷ r) → SpellsAtom (suc n) (its m.Tilde p ∷ its m.Open q ∷ ts) (node p (flip x)) r
    updated : {n p q s t e : ℕ} {a b : Bool} {ts r r' r'' r''' : Words} {x y : Tree} {hi lo : Index}
        → Spells n a ts x (the k.With q ∷ r) → SpellsIndex r hi (its m.Dots s ∷ r') → SpellsIndex r' lo (its m.Equals t ∷ r'') → Spells n b r'' y (its m.CloseSquare e ∷ r''')
        → SpellsAtom (suc n) (its m.OpenSquare p ∷ ts) (node p (update x hi lo y)) r'''
    by_zeros : {n w p q s t e : ℕ} {o : Bool} {ts r : Words} {x : Tree} → IsWidth w → Spells n o ts x (its m.Close e ∷ r)
        → SpellsAtom (suc n) (the k.ZeroExtend p ∷ its m.Open q ∷ counted w s ∷ its m.Comma t ∷ ts) (node p (widen false w x)) r
    by_sign : {n w p q s t e : ℕ} {o : Bool} {ts r : Words} {x : Tree} → IsWidth w → Spells n o ts x (its m.Close e ∷ r)
        → SpellsAtom (suc n) (the k.SignExtend p ∷ its m.Open q ∷ counted w s ∷ its m.Comma t ∷ ts) (node p (widen true w x)) r
    asserted : {n p q s t e : ℕ} {o : Bool} {z : Text} {ts r : Words} {x : Tree} → Spells n o ts x (its m.Comma s ∷ quoted z t ∷ its m.Close e ∷ r)
        → SpellsAtom (suc n) (the k.Assert p ∷ its m.Open q ∷ ts) (node p (check x z)) r
    exits : {n p q s : ℕ} {r : Words} → SpellsAtom (suc n) (the k.Exit p ∷ its m.Open q ∷ its m.Close s ∷ r) (node p exit) r
    called_alone : {n p q s : ℕ} {f : Text} {r : Words} → SpellsAtom (suc n) (named f p ∷ its m.Open q ∷ its m.Close s ∷ r) (node p (call f none)) r
    called : {n p q : ℕ} {f : Text} {ts r : Words} {xs : Trees} → SpellsArguments n ts xs r → SpellsAtom (suc n) (named f p ∷ its m.Open q ∷ ts) (node p (call f xs)) r
    a_local : {n p : ℕ} {x : Text} {r : Words} → SpellsAtom n (named x p ∷ r) (node p (name x)) r

  -- arguments, and the bracket behind them
  pub data SpellsArguments : ℕ → Words → Trees → Words → Type 0 where
    last_argument : {n q : ℕ} {o : Bool} {ts r : Words} {x : Tree} → Spells n o ts x (its m.Close q ∷ r) → SpellsArguments n ts (some x none) r
    more_arguments : {n q : ℕ} {o : Bool} {ts r r' : Words} {x : Tree} {xs : Trees} → Spells n o ts x (its m.Comma q ∷ r) → SpellsArguments n r xs r' → SpellsArguments n ts (some x xs) r'

  -- statements in braces
  pub data SpellsBlock : ℕ → Words → Tree → Words → Type 0 where
    no_statement : {n p q : ℕ} {r : Words} → SpellsBlock (suc n) (its m.OpenBrace p ∷ its m.CloseBrace q ∷ r) (node p (block done)) r
    statements : {n p : ℕ} {ts r : Words} {steps : Steps} → SpellsStatements n ts steps r → SpellsBlock (suc n) (its m.OpenBrace p ∷ ts) (node p (block steps)) r

  -- statements, and the brace behind them
  pub data SpellsStatements : ℕ → Words → Steps → Words → Type 0 where
    last_statement : {n q : ℕ} {ts r : Words} {s : Step} → SpellsStatement n ts s (its m.CloseBrace q ∷ r) → SpellsStatements n ts (next s done) r
    -- a `;` in front of the brace stands for one more statement `()`
    one_more : {n p q : ℕ} {ts r : Words} {s : Step} → SpellsStatement n ts s (its m.Semicolon p ∷ its m.CloseBrace q ∷ r) → SpellsStatements n ts (next s (next (does (node p unit)) done)) r
    more_statements : {n q : ℕ} {ts r r' : Words} {s : Step} {steps : Steps} → SpellsStatement n ts s (its m.Semicolon q ∷ r) → SpellsStatements n r steps r' → SpellsStatements n ts (next s steps) r'

  -- a statement
  pub data SpellsStatement : ℕ → Words → Step → Words → Type 0 where
    let_it_be : {n p q s : ℕ} {o : Bool} {x : Text} {t : Option Ty} {ts r r' : Words} {by : Tree}
        → SpellsWritten n ts t (its m.Equals s ∷ r) → Spells n o r by r' → SpellsStatement n (the k.Let p ∷ named x q ∷ ts) (binds x t by) r'
    var_it_is : {n p q s : ℕ} {o : Bool} {x : Text} {t : Option Ty} {ts r r' : Words} {by : Tree}
        → SpellsWritten n ts t (its m.Equals s ∷ r) → Spells n o r by r' → SpellsStatement n (the k.Var p ∷ named x q ∷ ts) (holds x t by) r'
    done_alone : {n : ℕ} {o : Bool} {ts r : Words} {x : Tree} → Spells n o ts x r → SpellsStatement n ts (does x) r

  -- an arm of a match
  pub data SpellsArm : ℕ → Words → Case → Words → Type 0 where
    in_case : {n q : ℕ} {o : Bool} {ts r r' : Words} {p : Pattern} {x : Tree} → SpellsPattern n ts p (its m.FatArrow q ∷ r) → Spells n o r x r' → SpellsArm n ts (arm p x) r'

  -- arms, and the brace behind them; a `,` may stand in front of it
  pub data SpellsArms : ℕ → Words → Cases → Words → Type 0 where
    last_arm : {n q : ℕ} {ts r : Words} {c : Case} → SpellsArm n ts c (its m.CloseBrace q ∷ r) → SpellsArms n ts (case c no_case) r
    last_comma : {n p q : ℕ} {ts r : Words} {c : Case} → SpellsArm n ts c (its m.Comma p ∷ its m.CloseBrace q ∷ r) → SpellsArms n ts (case c no_case) r
    more_arms : {n q : ℕ} {ts r r' : Words} {c : Case} {all : Cases} → SpellsArm n ts c (its m.Comma q ∷ r) → SpellsArms n r all r' → SpellsArms n ts (case c all) r'
