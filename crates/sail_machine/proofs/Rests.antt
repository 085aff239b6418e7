-- What the words that are left have to be, for what is open: such that with the words in front of them they spell the program.
use Rattle.std.proofs.Common.{◌≡◌, ℕ, suc, ◌+◌, ◌-◌, ◌≤◌, ◌<◌, Bool, true, false, List, [], ◌∷◌, ◌++◌}
use Rattle.std.specs.Prelude.{⊤}
use Rattle.bv_bits.specs.Bits.{IsWidth}
use Rattle.sail_syntax.specs.Tree.{Tree, node, chain, Trees, Case, Cases, Step, Steps}
use Rattle.sail_syntax.specs.Program.{Definition}
use Rattle.sail_grammar.specs.declared.keyword.Keyword.TheVariants as kw
use Rattle.sail_grammar.specs.declared.mark.Mark.TheVariants as m
use Rattle.sail_grammar.specs.declared.word.Word.{Word}
use Rattle.sail_grammar.specs.Words as words
use Rattle.sail_grammar.specs.Words.{Words, the, its, named, place}
use Rattle.sail_grammar.specs.Expressions.{Spells, SpellsOperand, SpellsRest, SpellsArguments, SpellsStatements, SpellsArms, SpellsPattern, SpellsIndex, SpellsType, SpellsWritten}
use Rattle.sail_grammar.specs.Definitions.{SpellsParamList, SpellsDefinitions, SpellsProgram, AreFew, is_a_function}
use Rattle.sail_grammar.specs.Spelling.{IsProgram}
use Rattle.sail_machine.specs.declared.heads.Binder.{Binder}
use Rattle.sail_machine.specs.declared.heads.Binder.TheVariants as binder
use Rattle.sail_machine.specs.Frames as f
use Rattle.sail_machine.specs.Frames.{Frames, nest}
use Rattle.sail_machine.specs.Turns.{count}
use Rattle.sail_machine.proofs.Steps.{before_trees, before_cases, before_steps}
use Rattle.sail_machine.proofs.Complete.{NotChain}

-- how many levels of nesting are left
abbrev pub left : Frames → ℕ
left k = 128 - nest k

-- how many are left so many levels deeper
abbrev pub below : Frames → ℕ → ℕ
below k levels = 128 - (nest k + levels)

-- the word that declares a local
abbrev pub binder_word : Binder → ℕ → Word
binder_word binder.Let at = the kw.Let at
binder_word binder.Var at = the kw.Var at

-- the word of a widening
abbrev pub widen_word : Bool → ℕ → Word
widen_word false at = the kw.ZeroExtend at
widen_word true at = the kw.SignExtend at

-- one more definition of the kind may begin
abbrev pub HasPlace : (Definition → Bool) → Frames → Type 0
HasPlace kind k = count kind k < 1024

-- arms, behind those that were read; the words in front of an awaited match go on as W says
abbrev pub ArmsFit : Frames → (Words → Type 0) → Tree → List Case → ℕ → Words → Type 0
ArmsFit k W x cs p ts = NotChain k → nest k + 2 ≤ 128 → (us vs : Words) (o : Bool) (q : ℕ) → Spells (below k 1) o us x (its m.OpenBrace q ∷ vs)
    → ((all : Cases) (r : Words) → SpellsArms (below k 2) ts all r → SpellsArms (below k 2) vs (before_cases cs all) r) → W (the kw.Match p ∷ us)

-- statements, behind those that were read
abbrev pub StatementsFit : Frames → (Words → Type 0) → List Step → ℕ → Words → Type 0
StatementsFit k W ss p ts = nest k + 1 ≤ 128 → (us : Words)
    → ((steps : Steps) (r : Words) → SpellsStatements (below k 1) ts steps r → SpellsStatements (below k 1) us (before_steps ss steps) r) → W (its m.OpenBrace p ∷ us)

module _ (D : List Definition) where
  -- where a definition is awaited: whatever the words spell, with the definitions in front it is the program
  abbrev pub Definitions : Frames → Words → Type 0
  Definitions (f.program ds ∷ []) ts = (us : Words) → ((es : List Definition) → SpellsDefinitions 128 ts es → SpellsProgram 128 us (ds ++ es)) → AreFew ds → IsProgram us D
  Definitions _ ts = ⊤

  -- where the order of bits may stand
  abbrev pub Program : Frames → Words → Type 0
  Program (f.program [] ∷ []) ts = IsProgram ts D
  Program _ ts = ⊤

  -- where an expression is awaited, or an operand in a chain: with the words that opened the frames they go on to the program
  abbrev pub Fits : Frames → Words → Type 0
  Fits [] ts = ⊤
  Fits (f.program ds ∷ k) ts = ⊤
  Fits (f.body h t ∷ k) ts = HasPlace is_a_function k → (us vs : Words) (q s e : ℕ) → SpellsParamList 128 us h.params (its m.Arrow s ∷ vs) → SpellsType 128 vs t (its m.Equals e ∷ ts)
      → Definitions k (the kw.Function h.at ∷ named h.name q ∷ us)
  Fits (f.paren p ∷ k) ts = nest k + 1 ≤ 128 → Fits k (its m.Open p ∷ ts)
  Fits (f.args g xs p ∷ k) ts = nest k + 1 ≤ 128 → (us : Words) (q : ℕ)
      → ((ys : Trees) (r : Words) → SpellsArguments (below k 1) ts ys r → SpellsArguments (below k 1) us (before_trees xs ys) r) → Fits k (named g p ∷ its m.Open q ∷ us)
  Fits (f.testing p ∷ k) ts = NotChain k → nest k + 1 ≤ 128 → Fits k (the kw.If p ∷ ts)
  Fits (f.choosing t p ∷ k) ts = NotChain k → nest k + 1 ≤ 128 → (us : Words) (o : Bool) (q : ℕ) → Spells (below k 1) o us t (the kw.Then q ∷ ts) → Fits k (the kw.If p ∷ us)
  Fits (f.otherwise t y p ∷ k) ts = NotChain k → nest k + 1 ≤ 128 → (us vs : Words) (o : Bool) (q s : ℕ) → Spells (below k 1) o us t (the kw.Then q ∷ vs) → Spells (below k 1) false vs y (the kw.Else s ∷ ts)
      → Fits k (the kw.If p ∷ us)
  Fits (f.subject p ∷ k) ts = NotChain k → nest k + 1 ≤ 128 → Fits k (the kw.Match p ∷ ts)
  Fits (f.arms x cs p ∷ k) ts = ArmsFit k (Fits k) x cs p ts
  Fits (f.armed x cs pt p ∷ k) ts = (us : Words) (q : ℕ) → SpellsPattern (below k 2) us pt (its m.FatArrow q ∷ ts) → ArmsFit k (Fits k) x cs p us
  Fits (f.chained op xs p ∷ k) ts = NotChain k → (us : Words) → ((ys : Trees) (r : Words) → SpellsRest (left k) op ts ys r → Spells (left k) false us (node p (chain op (before_trees xs ys))) r) → Fits k us
  Fits (f.assigning x p ∷ k) ts = NotChain k → nest k + 1 ≤ 128 → (q : ℕ) → Fits k (named x p ∷ its m.Equals q ∷ ts)
  Fits (f.flipping p ∷ k) ts = nest k + 1 ≤ 128 → (q : ℕ) → Fits k (its m.Tilde p ∷ its m.Open q ∷ ts)
  Fits (f.slicing x c p ∷ k) ts = nest k + suc c ≤ 128 → (us : Words) (q : ℕ) → place us ≡ p → SpellsOperand (left k) c us x (its m.OpenSquare q ∷ ts) → Fits k us
  Fits (f.updating p ∷ k) ts = nest k + 1 ≤ 128 → Fits k (its m.OpenSquare p ∷ ts)
  Fits (f.indexing x p ∷ k) ts = nest k + 1 ≤ 128 → (us : Words) (o : Bool) (q : ℕ) → Spells (below k 1) o us x (the kw.With q ∷ ts) → Fits k (its m.OpenSquare p ∷ us)
  Fits (f.replacing x hi lo p ∷ k) ts = nest k + 1 ≤ 128 → (us vs vs' : Words) (o : Bool) (q s t : ℕ) → Spells (below k 1) o us x (the kw.With q ∷ vs)
      → SpellsIndex vs hi (its m.Dots s ∷ vs') → SpellsIndex vs' lo (its m.Equals t ∷ ts) → Fits k (its m.OpenSquare p ∷ us)
  Fits (f.widening signed p ∷ k) ts = nest k + 1 ≤ 128 → (q : ℕ) → Fits k (widen_word signed p ∷ its m.Open q ∷ ts)
  Fits (f.widened signed w p ∷ k) ts = nest k + 1 ≤ 128 → IsWidth w → (q s t : ℕ) → Fits k (widen_word signed p ∷ its m.Open q ∷ words.counted w s ∷ its m.Comma t ∷ ts)
  Fits (f.asserting p ∷ k) ts = nest k + 1 ≤ 128 → (q : ℕ) → Fits k (the kw.Assert p ∷ its m.Open q ∷ ts)
  Fits (f.asserted x p ∷ k) ts = nest k + 1 ≤ 128 → (us : Words) (o : Bool) (q s : ℕ) → Spells (below k 1) o us x (its m.Comma s ∷ ts) → Fits k (the kw.Assert p ∷ its m.Open q ∷ us)
  Fits (f.looping x i j p ∷ k) ts = NotChain k → nest k + 1 ≤ 128 → i ≤ 127 → j ≤ 127 → (q s t e e' u v : ℕ)
      → Fits k (the kw.Foreach p ∷ its m.Open q ∷ named x s ∷ the kw.From t ∷ words.counted i e ∷ the kw.To e' ∷ words.counted j u ∷ its m.Close v ∷ ts)
  Fits (f.statements ss p ∷ k) ts = StatementsFit k (Fits k) ss p ts
  Fits (f.binding ss b x t p ∷ k) ts = (us : Words) (at q s : ℕ) → SpellsWritten (below k 1) us t (its m.Equals s ∷ ts) → StatementsFit k (Fits k) ss p (binder_word b at ∷ named x q ∷ us)

  -- an expression has ended, open or not
  abbrev pub Ended : Frames → Tree → Bool → Words → Type 0
  Ended k x o r = NotChain k → (us : Words) → Spells (left k) o us x r → Fits k us

  -- an operand with so many slices has ended, whose first word is at the place
  abbrev pub Taken : Frames → Tree → ℕ → ℕ → Words → Type 0
  Taken k x c p r = (us : Words) → place us ≡ p → SpellsOperand (left k) c us x r → Fits k us
