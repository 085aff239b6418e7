-- Words that close what is open.
use Rattle.std.proofs.Common.{◌≡◌, ℕ, ◌+◌, ◌≤◌, true, List, [], ◌∷◌, ◌++◌, None, Ok, refl, ◌∙◌, arith}
use Rattle.std.specs.Prelude.{⊤}
use Rattle.sail_syntax.specs.Tree.{Tree, node, truth, chain, flip, update, call, widen, choose, when, cases, foreach, check, assign, block, arm, does}
use Rattle.sail_syntax.specs.View.{trees, cases_of, steps_of}
use Rattle.sail_syntax.specs.Program.{Definition}
use Rattle.sail_syntax.specs.declared.patterns.Pattern.TheVariants as pattern
use Rattle.sail_grammar.specs.declared.keyword.Keyword.TheVariants as kw
use Rattle.sail_grammar.specs.declared.mark.Mark.TheVariants as m
use Rattle.sail_grammar.specs.Words as words
use Rattle.sail_grammar.specs.Words.{Words, the, its, named}
use Rattle.sail_machine.specs.declared.awaited.Await.TheVariants as a
use Rattle.sail_machine.specs.Frames as f
use Rattle.sail_machine.specs.Frames.{Frames, Mode, awaits, have, whole, nest}
use Rattle.sail_machine.specs.Turns.{bound, function_of, ends, ends_in}
use Rattle.sail_machine.specs.Run.{Outcome, run}
use Rattle.sail_machine.proofs.Steps.{goes_in, IsEnd, ends_by}
use Rattle.sail_machine.proofs.Complete.{settle, run-settles, run-whole, settle-chain, settle-assign, settle-other, settle-when}

-- an expression may stand directly in what is open
abbrev pub Holds : Frames → Type 0
Holds [] = ⊥
Holds (f.program ds ∷ k) = ⊥
Holds (f.arms x cs p ∷ k) = ⊥
Holds (f.slicing x c p ∷ k) = ⊥
Holds (f.indexing x p ∷ k) = ⊥
Holds (f.widening signed p ∷ k) = ⊥
Holds (f.asserted x p ∷ k) = ⊥
Holds (f.looping x i j p ∷ k) = ⊥
Holds (g ∷ k) = ⊤

-- a block may
abbrev pub HoldsBlock : Frames → Type 0
HoldsBlock [] = ⊥
HoldsBlock (f.looping x i j p ∷ k) = ⊤
HoldsBlock (g ∷ k) = Holds (g ∷ k)

-- nothing but the text is open
abbrev pub IsText : Frames → Type 0
IsText (f.program ds ∷ []) = ⊤
IsText _ = ⊥

-- frames stand in one another as they may
abbrev pub IsStack : Frames → Type 0
IsStack [] = ⊥
IsStack (f.program ds ∷ k) = ⊥
IsStack (f.body h t ∷ k) = IsText k
IsStack (f.statements ss p ∷ k) = HoldsBlock k × IsStack k
IsStack (f.binding ss b x t p ∷ k) = HoldsBlock k × IsStack k
IsStack (g ∷ k) = Holds k × IsStack k

-- the words that close what is open, behind an expression
abbrev pub closing : Frames → Words
closing [] = []
closing (f.program ds ∷ k) = []
closing (f.body h t ∷ k) = []
closing (f.paren p ∷ k) = its m.Close 0 ∷ closing k
closing (f.args c xs p ∷ k) = its m.Close 0 ∷ closing k
closing (f.testing p ∷ k) = the kw.Then 0 ∷ the kw.True 0 ∷ closing k
closing (f.choosing t p ∷ k) = closing k
closing (f.otherwise t y p ∷ k) = closing k
closing (f.subject p ∷ k) = its m.OpenBrace 0 ∷ the kw.Wildcard 0 ∷ its m.FatArrow 0 ∷ the kw.True 0 ∷ its m.CloseBrace 0 ∷ closing k
closing (f.arms x cs p ∷ k) = []
closing (f.armed x cs pt p ∷ k) = its m.CloseBrace 0 ∷ closing k
closing (f.chained op xs p ∷ k) = closing k
closing (f.assigning x p ∷ k) = closing k
closing (f.flipping p ∷ k) = its m.Close 0 ∷ closing k
closing (f.slicing x c p ∷ k) = []
closing (f.updating p ∷ k) = the kw.With 0 ∷ words.counted 0 0 ∷ its m.Dots 0 ∷ words.counted 0 0 ∷ its m.Equals 0 ∷ the kw.True 0 ∷ its m.CloseSquare 0 ∷ closing k
closing (f.indexing x p ∷ k) = []
closing (f.replacing x hi lo p ∷ k) = its m.CloseSquare 0 ∷ closing k
closing (f.widening signed p ∷ k) = []
closing (f.widened signed w p ∷ k) = its m.Close 0 ∷ closing k
closing (f.asserting p ∷ k) = its m.Comma 0 ∷ words.quoted [] 0 ∷ its m.Close 0 ∷ closing k
closing (f.asserted x p ∷ k) = []
closing (f.looping x i j p ∷ k) = closing k
closing (f.statements ss p ∷ k) = its m.CloseBrace 0 ∷ closing k
closing (f.binding ss b x t p ∷ k) = its m.CloseBrace 0 ∷ closing k

pub closing_ends : (k : Frames) → IsEnd true (closing k)
closing_ends [] = tt
closing_ends (f.program ds ∷ k) = tt
closing_ends (f.body h t ∷ k) = tt
closing_ends (f.paren p ∷ k) = ends_by true _ refl refl refl refl refl
closing_ends (f.args c xs p ∷ k) = ends_by true _ refl refl refl refl refl
closing_ends (f.testing p ∷ k) = ends_by true _ refl refl refl refl refl
closing_ends (f.choosing t p ∷ k) = closing_ends k
closing_ends (f.otherwise t y p ∷ k) = closing_ends k
closing_ends (f.subject p ∷ k) = ends_by true _ refl refl refl refl refl
closing_ends (f.arms x cs p ∷ k) = tt
closing_ends (f.armed x cs pt p ∷ k) = ends_by true _ refl refl refl refl refl
closing_ends (f.chained op xs p ∷ k) = closing_ends k
closing_ends (f.assigning x p ∷ k) = closing_ends k
closing_ends (f.flipping p ∷ k) = ends_by true _ refl refl refl refl refl
closing_ends (f.slicing x c p ∷ k) = tt
closing_ends (f.updating p ∷ k) = ends_by true _ refl refl refl refl refl
closing_ends (f.indexing x p ∷ k) = tt
closing_ends (f.replacing x hi lo p ∷ k) = ends_by true _ refl refl refl refl refl
closing_ends (f.widening signed p ∷ k) = tt
closing_ends (f.widened signed w p ∷ k) = ends_by true _ refl refl refl refl refl
closing_ends (f.asserting p ∷ k) = ends_by true _ refl refl refl refl refl
closing_ends (f.asserted x p ∷ k) = tt
closing_ends (f.looping x i j p ∷ k) = closing_ends k
closing_ends (f.statements ss p ∷ k) = ends_by true _ refl refl refl refl refl
closing_ends (f.binding ss b x t p ∷ k) = ends_by true _ refl refl refl refl refl

abbrev pub outcome : List Definition → Outcome
outcome ds = Ok ds

abbrev pub a_truth : Tree
a_truth = node 0 (truth true)

module _ (end : ℕ) where
  -- the closing words give a program behind the expression
  abbrev pub Settles : Frames → Tree → Type 0
  Settles k x = (ds : List Definition) × (settle end k x (closing k) ≡ outcome ds)

  -- they do so behind an operand
  has : (k : Frames) (x : Tree) (c p : ℕ) → run end k (have x c p) (closing k) ≡ settle end k x (closing k)
  has k x c p = run-settles end k x c p true (closing k) (closing_ends k)

  pub settles : (k : Frames) (x : Tree) → Holds k → IsStack k → nest k + 1 ≤ 128 → Settles k x
  unfolding run ends ends_in
  settles [] x holds stack room = absurd holds
  settles (f.program ds ∷ k) x holds stack room = absurd holds
  settles (f.body h t ∷ []) x holds stack room = absurd stack
  settles (f.body h t ∷ f.program ds ∷ []) x holds stack room = (ds ++ function_of h t x ∷ [], refl)
  settles (f.body h t ∷ f.program ds ∷ g ∷ k) x holds stack room = absurd stack
  settles (f.body h t ∷ g ∷ k) x holds stack room = absurd stack
  settles (f.paren p ∷ k) x holds stack room = let c = settles k x stack.0 stack.1 (omega (arith, room)) in (c.0, has k x 0 p ∙ c.1)
  settles (f.args y xs p ∷ k) x holds stack room =
      let z : Tree = node p (call y (trees (xs ++ x ∷ []))) in let c = settles k z stack.0 stack.1 (omega (arith, room)) in (c.0, has k z 0 p ∙ c.1)
  settles (f.testing p ∷ k) x holds stack room =
      let c = settles k (node p (when x a_truth)) stack.0 stack.1 (omega (arith, room)) in
      (c.0, run-settles end (f.choosing x p ∷ k) a_truth 0 0 true (closing k) (closing_ends k) ∙ settle-when end k x p a_truth (closing k) (closing_ends k) ∙ c.1)
  settles (f.choosing t p ∷ k) x holds stack room =
      let c = settles k (node p (when t x)) stack.0 stack.1 (omega (arith, room)) in (c.0, settle-when end k t p x (closing k) (closing_ends k) ∙ c.1)
  settles (f.otherwise t y p ∷ k) x holds stack room =
      let c = settles k (node p (choose t y x)) stack.0 stack.1 (omega (arith, room)) in (c.0, settle-other end k t y p x (closing k) ∙ c.1)
  settles (f.subject p ∷ k) x holds stack room =
      let z : Tree = node p (cases x (cases_of (arm pattern.Any a_truth ∷ []))) in let c = settles k z stack.0 stack.1 (omega (arith, room)) in
      (c.0, goes_in end k (f.arms x [] p) (awaits (a.Part [])) 0 (the kw.Wildcard 0 ∷ its m.FatArrow 0 ∷ the kw.True 0 ∷ its m.CloseBrace 0 ∷ closing k) (omega (arith, room)) ∙ run-whole end k z (closing k) ∙ c.1)
  settles (f.arms y cs p ∷ k) x holds stack room = absurd holds
  settles (f.armed y cs pt p ∷ k) x holds stack room =
      let z : Tree = node p (cases y (cases_of (cs ++ arm pt x ∷ []))) in let c = settles k z stack.0 stack.1 (omega (arith, room)) in (c.0, run-whole end k z (closing k) ∙ c.1)
  settles (f.chained op xs p ∷ k) x holds stack room =
      let c = settles k (node p (chain op (trees (xs ++ x ∷ [])))) stack.0 stack.1 (omega (arith, room)) in (c.0, settle-chain end k op xs p x (closing k) ∙ c.1)
  settles (f.assigning y p ∷ k) x holds stack room =
      let c = settles k (node p (assign y x)) stack.0 stack.1 (omega (arith, room)) in (c.0, settle-assign end k y p x (closing k) ∙ c.1)
  settles (f.flipping p ∷ k) x holds stack room =
      let z : Tree = node p (flip x) in let c = settles k z stack.0 stack.1 (omega (arith, room)) in (c.0, has k z 0 p ∙ c.1)
  settles (f.slicing y c p ∷ k) x holds stack room = absurd holds
  settles (f.updating p ∷ k) x holds stack room =
      let z : Tree = node p (update x (record { var = None; plus = 0 }) (record { var = None; plus = 0 }) a_truth) in let c = settles k z stack.0 stack.1 (omega (arith, room)) in (c.0, has k z 0 p ∙ c.1)
  settles (f.indexing y p ∷ k) x holds stack room = absurd holds
  settles (f.replacing y hi lo p ∷ k) x holds stack room =
      let z : Tree = node p (update y hi lo x) in let c = settles k z stack.0 stack.1 (omega (arith, room)) in (c.0, has k z 0 p ∙ c.1)
  settles (f.widening signed p ∷ k) x holds stack room = absurd holds
  settles (f.widened signed w p ∷ k) x holds stack room =
      let z : Tree = node p (widen signed w x) in let c = settles k z stack.0 stack.1 (omega (arith, room)) in (c.0, has k z 0 p ∙ c.1)
  settles (f.asserting p ∷ k) x holds stack room =
      let z : Tree = node p (check x []) in let c = settles k z stack.0 stack.1 (omega (arith, room)) in (c.0, has k z 0 p ∙ c.1)
  settles (f.asserted y p ∷ k) x holds stack room = absurd holds
  settles (f.looping y i j p ∷ k) x holds stack room = absurd holds
  settles (f.statements ss p ∷ []) x holds stack room = absurd stack.0
  settles (f.statements ss p ∷ f.looping y i j q ∷ k) x holds stack room =
      let z : Tree = node q (foreach y i j (node p (block (steps_of (ss ++ does x ∷ []))))) in let c = settles k z stack.1.0 stack.1.1 (omega (arith, room)) in (c.0, run-whole end k z (closing k) ∙ c.1)
  settles (f.statements ss p ∷ g ∷ k) x holds stack room =
      let z : Tree = node p (block (steps_of (ss ++ does x ∷ []))) in let c = settles (g ∷ k) z stack.0 stack.1 (omega (arith, room)) in (c.0, has (g ∷ k) z 0 p ∙ c.1)
  settles (f.binding ss b y t p ∷ []) x holds stack room = absurd stack.0
  settles (f.binding ss b y t p ∷ f.looping v i j q ∷ k) x holds stack room =
      let z : Tree = node q (foreach v i j (node p (block (steps_of (ss ++ bound b y t x ∷ []))))) in let c = settles k z stack.1.0 stack.1.1 (omega (arith, room)) in (c.0, run-whole end k z (closing k) ∙ c.1)
  settles (f.binding ss b y t p ∷ g ∷ k) x holds stack room =
      let z : Tree = node p (block (steps_of (ss ++ bound b y t x ∷ []))) in let c = settles (g ∷ k) z stack.0 stack.1 (omega (arith, room)) in (c.0, has (g ∷ k) z 0 p ∙ c.1)
