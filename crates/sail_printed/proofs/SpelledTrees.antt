-- Expressions are spelled by their signs.
use Rattle.std.proofs.Common.{◌≡◌, ℕ, zero, suc, max, ◌+◌, ◌≤◌, ◌<◌, Bool, true, false, ◌&&◌, List, [], ◌∷◌, Option, Some, None, refl, sym, ap, ◌∙◌, arith}
use Rattle.std.specs.Bool.{⊤}
use Rattle.std.proofs.lemmas.Bool.{false≢true}
use Rattle.sail_syntax.specs.Tree.{Text, Tree, node, Form, unit, lit, truth, name, chain, flip, slice, update, call, widen, choose, when, cases, foreach, check, exit, assign, block, Trees, none, some, Case, arm, Cases, no_case, case, Step, binds, holds, does, Steps, done, next}
use Rattle.sail_syntax.specs.declared.tree.Infix.{Infix}
use Rattle.sail_grammar.specs.declared.keyword.Keyword.TheVariants as k
use Rattle.sail_grammar.specs.declared.mark.Mark.TheVariants as m
use Rattle.sail_grammar.specs.declared.word.Sign.TheVariants as sign
use Rattle.sail_grammar.specs.Words.{Words, place}
use Rattle.sail_grammar.specs.Expressions.{Spells, in_chain, if_then, if_else, by_cases, for_each, assigned, SpellsOperand, sliced, SpellsRest, last_operand, more_operands, SpellsAtom, a_literal, is_true, is_false, nothing, flipped, updated, by_zeros, by_sign, asserted, exits, called_alone, called, a_local, SpellsArguments, last_argument, more_arguments, SpellsBlock, no_statement, statements, SpellsStatements, last_statement, one_more, more_statements, SpellsStatement, let_it_be, var_it_is, done_alone, SpellsArm, in_case, SpellsArms, last_arm, more_arms}
use Rattle.sail_text.specs.Expressions.{is_operand, is_open, is_unit, is_done}
use Rattle.sail_printed.specs.Places.{unplaced, unplaced_trees, unplaced_case, unplaced_cases, unplaced_step, unplaced_steps}
use Rattle.sail_printed.specs.Forms.{IsFormed, AreFormed, IsFormedRest, IsFormedCase, AreFormedCases, IsFormedStep, AreFormedSteps}
use Rattle.sail_printed.specs.Levels.{slices, levels, chain_levels, all_levels, arm_levels, arms_levels, step_levels, steps_levels, later_levels}
use Rattle.sail_printed.proofs.Shown.{Signs, kw, mk, past, placed, index_signs, operand_signs, closed_signs, later_signs, signs, chain_signs, more_chain_signs, arguments_signs, more_arguments_signs, arm_signs, arms_signs, more_arms_signs, step_signs, steps_signs, more_steps_signs}
use Rattle.sail_printed.proofs.SpelledParts.{written_spelled, index_spelled, pattern_spelled}
use Rattle.sail_printed.proofs.Spelled.{Made, Sliced, Full, IsFull, of_operand, of_atom, of_block, of_compound, as_operand, as_closed, block_level}

-- expressions in a row are some
abbrev AreSome : Trees → Type 0
AreSome none = ⊥
AreSome (some t ts) = ⊤

-- statements in a row are some
abbrev AreSteps : Steps → Type 0
AreSteps done = ⊥
AreSteps (next s ss) = ⊤

-- a statement that is `()`
unit_is : (s : Step) → is_unit s ≡ true → unplaced_step s ≡ does (node 0 unit)
unit_is (does (node at unit)) h = refl
unit_is s h = absurd (false≢true h)

-- the last but one statement and the last one, of which the `;` alone stands where it is `()`
last_made : (s : Step) (n : ℕ) → (step_levels s ≤ n → (at : ℕ) (r : Signs) → Made Step unplaced_step (SpellsStatement n) s at (step_signs s r) r)
    → (u : Step) → (steps_levels (next u done) ≤ n → (at : ℕ) (r : Signs) → Made Steps unplaced_steps (SpellsStatements n) (next u done) at (steps_signs (next u done) (mk m.CloseBrace ∷ r)) r)
    → steps_levels (next s (next u done)) ≤ n → (at : ℕ) (r : Signs)
    → Made Steps unplaced_steps (SpellsStatements n) (next s (next u done)) at (steps_signs (next s (next u done)) (mk m.CloseBrace ∷ r)) r
last_made s n first u last l at r = either (is_unit u) refl l
  where
    either : (b : Bool) → is_unit u ≡ b → max (step_levels s) (max (later_levels b (step_levels u)) 0) ≤ n
        → Made Steps unplaced_steps (SpellsStatements n) (next s (next u done)) at (step_signs s (mk m.Semicolon ∷ later_signs b (step_signs u) (mk m.CloseBrace ∷ r))) r
    either true e l =
        let a = first (omega (arith, l)) at (mk m.Semicolon ∷ mk m.CloseBrace ∷ r) in
        record {
          to = past (past a.to (mk m.Semicolon)) (mk m.CloseBrace);
          new = next a.new (next (does (node a.to unit)) done);
          same = ap (λ x. next x (next (does (node 0 unit)) done)) a.same ∙ ap (λ x. next (unplaced_step s) (next x done)) (sym (unit_is u e));
          holds = one_more a.holds;
        }
    either false e l =
        let a = first (omega (arith, l)) at (mk m.Semicolon ∷ step_signs u (mk m.CloseBrace ∷ r)) in
        let b = last (omega (arith, l)) (past a.to (mk m.Semicolon)) r in
        record { to = b.to; new = next a.new b.new; same = ap (λ x. next x (unplaced_steps b.new)) a.same ∙ ap (λ x. next (unplaced_step s) x) b.same; holds = more_statements a.holds b.holds }

mutual
  pub tree_full : (t : Tree) → IsFormed t → IsFull t
  tree_full (node p unit) f zero l at r = absurd (omega (arith, l))
  tree_full (node p unit) f (suc n) l at r = of_atom (suc n) (node p unit) at r _ (node at unit) refl refl (λ h. h) nothing
  tree_full (node p (lit b)) f n l at r = of_atom n (node p (lit b)) at r _ (node at (lit b)) refl refl (λ h. h) a_literal
  tree_full (node p (truth true)) f n l at r = of_atom n (node p (truth true)) at r _ (node at (truth true)) refl refl (λ h. h) is_true
  tree_full (node p (truth false)) f n l at r = of_atom n (node p (truth false)) at r _ (node at (truth false)) refl refl (λ h. h) is_false
  tree_full (node p (name x)) f n l at r = of_atom n (node p (name x)) at r _ (node at (name x)) refl refl (λ h. h) a_local
  tree_full (node p (chain op none)) f n l at r = absurd f
  tree_full (node p (chain op (some t none))) f n l at r = absurd f.1
  tree_full (node p (chain op (some t (some u us)))) f n l at r =
      let a = as_operand t (tree_full t f.0) n (omega (arith, l)) at (more_chain_signs op (some u us) r) in
      let b = rest_made op (some u us) f.1 n (omega (arith, l)) (past a.to (sign.Operator op)) r in
      of_compound n (node p (chain op (some t (some u us)))) at r b.to (node _ (chain op (some a.new b.new)))
      (ap (λ x. node 0 (chain op (some x (unplaced_trees b.new)))) a.same ∙ ap (λ xs. node 0 (chain op (some (unplaced t) xs))) b.same) refl (λ h. h) (in_chain a.holds.holds b.holds)
  tree_full (node p (flip of)) f zero l at r = absurd (omega (arith, l))
  tree_full (node p (flip of)) f (suc n) l at r =
      let a = tree_full of f n (omega (arith, l)) (past (past at (mk m.Tilde)) (mk m.Open)) (mk m.Close ∷ r) in
      of_atom (suc n) (node p (flip of)) at r (past a.to (mk m.Close)) (node at (flip a.new)) (ap (λ x. node 0 (flip x)) a.same) refl (λ h. h) (flipped a.bare)
  tree_full (node p (slice of hi lo)) f n l at r =
      let behind_lo = mk m.CloseSquare ∷ r in
      let behind_hi = mk m.Dots ∷ index_signs lo behind_lo in
      let a = as_operand of (tree_full of f.0) n (omega (arith, l)) at (mk m.OpenSquare ∷ index_signs hi behind_hi) in
      let i = index_spelled hi f.1 (past a.to (mk m.OpenSquare)) behind_hi in
      let j = index_spelled lo f.2 (past i.to (mk m.Dots)) behind_lo in
      of_operand n (node p (slice of hi lo)) at r (past j.to (mk m.CloseSquare)) (node _ (slice a.new hi lo)) (ap (λ x. node 0 (slice x hi lo)) a.same) refl (λ h. h)
      (record { count = suc a.holds.count; few = omega (arith, a.holds.few); holds = sliced a.holds.holds (omega (arith, a.holds.few, l)) i.holds j.holds })
  tree_full (node p (update of hi lo by)) f zero l at r = absurd (omega (arith, l))
  tree_full (node p (update of hi lo by)) f (suc n) l at r =
      let behind_lo = mk m.Equals ∷ signs by (mk m.CloseSquare ∷ r) in
      let behind_hi = mk m.Dots ∷ index_signs lo behind_lo in
      let a = tree_full of f.0 n (omega (arith, l)) (past at (mk m.OpenSquare)) (kw k.With ∷ index_signs hi behind_hi) in
      let i = index_spelled hi f.1 (past a.to (kw k.With)) behind_hi in
      let j = index_spelled lo f.2 (past i.to (mk m.Dots)) behind_lo in
      let b = tree_full by f.3 n (omega (arith, l)) (past j.to (mk m.Equals)) (mk m.CloseSquare ∷ r) in
      of_atom (suc n) (node p (update of hi lo by)) at r (past b.to (mk m.CloseSquare)) (node at (update a.new hi lo b.new))
      (ap (λ x. node 0 (update x hi lo (unplaced b.new))) a.same ∙ ap (λ x. node 0 (update (unplaced of) hi lo x)) b.same) refl (λ h. h) (updated a.bare i.holds j.holds b.bare)
  tree_full (node p (call x args)) f zero l at r = absurd (omega (arith, l))
  tree_full (node p (call x none)) f (suc n) l at r = of_atom (suc n) (node p (call x none)) at r _ (node at (call x none)) refl refl (λ h. h) called_alone
  tree_full (node p (call x (some t ts))) f (suc n) l at r =
      let a = arguments_made (some t ts) tt f.1 n (omega (arith, l)) (past (past at (sign.Name x)) (mk m.Open)) r in
      of_atom (suc n) (node p (call x (some t ts))) at r a.to (node at (call x a.new)) (ap (λ xs. node 0 (call x xs)) a.same) refl (λ h. h) (called a.holds)
  tree_full (node p (widen signed to of)) f zero l at r = absurd (omega (arith, l))
  tree_full (node p (widen true to of)) f (suc n) l at r =
      let a = tree_full of f.1 n (omega (arith, l)) (past (past (past (past at (kw k.SignExtend)) (mk m.Open)) (sign.Number to)) (mk m.Comma)) (mk m.Close ∷ r) in
      of_atom (suc n) (node p (widen true to of)) at r (past a.to (mk m.Close)) (node at (widen true to a.new)) (ap (λ x. node 0 (widen true to x)) a.same) refl (λ h. h) (by_sign f.0 a.bare)
  tree_full (node p (widen false to of)) f (suc n) l at r =
      let a = tree_full of f.1 n (omega (arith, l)) (past (past (past (past at (kw k.ZeroExtend)) (mk m.Open)) (sign.Number to)) (mk m.Comma)) (mk m.Close ∷ r) in
      of_atom (suc n) (node p (widen false to of)) at r (past a.to (mk m.Close)) (node at (widen false to a.new)) (ap (λ x. node 0 (widen false to x)) a.same) refl (λ h. h) (by_zeros f.0 a.bare)
  tree_full (node p (choose test one other)) f zero l at r = absurd (omega (arith, l))
  tree_full (node p (choose test one other)) f (suc n) l at r =
      let a = tree_full test f.0 n (omega (arith, l)) (past at (kw k.If)) (kw k.Then ∷ closed_signs (is_open one) (signs one) (kw k.Else ∷ signs other r)) in
      let b = as_closed one (tree_full one f.1) n (omega (arith, l)) (past a.to (kw k.Then)) (kw k.Else ∷ signs other r) in
      let c = tree_full other f.2 n (omega (arith, l)) (past b.to (kw k.Else)) r in
      of_compound (suc n) (node p (choose test one other)) at r c.to (node at (choose a.new b.new c.new))
      (ap (λ x. node 0 (choose x (unplaced b.new) (unplaced c.new))) a.same ∙ ap (λ x. node 0 (choose (unplaced test) x (unplaced c.new))) b.same ∙ ap (λ x. node 0 (choose (unplaced test) (unplaced one) x)) c.same)
      refl (λ h. h) (if_else a.bare b.holds c.bare)
  tree_full (node p (when test one)) f zero l at r = absurd (omega (arith, l))
  tree_full (node p (when test one)) f (suc n) l at r =
      let a = tree_full test f.0 n (omega (arith, l)) (past at (kw k.If)) (kw k.Then ∷ signs one r) in
      let b = tree_full one f.1 n (omega (arith, l)) (past a.to (kw k.Then)) r in
      of_compound (suc n) (node p (when test one)) at r b.to (node at (when a.new b.new))
      (ap (λ x. node 0 (when x (unplaced b.new))) a.same ∙ ap (λ x. node 0 (when (unplaced test) x)) b.same) refl (λ h. h) (if_then a.bare b.bare)
  tree_full (node p (cases on arms)) f zero l at r = absurd (omega (arith, l))
  tree_full (node p (cases on arms)) f (suc zero) l at r = absurd (omega (arith, l))
  tree_full (node p (cases on arms)) f (suc (suc n)) l at r =
      let a = tree_full on f.0 (suc n) (omega (arith, l)) (past at (kw k.Match)) (mk m.OpenBrace ∷ arms_signs arms (mk m.CloseBrace ∷ r)) in
      let b = arms_made arms f.1 n (omega (arith, l)) (past a.to (mk m.OpenBrace)) r in
      of_compound (suc (suc n)) (node p (cases on arms)) at r b.to (node at (cases a.new b.new))
      (ap (λ x. node 0 (cases x (unplaced_cases b.new))) a.same ∙ ap (λ x. node 0 (cases (unplaced on) x)) b.same) refl (λ h. h) (by_cases a.bare b.holds)
  tree_full (node p (foreach x i j body)) f zero l at r = absurd (omega (arith, block_level ((tree_full body f.4 zero l at r).braced f.3)))
  tree_full (node p (foreach x i j body)) f (suc n) l at r =
      let start = past (past (past (past (past (past (past (past at (kw k.Foreach)) (mk m.Open)) (sign.Name x)) (kw k.From)) (sign.Number i)) (kw k.To)) (sign.Number j)) (mk m.Close) in
      let a = tree_full body f.4 (suc n) l start r in
      of_compound (suc n) (node p (foreach x i j body)) at r a.to (node at (foreach x i j a.new)) (ap (λ y. node 0 (foreach x i j y)) a.same) refl (λ h. h) (for_each f.1 f.2 (a.braced f.3))
  tree_full (node p (check test text)) f zero l at r = absurd (omega (arith, l))
  tree_full (node p (check test text)) f (suc n) l at r =
      let a = tree_full test f.0 n (omega (arith, l)) (past (past at (kw k.Assert)) (mk m.Open)) (mk m.Comma ∷ sign.Text text ∷ mk m.Close ∷ r) in
      of_atom (suc n) (node p (check test text)) at r _ (node at (check a.new text)) (ap (λ x. node 0 (check x text)) a.same) refl (λ h. h) (asserted a.bare)
  tree_full (node p exit) f zero l at r = absurd (omega (arith, l))
  tree_full (node p exit) f (suc n) l at r = of_atom (suc n) (node p exit) at r _ (node at exit) refl refl (λ h. h) exits
  tree_full (node p (assign x by)) f zero l at r = absurd (omega (arith, l))
  tree_full (node p (assign x by)) f (suc n) l at r =
      let a = tree_full by f.1 n (omega (arith, l)) (past (past at (sign.Name x)) (mk m.Equals)) r in
      of_compound (suc n) (node p (assign x by)) at r a.to (node at (assign x a.new)) (ap (λ y. node 0 (assign x y)) a.same) refl (λ h. h) (assigned a.bare)
  tree_full (node p (block steps)) f zero l at r = absurd (omega (arith, l))
  tree_full (node p (block done)) f (suc n) l at r = of_block (suc n) (node p (block done)) at r _ (node at (block done)) refl refl no_statement
  tree_full (node p (block (next s ss))) f (suc n) l at r =
      let a = steps_made (next s ss) tt f n (omega (arith, l)) (past at (mk m.OpenBrace)) r in
      of_block (suc n) (node p (block (next s ss))) at r a.to (node at (block a.new)) (ap (λ x. node 0 (block x)) a.same) refl (statements a.holds)

  -- the parts of a chain behind the first one
  rest_made : (op : Infix) (ts : Trees) → IsFormedRest op ts → (n : ℕ) → chain_levels ts ≤ n → (at : ℕ) (r : Signs) → Made Trees unplaced_trees (SpellsRest n op) ts at (chain_signs op ts r) r
  rest_made op none f n l at r = absurd f
  rest_made op (some t none) f n l at r =
      let a = as_operand t (tree_full t f) n (omega (arith, l)) at r in
      record { to = a.to; new = some a.new none; same = ap (λ x. some x none) a.same; holds = last_operand a.holds.holds }
  rest_made op (some t (some u us)) f n l at r =
      let a = as_operand t (tree_full t f.0) n (omega (arith, l)) at (more_chain_signs op (some u us) r) in
      let b = rest_made op (some u us) f.2 n (omega (arith, l)) (past a.to (sign.Operator op)) r in
      record { to = b.to; new = some a.new b.new; same = ap (λ x. some x (unplaced_trees b.new)) a.same ∙ ap (λ xs. some (unplaced t) xs) b.same; holds = more_operands a.holds.holds f.1 b.holds }

  -- arguments, and the bracket behind them
  arguments_made : (ts : Trees) → AreSome ts → AreFormed ts → (n : ℕ) → all_levels ts ≤ n → (at : ℕ) (r : Signs) → Made Trees unplaced_trees (SpellsArguments n) ts at (arguments_signs ts (mk m.Close ∷ r)) r
  arguments_made none some_are f n l at r = absurd some_are
  arguments_made (some t none) some_are f n l at r =
      let a = tree_full t f.0 n (omega (arith, l)) at (mk m.Close ∷ r) in
      record { to = past a.to (mk m.Close); new = some a.new none; same = ap (λ x. some x none) a.same; holds = last_argument a.bare }
  arguments_made (some t (some u us)) some_are f n l at r =
      let a = tree_full t f.0 n (omega (arith, l)) at (more_arguments_signs (some u us) (mk m.Close ∷ r)) in
      let b = arguments_made (some u us) tt f.1 n (omega (arith, l)) (past a.to (mk m.Comma)) r in
      record { to = b.to; new = some a.new b.new; same = ap (λ x. some x (unplaced_trees b.new)) a.same ∙ ap (λ xs. some (unplaced t) xs) b.same; holds = more_arguments a.bare b.holds }

  -- an arm of a match
  arm_made : (c : Case) → IsFormedCase c → (n : ℕ) → arm_levels c ≤ n → (at : ℕ) (r : Signs) → Made Case unplaced_case (SpellsArm n) c at (arm_signs c r) r
  arm_made (arm p body) f n l at r =
      let a = pattern_spelled p n f.0 (omega (arith, l)) at (mk m.FatArrow ∷ signs body r) in
      let b = tree_full body f.1 n (omega (arith, l)) (past a.to (mk m.FatArrow)) r in
      record { to = b.to; new = arm p b.new; same = ap (λ x. arm p x) b.same; holds = in_case a.holds b.bare }

  -- arms, and the brace behind them
  arms_made : (cs : Cases) → AreFormedCases cs → (n : ℕ) → arms_levels cs ≤ n → (at : ℕ) (r : Signs) → Made Cases unplaced_cases (SpellsArms n) cs at (arms_signs cs (mk m.CloseBrace ∷ r)) r
  arms_made no_case f n l at r = absurd f
  arms_made (case c no_case) f n l at r =
      let a = arm_made c f n (omega (arith, l)) at (mk m.CloseBrace ∷ r) in
      record { to = past a.to (mk m.CloseBrace); new = case a.new no_case; same = ap (λ x. case x no_case) a.same; holds = last_arm a.holds }
  arms_made (case c (case d rest)) f n l at r =
      let a = arm_made c f.0 n (omega (arith, l)) at (more_arms_signs (case d rest) (mk m.CloseBrace ∷ r)) in
      let b = arms_made (case d rest) f.1 n (omega (arith, l)) (past a.to (mk m.Comma)) r in
      record { to = b.to; new = case a.new b.new; same = ap (λ x. case x (unplaced_cases b.new)) a.same ∙ ap (λ x. case (unplaced_case c) x) b.same; holds = more_arms a.holds b.holds }

  -- a statement
  step_made : (s : Step) → IsFormedStep s → (n : ℕ) → step_levels s ≤ n → (at : ℕ) (r : Signs) → Made Step unplaced_step (SpellsStatement n) s at (step_signs s r) r
  step_made (binds x ty by) f n l at r =
      let a = written_spelled ty n f.1 (omega (arith, l)) (past (past at (kw k.Let)) (sign.Name x)) (mk m.Equals ∷ signs by r) in
      let b = tree_full by f.2 n (omega (arith, l)) (past a.to (mk m.Equals)) r in
      record { to = b.to; new = binds x ty b.new; same = ap (λ y. binds x ty y) b.same; holds = let_it_be a.holds b.bare }
  step_made (holds x ty by) f n l at r =
      let a = written_spelled ty n f.1 (omega (arith, l)) (past (past at (kw k.Var)) (sign.Name x)) (mk m.Equals ∷ signs by r) in
      let b = tree_full by f.2 n (omega (arith, l)) (past a.to (mk m.Equals)) r in
      record { to = b.to; new = holds x ty b.new; same = ap (λ y. holds x ty y) b.same; holds = var_it_is a.holds b.bare }
  step_made (does e) f n l at r = let a = tree_full e f n l at r in record { to = a.to; new = does a.new; same = ap (λ x. does x) a.same; holds = done_alone a.bare }

  -- statements, and the brace behind them
  steps_made : (ss : Steps) → AreSteps ss → AreFormedSteps ss → (n : ℕ) → steps_levels ss ≤ n → (at : ℕ) (r : Signs) → Made Steps unplaced_steps (SpellsStatements n) ss at (steps_signs ss (mk m.CloseBrace ∷ r)) r
  steps_made done some_are f n l at r = absurd some_are
  steps_made (next s done) some_are f n l at r =
      let a = step_made s f.0 n (omega (arith, l)) at (mk m.CloseBrace ∷ r) in
      record { to = past a.to (mk m.CloseBrace); new = next a.new done; same = ap (λ x. next x done) a.same; holds = last_statement a.holds }
  steps_made (next s (next u done)) some_are f n l at r =
      last_made s n (step_made s f.0 n) u (steps_made (next u done) tt f.1 n) l at r
  steps_made (next s (next u (next v rest))) some_are f n l at r =
      let a = step_made s f.0 n (omega (arith, l)) at (more_steps_signs (next u (next v rest)) (mk m.CloseBrace ∷ r)) in
      let b = steps_made (next u (next v rest)) tt f.1 n (omega (arith, l)) (past a.to (mk m.Semicolon)) r in
      record { to = b.to; new = next a.new b.new; same = ap (λ x. next x (unplaced_steps b.new)) a.same ∙ ap (λ x. next (unplaced_step s) x) b.same; holds = more_statements a.holds b.holds }
