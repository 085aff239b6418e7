-- Where an expression has ended: what ends with it, and what follows.
use Rattle.std.proofs.Common.{◌≡◌, ℕ, suc, ◌+◌, ◌≤◌, Bool, true, false, List, [], ◌∷◌, ◌++◌, Option, Some, Ok, refl, sym, subst, ◌∙◌, arith}
use Rattle.std.specs.Prelude.{⊤}
use Rattle.bv_bits.specs.Bits.{IsWidth}
use Rattle.sail_syntax.specs.Tree.{Text, Tree, node, flip, update, call, widen, choose, when, cases, assign, block, Trees, none, some, Case, arm, Cases, no_case, case, Step, does, Steps, done, next}
use Rattle.sail_syntax.specs.View.{trees, cases_of, steps_of}
use Rattle.sail_syntax.specs.Program.{Definition}
use Rattle.sail_syntax.specs.declared.types.Ty.{Ty}
use Rattle.sail_grammar.specs.declared.keyword.Keyword.TheVariants as kw
use Rattle.sail_grammar.specs.declared.mark.Mark.TheVariants as m
use Rattle.sail_grammar.specs.declared.word.Sign.{Sign}
use Rattle.sail_grammar.specs.Words as words
use Rattle.sail_grammar.specs.Words.{Words, the, its, named, place}
use Rattle.sail_grammar.specs.Expressions as g
use Rattle.sail_grammar.specs.Expressions.{Spells, SpellsAtom, SpellsArguments, SpellsArms, SpellsArm, SpellsStatements, SpellsStatement, SpellsBlock, SpellsWritten}
use Rattle.sail_machine.specs.declared.fault.Flaw.TheVariants as flaw
use Rattle.sail_machine.specs.declared.heads.Binder.{Binder}
use Rattle.sail_machine.specs.declared.heads.Binder.TheVariants as binder
use Rattle.sail_machine.specs.declared.awaited.Await.TheVariants as a
use Rattle.sail_machine.specs.declared.awaited.IndexUse.TheVariants as index
use Rattle.sail_machine.specs.Frames as f
use Rattle.sail_machine.specs.Frames.{Frames, Mode, awaits, have, whole, nest}
use Rattle.sail_machine.specs.Signs.{is_keyword}
use Rattle.sail_machine.specs.Turns.{unexpected, opened, operand, args_end, arms_end, statements_end, closed, bound, function_of, defined, ends, ends_in}
use Rattle.sail_machine.proofs.Steps.{trees_last, trees_more, cases_last, steps_last}
use Rattle.sail_machine.proofs.Rests.{left, below, binder_word, widen_word, ArmsFit, StatementsFit, Fits, Ended}
use Rattle.sail_machine.proofs.Awaiting.{Left, Turned}
use Rattle.sail_machine.proofs.SignLemmas.{by_keyword}
use Rattle.sail_machine.proofs.Found.{same_level, one_level, second_level, up_expression, up_block, atom_found, tested, opened_found, next_of, Follows, lost, met, met_alone, met_keyword}
use Rattle.sail_machine.proofs.FoundDefinitions.{definition_found, body_found}

-- where an expression ended open, no `else` comes next
abbrev pub NoElse : Bool → Words → Type 0
NoElse o [] = ⊤
NoElse o (w ∷ ws) = o ≡ true → is_keyword kw.Else w.sign ≡ false

pub shut_ends : (r : Words) → NoElse false r
shut_ends [] = tt
shut_ends (w ∷ ws) = λ is. absurd cc

ends_shut : (o b : Bool) → (o ≡ true → b ≡ false) → b ≡ true → o ≡ false
ends_shut false b h e = refl
ends_shut true b h e = absurd (let f : b ≡ false = h refl in cc)

-- a match, by what it is on and its arms
pub matches : {o : Bool} {us vs r : Words} {x : Tree} {cs : Cases} {p q : ℕ} (k : Frames) → nest k + 2 ≤ 128 → Spells (below k 1) o us x (its m.OpenBrace q ∷ vs) → SpellsArms (below k 2) vs cs r
    → Spells (left k) false (the kw.Match p ∷ us) (node p (cases x cs)) r
matches {o = o} {us = us} {vs = vs} {r = r} {x = x} {cs = cs} {p = p} {q = q} k room on all =
    let level : suc (suc (below k 2)) ≡ left k = omega (arith, room) in
    subst (λ (n : ℕ). Spells n false (the kw.Match p ∷ us) (node p (cases x cs)) r) level
    (g.by_cases (subst (λ (n : ℕ). Spells n o us x (its m.OpenBrace q ∷ vs)) (sym (second_level k room)) on) all)

widens : {o : Bool} {n w q s t e : ℕ} {us r : Words} {x : Tree} (signed : Bool) (p : ℕ) → IsWidth w → Spells n o us x (its m.Close e ∷ r)
    → SpellsAtom (suc n) (widen_word signed p ∷ its m.Open q ∷ words.counted w s ∷ its m.Comma t ∷ us) (node p (widen signed w x)) r
widens false p is d = g.by_zeros is d
widens true p is d = g.by_sign is d

widen_place : (signed : Bool) (p : ℕ) (r : Words) → place (widen_word signed p ∷ r) ≡ p
widen_place false p r = refl
widen_place true p r = refl

declares : {o : Bool} {n q s : ℕ} {y : Text} {t : Option Ty} {us vs r : Words} {x : Tree} (b : Binder) (at : ℕ) → SpellsWritten n us t (its m.Equals s ∷ vs) → Spells n o vs x r
    → SpellsStatement n (binder_word b at ∷ named y q ∷ us) (bound b y t x) r
declares binder.Let at w d = g.let_it_be w d
declares binder.Var at w d = g.var_it_is w d

module _ (D : List Definition) where
  -- a block is closed
  pub closed_found : {ws : Words} (k : Frames) (ss : List Step) (p : ℕ) → Turned D (closed k ss p) ws → (us : Words) → place us ≡ p → SpellsBlock (left k) us (node p (block (steps_of ss))) ws → Fits D k us
  closed_found [] ss p h us at d = tt
  closed_found {ws = ws} (f.looping x i j q ∷ k) ss p h us at d = λ free room hi hj q' s t e e' u v.
      h free (the kw.Foreach q ∷ its m.Open q' ∷ named x s ∷ the kw.From t ∷ words.counted i e ∷ the kw.To e' ∷ words.counted j u ∷ its m.Close v ∷ us)
      (up_expression k room (g.for_each hi hj (subst (λ (n : ℕ). SpellsBlock n us (node p (block (steps_of ss))) ws) (same_level k ∙ sym (one_level k room)) d)))
  closed_found (g' ∷ k) ss p h us at d = h us at (g.unsliced (g.braces d))

  else_found : {at : ℕ} {ws : Words} (k : Frames) (t x : Tree) (p : ℕ) → Left D (f.otherwise t x p ∷ k) (awaits a.Want) ws → Ended D (f.choosing t p ∷ k) x false (the kw.Else at ∷ ws)
  else_found {at = at} k t x p h = λ free us d free' room vs o q test. h tt free' room vs us o q at test d

  module _ (end : ℕ) where
    nothing : {X : Type 0} (r : Words) (at : ℕ) → Follows D end r (unexpected at) → X
    nothing r at h = lost D end r (record { flaw = flaw.Unexpected; at = at }) h

    args_found : (k : Frames) (c : Text) (xs : List Tree) (p : ℕ) (o : Bool) (x : Tree) (r : Words) → Follows D end r (args_end k c (xs ++ x ∷ []) p (next_of D end r))
        → (us : Words) → Spells (below k 1) o us x r → Fits D (f.args c xs p ∷ k) us
    args_found k c xs p o x r h =
        met D end m.Comma r (λ r'. (us : Words) → Spells (below k 1) o us x r' → Fits D (f.args c xs p ∷ k) us) (λ at. Ok (f.args c (xs ++ x ∷ []) p ∷ k, awaits a.Want)) _
        (λ at ws more us d room vs q front. more tt room vs q (λ ys r' ds. subst (λ (l : Trees). SpellsArguments (below k 1) vs l r') (sym (trees_more xs x ys)) (front (some x ys) r' (g.more_arguments d ds))))
        (λ h'. met_alone D end m.Close r (λ r'. (us : Words) → Spells (below k 1) o us x r' → Fits D (f.args c xs p ∷ k) us) (λ at. operand k p (node p (call c (trees (xs ++ x ∷ [])))))
        (λ at ws taken us d room vs q front. atom_found D k taken refl room (g.called (subst (λ (l : Trees). SpellsArguments (below k 1) vs l ws) (sym (trees_last xs x)) (front (some x none) ws (g.last_argument d))))) h') h

    arms_found : (k : Frames) (x : Tree) (cs : List Case) (c : Case) (p : ℕ) (r : Words) → Follows D end r (arms_end k x (cs ++ c ∷ []) p (next_of D end r))
        → (us : Words) → SpellsArm (below k 2) us c r → ArmsFit k (Fits D k) x cs p us
    arms_found k x cs c p r h =
        met D end m.Comma r (λ r'. (us : Words) → SpellsArm (below k 2) us c r' → ArmsFit k (Fits D k) x cs p us) (λ at. Ok (f.arms x (cs ++ c ∷ []) p ∷ k, awaits a.ArmOrEnd)) _
        (λ at ws more us d. more cs c us at refl d)
        (λ h'. met_alone D end m.CloseBrace r (λ r'. (us : Words) → SpellsArm (below k 2) us c r' → ArmsFit k (Fits D k) x cs p us) (λ at. Ok (k, whole (node p (cases x (cases_of (cs ++ c ∷ []))))))
        (λ at ws more us d free room vs vs' o q on front. more free (the kw.Match p ∷ vs)
        (matches k room on (subst (λ (l : Cases). SpellsArms (below k 2) vs' l ws) (sym (cases_last cs c)) (front (case c no_case) ws (g.last_arm d))))) h') h

    pub statement_found : (k : Frames) (ss : List Step) (s : Step) (p : ℕ) (r : Words) → Follows D end r (statements_end k (ss ++ s ∷ []) p (next_of D end r))
        → (us : Words) → SpellsStatement (below k 1) us s r → StatementsFit k (Fits D k) ss p us
    statement_found k ss s p r h =
        met D end m.Semicolon r (λ r'. (us : Words) → SpellsStatement (below k 1) us s r' → StatementsFit k (Fits D k) ss p us) (λ at. Ok (f.statements (ss ++ s ∷ []) p ∷ k, awaits (a.Statement (Some at)))) _
        (λ at ws more us d. more ss s us refl d)
        (λ h'. met_alone D end m.CloseBrace r (λ r'. (us : Words) → SpellsStatement (below k 1) us s r' → StatementsFit k (Fits D k) ss p us) (λ at. closed k (ss ++ s ∷ []) p)
        (λ at ws more us d room vs front. closed_found k (ss ++ s ∷ []) p more (its m.OpenBrace p ∷ vs) refl
        (up_block k room (g.statements (subst (λ (l : Steps). SpellsStatements (below k 1) vs l ws) (sym (steps_last ss s)) (front (next s done) ws (g.last_statement d)))))) h') h

    -- an expression has ended
    pub end_found : (k : Frames) (x : Tree) (o : Bool) (r : Words) → NoElse o r → Follows D end r (ends k x (next_of D end r)) → Ended D k x o r
    unfolding ends ends_in
    end_found [] x o r e h = λ free us d. tt
    end_found (f.program ds ∷ k) x o r e h = λ free us d. tt
    end_found (f.body head t ∷ k) x o r e h = λ free us d. body_found D k head t x (definition_found D end (defined k (function_of head t x)) r h) us d
    end_found (f.paren p ∷ k) x o r e h =
        met_alone D end m.Close r (λ r'. Ended D (f.paren p ∷ k) x o r') (λ at. operand k p x) (λ at ws taken free us d room. atom_found D k taken refl room (g.inside d)) h
    end_found (f.args c xs p ∷ k) x o r e h = λ free us d. args_found k c xs p o x r h us d
    end_found (f.testing p ∷ k) x o r e h =
        met_keyword D end kw.Then r (λ r'. Ended D (f.testing p ∷ k) x o r') (Ok (f.choosing x p ∷ k, awaits a.Want)) (λ at ws more free us d free' room. more tt free' room us o at d) h
    end_found (f.choosing t p ∷ k) x o [] e h = λ free us d free' room vs o' q test. end_found k (node p (when t x)) true [] tt h free' (the kw.If p ∷ vs) (up_expression k room (g.if_then test d))
    end_found (f.choosing t p ∷ k) x o (w ∷ ws) e h =
        tested D (is_keyword kw.Else w.sign) (Ok (f.otherwise t x p ∷ k, awaits a.Want)) (ends k (node p (when t x)) (next_of D end (w ∷ ws))) ws
        (λ is more. subst (λ (b : Bool). Ended D (f.choosing t p ∷ k) x b (w ∷ ws)) (sym (ends_shut o (is_keyword kw.Else w.sign) e is))
        (subst (λ (z : Sign). Ended D (f.choosing t p ∷ k) x false (record { sign = z; at = w.at } ∷ ws)) (sym (by_keyword kw.Else w.sign is)) (else_found k t x p more)))
        (λ not more. λ free us d free' room vs o' q test. end_found k (node p (when t x)) true (w ∷ ws) (λ is. not) more free' (the kw.If p ∷ vs) (up_expression k room (g.if_then test d))) h
    end_found (f.otherwise t y p ∷ k) x o r e h = λ free us d free' room vs vs' o' q s test one. end_found k (node p (choose t y x)) o r e h free' (the kw.If p ∷ vs) (up_expression k room (g.if_else test one d))
    end_found (f.subject p ∷ k) x o r e h =
        met_alone D end m.OpenBrace r (λ r'. Ended D (f.subject p ∷ k) x o r') (λ at. opened k (f.arms x [] p) (awaits (a.Part [])) at)
        (λ at ws. opened_found D k (f.arms x [] p) (awaits (a.Part [])) at ws (λ deep more free us d free' room. more free' deep us ws o at d (λ all r' ds. ds))) h
    end_found (f.arms on cs p ∷ k) x o r e h = nothing r _ h
    end_found (f.armed on cs pt p ∷ k) x o r e h = λ free us d vs q pattern. arms_found k on cs (arm pt x) p r h vs (g.in_case pattern d)
    end_found (f.chained op xs p ∷ k) x o r e h = λ free us d. absurd free
    end_found (f.assigning y p ∷ k) x o r e h = λ free us d free' room q. end_found k (node p (assign y x)) o r e h free' (named y p ∷ its m.Equals q ∷ us) (up_expression k room (g.assigned d))
    end_found (f.flipping p ∷ k) x o r e h =
        met_alone D end m.Close r (λ r'. Ended D (f.flipping p ∷ k) x o r') (λ at. operand k p (node p (flip x))) (λ at ws taken free us d room q. atom_found D k taken refl room (g.flipped d)) h
    end_found (f.slicing y c p ∷ k) x o r e h = nothing r _ h
    end_found (f.updating p ∷ k) x o r e h =
        met_keyword D end kw.With r (λ r'. Ended D (f.updating p ∷ k) x o r') (Ok (f.indexing x p ∷ k, awaits (a.Index index.WithHigh))) (λ at ws more free us d room. more room us o at d) h
    end_found (f.indexing y p ∷ k) x o r e h = nothing r _ h
    end_found (f.replacing y hi lo p ∷ k) x o r e h =
        met_alone D end m.CloseSquare r (λ r'. Ended D (f.replacing y hi lo p ∷ k) x o r') (λ at. operand k p (node p (update y hi lo x)))
        (λ at ws taken free us d room vs vs' vs'' o' q s t of i j. atom_found D k taken refl room (g.updated of i j d)) h
    end_found (f.widening signed p ∷ k) x o r e h = nothing r _ h
    end_found (f.widened signed n p ∷ k) x o r e h =
        met_alone D end m.Close r (λ r'. Ended D (f.widened signed n p ∷ k) x o r') (λ at. operand k p (node p (widen signed n x)))
        (λ at ws taken free us d room is q s t. atom_found D k taken (widen_place signed p (its m.Open q ∷ words.counted n s ∷ its m.Comma t ∷ us)) room (widens signed p is d)) h
    end_found (f.asserting p ∷ k) x o r e h =
        met_alone D end m.Comma r (λ r'. Ended D (f.asserting p ∷ k) x o r') (λ at. Ok (f.asserted x p ∷ k, awaits a.Text)) (λ at ws more free us d room q. more room us o q at d) h
    end_found (f.asserted y p ∷ k) x o r e h = nothing r _ h
    end_found (f.looping y i j p ∷ k) x o r e h = nothing r _ h
    end_found (f.statements ss p ∷ k) x o r e h = λ free us d. statement_found k ss (does x) p r h us (g.done_alone d)
    end_found (f.binding ss b y t p ∷ k) x o r e h = λ free us d vs at q s written. statement_found k ss (bound b y t x) p r h (binder_word b at ∷ named y q ∷ vs) (declares b at written d)
