-- What follows an operand, and the first word of an expression.
use Rattle.std.proofs.Common.{◌≡◌, ℕ, true, false, List, [], ◌∷◌, ◌++◌, Option, Some, None, Ok, refl, sym, subst, ap, ◌∙◌}
use Rattle.std.specs.Prelude.{if◌then◌else◌}
use Rattle.sail_syntax.specs.Tree.{Text, Tree, node, name, chain, Trees, none, some}
use Rattle.sail_syntax.specs.View.{trees}
use Rattle.sail_syntax.specs.Program.{Definition}
use Rattle.sail_syntax.specs.declared.tree.Infix.{Infix}
use Rattle.sail_grammar.specs.declared.keyword.Keyword.TheVariants as kw
use Rattle.sail_grammar.specs.declared.mark.Mark.TheVariants as m
use Rattle.sail_grammar.specs.declared.word.Sign.{Sign}
use Rattle.sail_grammar.specs.declared.word.Sign.TheVariants as sign
use Rattle.sail_grammar.specs.declared.word.Word.{Word}
use Rattle.sail_grammar.specs.Words.{Words, the, its, named, joining}
use Rattle.sail_grammar.specs.Expressions as g
use Rattle.sail_grammar.specs.Expressions.{repeats, Spells, SpellsOperand}
use Rattle.sail_machine.specs.declared.fault.Flaw.TheVariants as flaw
use Rattle.sail_machine.specs.declared.awaited.Await.TheVariants as a
use Rattle.sail_machine.specs.declared.awaited.IndexUse.TheVariants as index
use Rattle.sail_machine.specs.Frames as f
use Rattle.sail_machine.specs.Frames.{Frames, awaits}
use Rattle.sail_machine.specs.Signs.{next_word, operator_in, same_infix}
use Rattle.sail_machine.specs.Turns.{unexpected, fails, opened, ends, chains, infix_after, after_by, after}
use Rattle.sail_machine.specs.Machine.{one_word, keyword_word, operand_word, want, closes, inside, assigns}
use Rattle.sail_machine.specs.Machine as machine
use Rattle.sail_machine.proofs.Steps.{trees_last, trees_more}
use Rattle.sail_machine.proofs.Complete.{NotChain}
use Rattle.sail_machine.proofs.Rests.{left, below, Fits, Taken}
use Rattle.sail_machine.proofs.Awaiting.{Inside, Turned}
use Rattle.sail_machine.proofs.SignLemmas.{by_operator, same_operator}
use Rattle.sail_machine.proofs.Found.{same_level, atom_found, tested, keyworded, marked, opened_found, next_of, Follows}
use Rattle.sail_machine.proofs.FoundEnds.{shut_ends, end_found}

-- an operand of a chain, at the level in front of it
operand_there : {us r : Words} {x : Tree} {c : ℕ} (k : Frames) → SpellsOperand (below k 0) c us x r → SpellsOperand (left k) c us x r
operand_there {us = us} {r = r} {x = x} {c = c} k d = subst (λ (n : ℕ). SpellsOperand n c us x r) (same_level k) d

module _ (D : List Definition) where
  -- ---- behind an operand

  more_chain : {op : Infix} {at : ℕ} {ws : Words} (k : Frames) (xs : List Tree) (p : ℕ) (x : Tree) (c q : ℕ) → repeats op ≡ true → Fits D (f.chained op (xs ++ x ∷ []) p ∷ k) ws
      → Taken D (f.chained op xs p ∷ k) x c q (joining op at ∷ ws)
  more_chain {op = op} k xs p x c q again h = λ us at d free vs front.
      h free vs (λ ys r ds. subst (λ (l : Trees). Spells (left k) false vs (node p (chain op l)) r) (sym (trees_more xs x ys)) (front (some x ys) r (g.more_operands (operand_there k d) again ds)))

  chains_found : {at : ℕ} {ws : Words} (k : Frames) (before : Infix) (xs : List Tree) (p : ℕ) (x : Tree) (c q : ℕ) (op : Infix) → Turned D (chains k before (xs ++ x ∷ []) p op at) ws
      → Taken D (f.chained before xs p ∷ k) x c q (joining op at ∷ ws)
  chains_found {at = at} {ws = ws} k before xs p x c q op h =
      tested D (same_infix before op) (if repeats op then Ok (f.chained before (xs ++ x ∷ []) p ∷ k, awaits a.Operand) else unexpected at) (fails flaw.Mixed at) ws
      (λ same h'. tested D (repeats op) (Ok (f.chained before (xs ++ x ∷ []) p ∷ k, awaits a.Operand)) (unexpected at) ws
      (λ again more.
      let e : before ≡ op = same_operator before op same in
      subst (λ (o : Infix). Taken D (f.chained before xs p ∷ k) x c q (joining o at ∷ ws)) e (more_chain k xs p x c q (ap repeats e ∙ again) more))
      (λ e g'. absurd g') h')
      (λ e g'. absurd g') h

  new_chain : {at : ℕ} {ws : Words} (k : Frames) (x : Tree) (c p : ℕ) (op : Infix) → NotChain k → Fits D (f.chained op (x ∷ []) p ∷ k) ws → Taken D k x c p (joining op at ∷ ws)
  new_chain k x c p op free h = λ us at d.
      h free us (λ ys r ds. subst (λ (z : ℕ). Spells (left k) false us (node z (chain op (some x ys))) r) at (g.in_chain d ds))

  infix_found : {at : ℕ} {ws : Words} (k : Frames) (x : Tree) (c p : ℕ) (op : Infix) → Turned D (infix_after k x p op at) ws → Taken D k x c p (joining op at ∷ ws)
  infix_found (f.chained before xs q ∷ k) x c p op h = chains_found k before xs q x c p op h
  infix_found [] x c p op h = λ us at d. tt
  infix_found (g' ∷ k) x c p op h = new_chain (g' ∷ k) x c p op tt h

  slice_found : {at : ℕ} {ws : Words} (k : Frames) (x : Tree) (c p : ℕ) → Turned D (opened k (f.slicing x c p) (awaits (a.Index index.High)) at) ws → Taken D k x c p (its m.OpenSquare at ∷ ws)
  slice_found {at = at} {ws = ws} k x c p h = opened_found D k (f.slicing x c p) (awaits (a.Index index.High)) at ws (λ room more us at' d. more room us at at' d) h

  module _ (end : ℕ) where
    -- an operand that ends its expression
    pub operand_found : (k : Frames) (x : Tree) (c p : ℕ) (r : Words) → Follows D end r (ends k x (next_of D end r)) → Taken D k x c p r
    unfolding ends
    operand_found (f.chained op xs q ∷ k) x c p r h = λ us at d free vs front.
        end_found D end k (node q (chain op (trees (xs ++ x ∷ [])))) false r (shut_ends r) h free vs
        (subst (λ (l : Trees). Spells (left k) false vs (node q (chain op l)) r) (sym (trees_last xs x)) (front (some x none) r (g.last_operand (operand_there k d))))
    operand_found [] x c p r h = λ us at d. tt
    operand_found (g' ∷ k) x c p r h = λ us at d. end_found D end (g' ∷ k) x false r (shut_ends r) h tt us (g.alone d)

    plain_found : (k : Frames) (x : Tree) (c p : ℕ) (w : Word) (ws : Words) → Turned D (after_by k x c p (next_word w) None) ws → Taken D k x c p (w ∷ ws)
    plain_found k x c p w ws h =
        marked D m.OpenSquare w.sign w.at (λ r. Taken D k x c p r) ws (opened k (f.slicing x c p) (awaits (a.Index index.High)) w.at) (ends k x (next_word w))
        (slice_found k x c p) (λ h'. operand_found k x c p (w ∷ ws) h') h

    by_next : (k : Frames) (x : Tree) (c p : ℕ) (w : Word) (ws : Words) (o : Option Infix) → operator_in w.sign ≡ o → Turned D (after_by k x c p (next_word w) o) ws → Taken D k x c p (w ∷ ws)
    by_next k x c p w ws None e h = plain_found k x c p w ws h
    by_next k x c p w ws (Some op) e h =
        subst (λ (z : Sign). Taken D k x c p (record { sign = z; at = w.at } ∷ ws)) (sym (by_operator op w.sign e)) (infix_found k x c p op h)

    pub after_found : (k : Frames) (x : Tree) (c p : ℕ) (w : Word) (ws : Words) → Turned D (after k x c p (next_word w)) ws → Taken D k x c p (w ∷ ws)
    after_found k x c p w ws h = by_next k x c p w ws (operator_in w.sign) refl h

  -- ---- the first word of an expression

  one_word_found : (k : Frames) (s : Sign) (at : ℕ) (ws : Words) → Turned D (one_word k s at) ws → Fits D k (record { sign = s; at = at } ∷ ws)
  one_word_found k (sign.Literal b) at ws h = h (record { sign = sign.Literal b; at = at } ∷ ws) refl (g.unsliced g.a_literal)
  one_word_found k (sign.Name x) at ws h = h
  one_word_found k (sign.Keyword word) at ws h = absurd h
  one_word_found k (sign.Number n) at ws h = absurd h
  one_word_found k (sign.Text z) at ws h = absurd h
  one_word_found k (sign.Operator op) at ws h = absurd h
  one_word_found k (sign.Mark which) at ws h = absurd h

  keyword_found : (k : Frames) (w : Word) (ws : Words) → Turned D (keyword_word k w) ws → Fits D k (w ∷ ws)
  keyword_found k w ws h =
      keyworded D kw.True w.sign w.at (λ r. Fits D k r) ws _ _ (λ taken. taken (the kw.True w.at ∷ ws) refl (g.unsliced g.is_true))
      (keyworded D kw.False w.sign w.at (λ r. Fits D k r) ws _ _ (λ taken. taken (the kw.False w.at ∷ ws) refl (g.unsliced g.is_false))
      (keyworded D kw.ZeroExtend w.sign w.at (λ r. Fits D k r) ws _ _ (λ more. more)
      (keyworded D kw.SignExtend w.sign w.at (λ r. Fits D k r) ws _ _ (λ more. more)
      (keyworded D kw.Assert w.sign w.at (λ r. Fits D k r) ws _ _ (λ more. more)
      (keyworded D kw.Exit w.sign w.at (λ r. Fits D k r) ws _ _ (λ more. more) (one_word_found k w.sign w.at ws)))))) h

  pub operand_word_found : (k : Frames) (w : Word) (ws : Words) → Turned D (operand_word k w) ws → Fits D k (w ∷ ws)
  operand_word_found k w ws h =
      marked D m.Open w.sign w.at (λ r. Fits D k r) ws _ _ (opened_found D k (f.paren w.at) (awaits a.Inside) w.at ws (λ room more. more room))
      (marked D m.OpenBrace w.sign w.at (λ r. Fits D k r) ws _ _ (opened_found D k (f.statements [] w.at) (awaits (a.Statement None)) w.at ws (λ room more. more refl room))
      (marked D m.OpenSquare w.sign w.at (λ r. Fits D k r) ws _ _ (opened_found D k (f.updating w.at) (awaits a.Want) w.at ws (λ room more. more tt room))
      (marked D m.Tilde w.sign w.at (λ r. Fits D k r) ws _ _ (λ more. more) (keyword_found k w ws)))) h

  pub want_found : (k : Frames) (w : Word) (ws : Words) → Turned D (want k w) ws → NotChain k → Fits D k (w ∷ ws)
  want_found k w ws h free =
      keyworded D kw.If w.sign w.at (λ r. Fits D k r) ws _ _ (opened_found D k (f.testing w.at) (awaits a.Want) w.at ws (λ room more. more tt free room))
      (keyworded D kw.Match w.sign w.at (λ r. Fits D k r) ws _ _ (opened_found D k (f.subject w.at) (awaits a.Want) w.at ws (λ room more. more tt free room))
      (keyworded D kw.Foreach w.sign w.at (λ r. Fits D k r) ws _ _ (λ more. more free) (operand_word_found k w ws))) h

  -- ---- an expression, or the bracket

  pub inside_found : (k : Frames) (w : Word) (ws : Words) → Turned D (inside k w) ws → Inside D k (w ∷ ws)
  inside_found (f.paren p ∷ k) w ws h =
      marked D m.Close w.sign w.at (λ r. Fits D (f.paren p ∷ k) r) ws (closes (f.paren p ∷ k) w.at) (want (f.paren p ∷ k) w)
      (λ taken room. atom_found D k taken refl room g.nothing) (λ h'. want_found (f.paren p ∷ k) w ws h' tt) h
  inside_found (f.args c [] p ∷ k) w ws h =
      marked D m.Close w.sign w.at (λ r. Inside D (f.args c [] p ∷ k) r) ws (closes (f.args c [] p ∷ k) w.at) (want (f.args c [] p ∷ k) w)
      (λ taken room q. atom_found D k taken refl room g.called_alone) (λ h' room q. want_found (f.args c [] p ∷ k) w ws h' tt room (w ∷ ws) q (λ ys r ds. ds)) h
  inside_found [] w ws h = tt
  inside_found (f.args c (x ∷ xs) p ∷ k) w ws h = tt
  inside_found (g' ∷ k) w ws h = tt

  -- ---- behind a name

  assigns_found : (k : Frames) (x : Text) (p at : ℕ) (ws : Words) → Turned D (assigns k x p at) ws → Fits D k (named x p ∷ its m.Equals at ∷ ws)
  assigns_found (f.chained op xs q ∷ k) x p at ws h = absurd h
  assigns_found [] x p at ws h = tt
  assigns_found (g' ∷ k) x p at ws h = opened_found D (g' ∷ k) (f.assigning x p) (awaits a.Want) p ws (λ room more. more tt tt room at) h

  pub named_found : (end : ℕ) (k : Frames) (x : Text) (p : ℕ) (w : Word) (ws : Words) → Turned D (machine.named k x p w) ws → Fits D k (named x p ∷ w ∷ ws)
  named_found end k x p w ws h =
      marked D m.Open w.sign w.at (λ r. Fits D k (named x p ∷ r)) ws _ _ (opened_found D k (f.args x [] p) (awaits a.Inside) w.at ws (λ room more. more room w.at))
      (marked D m.Equals w.sign w.at (λ r. Fits D k (named x p ∷ r)) ws _ _ (assigns_found k x p w.at ws)
      (λ h'. after_found end k (node p (name x)) 0 p w ws h' (named x p ∷ w ∷ ws) refl (g.unsliced g.a_local))) h
