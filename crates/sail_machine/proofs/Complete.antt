-- Expressions that are spelled are read.
use Rattle.std.proofs.Common.{◌≡◌, ℕ, zero, suc, ◌+◌, ◌≤◌, ◌<◌, Bool, true, false, List, [], ◌∷◌, ◌++◌, Option, Some, None, Result, Ok, Err, refl, sym, ap, ◌∙◌, append_assoc, arith}
use Rattle.std.specs.Prelude.{⊤, if◌then◌else◌, nat_le}
use Rattle.std.proofs.lemmas.Bool.{le-leb}
use Rattle.sail_syntax.specs.Tree.{Text, Tree, node, unit, lit, truth, name, chain, flip, slice, update, call, widen, choose, when, cases, foreach, check, exit, assign, block, Trees, none, some, Case, arm, Cases, no_case, case, Step, binds, holds, does, Steps, done, next}
use Rattle.sail_syntax.specs.View.{trees, cases_of, steps_of}
use Rattle.sail_syntax.specs.declared.tree.Infix.{Infix}
use Rattle.sail_syntax.specs.declared.patterns.Pattern.{Pattern}
use Rattle.sail_grammar.specs.declared.keyword.Keyword.TheVariants as kw
use Rattle.sail_grammar.specs.declared.mark.Mark.TheVariants as m
use Rattle.sail_grammar.specs.declared.word.Sign.{Sign}
use Rattle.sail_grammar.specs.declared.word.Sign.TheVariants as sign
use Rattle.sail_grammar.specs.Words as words
use Rattle.sail_grammar.specs.Words.{Words, the, its, named, joining, place}
use Rattle.sail_grammar.specs.Expressions.{repeats, Spells, alone, in_chain, if_then, if_else, by_cases, for_each, assigned, SpellsOperand, unsliced, sliced, SpellsRest, last_operand, more_operands, SpellsAtom, a_literal, is_true, is_false, nothing, inside, braces, flipped, updated, by_zeros, by_sign, asserted, exits, called_alone, called, a_local, SpellsArguments, last_argument, more_arguments, SpellsBlock, no_statement, statements, SpellsStatements, last_statement, one_more, more_statements, SpellsStatement, let_it_be, var_it_is, done_alone, SpellsWritten, no_type, a_type, SpellsArm, in_case, SpellsArms, last_arm, last_comma, more_arms, SpellsPart, part_value, part_name, part_any, SpellsPattern, any_value, a_name, a_value, if_true, if_false, in_parts}
use Rattle.sail_machine.specs.declared.heads.Binder.{Binder}
use Rattle.sail_machine.specs.declared.heads.Binder.TheVariants as binder
use Rattle.sail_machine.specs.declared.awaited.Await.TheVariants as a
use Rattle.sail_machine.specs.declared.awaited.Fixed.TheVariants as fixed
use Rattle.sail_machine.specs.declared.awaited.Counting.TheVariants as counting
use Rattle.sail_machine.specs.declared.awaited.Sized.TheVariants as sized
use Rattle.sail_machine.specs.declared.awaited.Naming.TheVariants as naming
use Rattle.sail_machine.specs.declared.awaited.TypeUse.TheVariants as typing
use Rattle.sail_machine.specs.declared.awaited.IndexUse.TheVariants as index
use Rattle.sail_machine.specs.Frames as f
use Rattle.sail_machine.specs.Frames.{Frame, Frames, Mode, awaits, have, whole, nest}
use Rattle.sail_machine.specs.Signs.{Next, next_word, at_end}
use Rattle.sail_machine.specs.Turns.{Turn, fixes, unexpected, fails, ends, ends_in, after, infix_after, chains, statements_end, arms_end, args_end, bound, closed, opened}
use Rattle.sail_machine.specs.Machine.{assigns}
use Rattle.sail_machine.specs.Run.{Outcome, ended, last, run}
use Rattle.sail_machine.proofs.Steps.{go, goes_in, goes_shallow, goes_if, width_ok, opened_ok, same_infix_is, EndsName, EndsOperand, EndsBy, IsAfter, IsEnd, after_end, shut_end, ends_name, ends_by, before_trees, trees_last, trees_more, before_cases, cases_last, cases_more, before_steps, steps_last, steps_more}
use Rattle.sail_machine.proofs.Words.{reads_type, reads_index, reads_pattern}

-- nothing of a chain stands directly in front
abbrev pub NotChain : Frames → Type 0
NotChain (f.chained op xs p ∷ k) = ⊥
NotChain _ = ⊤

-- no foreach whose block is awaited stands directly in front
abbrev pub NotLoop : Frames → Type 0
NotLoop (f.looping x i j p ∷ k) = ⊥
NotLoop _ = ⊤

-- a block has been closed
abbrev pub closed_with : Frames → Steps → ℕ → Turn
closed_with (f.looping x i j q ∷ k) st p = Ok (k, whole (node q (foreach x i j (node p (block st)))))
closed_with k st p = Ok (k, have (node p (block st)) 0 p)

closed_is : (k : Frames) (ss : List Step) (p : ℕ) → closed k ss p ≡ closed_with k (steps_of ss) p
closed_is [] ss p = refl
closed_is (f.looping x i j q ∷ k) ss p = refl
closed_is (g ∷ k) ss p = refl

no_loop : (k : Frames) (st : Steps) (p : ℕ) → NotLoop k → closed_with k st p ≡ Ok (k, have (node p (block st)) 0 p)
no_loop [] st p h = refl
no_loop (f.looping x i j q ∷ k) st p h = absurd h
no_loop (g ∷ k) st p h = refl

new_chain : (k : Frames) (x : Tree) (p : ℕ) (op : Infix) (at : ℕ) → NotChain k → infix_after k x p op at ≡ Ok (f.chained op (x ∷ []) p ∷ k, awaits a.Operand)
new_chain [] x p op at free = refl
new_chain (f.chained op' xs q ∷ k) x p op at free = absurd free
new_chain (g ∷ k) x p op at free = refl

chain_goes : (k : Frames) (op : Infix) (xs : List Tree) (p at : ℕ) → repeats op ≡ true → chains k op xs p op at ≡ Ok (f.chained op xs p ∷ k, awaits a.Operand)
chain_goes k op xs p at h = rw (same_infix_is op) (rw h refl)

assigns_ok : (k : Frames) (x : Text) (p at : ℕ) → NotChain k → nest k + 1 ≤ 128 → assigns k x p at ≡ Ok (f.assigning x p ∷ k, awaits a.Want)
assigns_ok [] x p at free h = opened_ok [] (f.assigning x p) (awaits a.Want) p h
assigns_ok (f.chained op xs q ∷ k) x p at free h = absurd free
assigns_ok (g ∷ k) x p at free h = opened_ok (g ∷ k) (f.assigning x p) (awaits a.Want) p h

module _ (end : ℕ) where
  -- an expression has ended, and these words are left
  abbrev pub settle : Frames → Tree → Words → Outcome
  settle k x [] = ended (ends k x (at_end end)) end
  settle k x (v ∷ r) = go end (ends k x (next_word v)) r

  -- behind an operand, where nothing goes on with it
  pub run-settles : (k : Frames) (x : Tree) (c p : ℕ) (o : Bool) (r : Words) → IsEnd o r → run end k (have x c p) r ≡ settle k x r
  unfolding run
  run-settles k x c p o [] h = refl
  run-settles k x c p o (v ∷ r) h = rw h.operand.no_operator (rw h.operand.no_square refl)

  pub run-whole : (k : Frames) (x : Tree) (r : Words) → run end k (whole x) r ≡ settle k x r
  unfolding run
  run-whole k x [] = refl
  run-whole k x (v ∷ r) = refl

  -- a name that nothing goes on with
  pub run-name : (k : Frames) (x : Text) (p : ℕ) (r : Words) → IsAfter r → run end k (awaits (a.Named x p)) r ≡ run end k (have (node p (name x)) 0 p) r
  unfolding run
  run-name k x p [] h = refl
  run-name k x p (v ∷ r) h = rw h.no_open (rw h.no_equals refl)

  -- what ends with an expression
  pub settle-chain : (k : Frames) (op : Infix) (xs : List Tree) (p : ℕ) (x : Tree) (r : Words) → settle (f.chained op xs p ∷ k) x r ≡ settle k (node p (chain op (trees (xs ++ x ∷ [])))) r
  unfolding ends
  settle-chain k op xs p x [] = refl
  settle-chain k op xs p x (v ∷ r) = refl

  pub settle-assign : (k : Frames) (y : Text) (p : ℕ) (x : Tree) (r : Words) → settle (f.assigning y p ∷ k) x r ≡ settle k (node p (assign y x)) r
  unfolding ends
  settle-assign k y p x [] = refl
  settle-assign k y p x (v ∷ r) = refl

  pub settle-other : (k : Frames) (t y : Tree) (p : ℕ) (x : Tree) (r : Words) → settle (f.otherwise t y p ∷ k) x r ≡ settle k (node p (choose t y x)) r
  unfolding ends
  settle-other k t y p x [] = refl
  settle-other k t y p x (v ∷ r) = refl

  pub settle-when : (k : Frames) (t : Tree) (p : ℕ) (x : Tree) (r : Words) → IsEnd true r → settle (f.choosing t p ∷ k) x r ≡ settle k (node p (when t x)) r
  unfolding ends
  settle-when k t p x [] h = refl
  settle-when k t p x (v ∷ r) h = rw (h.no_else refl) refl

  -- the first word of an expression ends no bracket and declares nothing
  abbrev Starts : Words → Type 0
  Starts ts = (k : Frames) → (run end k (awaits a.Inside) ts ≡ run end k (awaits a.Want) ts) × ((b : Option ℕ) → run end k (awaits (a.Statement b)) ts ≡ run end k (awaits a.Want) ts)

  starts_block : {n : ℕ} {ts r : Words} {x : Tree} → SpellsBlock n ts x r → Starts ts
  unfolding run
  starts_block no_statement k = (refl, λ b. refl)
  starts_block (statements d) k = (refl, λ b. refl)

  starts_atom : {n : ℕ} {ts r : Words} {x : Tree} → SpellsAtom n ts x r → Starts ts
  unfolding run
  starts_atom a_literal k = (refl, λ b. refl)
  starts_atom is_true k = (refl, λ b. refl)
  starts_atom is_false k = (refl, λ b. refl)
  starts_atom nothing k = (refl, λ b. refl)
  starts_atom (inside d) k = (refl, λ b. refl)
  starts_atom (braces d) k = starts_block d k
  starts_atom (flipped d) k = (refl, λ b. refl)
  starts_atom (updated d i j e) k = (refl, λ b. refl)
  starts_atom (by_zeros is d) k = (refl, λ b. refl)
  starts_atom (by_sign is d) k = (refl, λ b. refl)
  starts_atom (asserted d) k = (refl, λ b. refl)
  starts_atom exits k = (refl, λ b. refl)
  starts_atom called_alone k = (refl, λ b. refl)
  starts_atom (called d) k = (refl, λ b. refl)
  starts_atom a_local k = (refl, λ b. refl)

  starts_operand : {n c : ℕ} {ts r : Words} {x : Tree} → SpellsOperand n c ts x r → Starts ts
  starts_operand (unsliced d) k = starts_atom d k
  starts_operand (sliced d room i j) k = starts_operand d k

  starts_expr : {n : ℕ} {o : Bool} {ts r : Words} {x : Tree} → Spells n o ts x r → Starts ts
  unfolding run
  starts_expr (alone d) k = starts_operand d k
  starts_expr (in_chain d e) k = starts_operand d k
  starts_expr (if_then d e) k = (refl, λ b. refl)
  starts_expr (if_else d e g) k = (refl, λ b. refl)
  starts_expr (by_cases d e) k = (refl, λ b. refl)
  starts_expr (for_each i j d) k = (refl, λ b. refl)
  starts_expr (assigned d) k = (refl, λ b. refl)

  starts_arguments : {n : ℕ} {ts r : Words} {xs : Trees} → SpellsArguments n ts xs r → Starts ts
  starts_arguments (last_argument d) k = starts_expr d k
  starts_arguments (more_arguments d ds) k = starts_expr d k

  -- that of an operand begins no other expression
  wants_block : {n : ℕ} {ts r : Words} {x : Tree} → SpellsBlock n ts x r → (k : Frames) → run end k (awaits a.Want) ts ≡ run end k (awaits a.Operand) ts
  unfolding run
  wants_block no_statement k = refl
  wants_block (statements d) k = refl

  wants_atom : {n : ℕ} {ts r : Words} {x : Tree} → SpellsAtom n ts x r → (k : Frames) → run end k (awaits a.Want) ts ≡ run end k (awaits a.Operand) ts
  unfolding run
  wants_atom a_literal k = refl
  wants_atom is_true k = refl
  wants_atom is_false k = refl
  wants_atom nothing k = refl
  wants_atom (inside d) k = refl
  wants_atom (braces d) k = wants_block d k
  wants_atom (flipped d) k = refl
  wants_atom (updated d i j e) k = refl
  wants_atom (by_zeros is d) k = refl
  wants_atom (by_sign is d) k = refl
  wants_atom (asserted d) k = refl
  wants_atom exits k = refl
  wants_atom called_alone k = refl
  wants_atom (called d) k = refl
  wants_atom a_local k = refl

  wants_operand : {n c : ℕ} {ts r : Words} {x : Tree} → SpellsOperand n c ts x r → (k : Frames) → run end k (awaits a.Want) ts ≡ run end k (awaits a.Operand) ts
  wants_operand (unsliced d) k = wants_atom d k
  wants_operand (sliced d room i j) k = wants_operand d k

  -- the first word of an arm is no brace
  starts_part : {n : ℕ} {ts r : Words} {q : _} → SpellsPart n ts q r → (k : Frames) → run end k (awaits a.ArmOrEnd) ts ≡ run end k (awaits (a.Part [])) ts
  unfolding run
  starts_part part_value k = refl
  starts_part (part_name is) k = refl
  starts_part (part_any is) k = refl

  starts_pattern : {n : ℕ} {ts r : Words} {q : _} → SpellsPattern n ts q r → (k : Frames) → run end k (awaits a.ArmOrEnd) ts ≡ run end k (awaits (a.Part [])) ts
  unfolding run
  starts_pattern any_value k = refl
  starts_pattern a_name k = refl
  starts_pattern a_value k = refl
  starts_pattern if_true k = refl
  starts_pattern if_false k = refl
  starts_pattern (in_parts d ds) k = starts_part d k

  starts_arms : {n : ℕ} {ts r : Words} {cs : Cases} → SpellsArms n ts cs r → (k : Frames) → run end k (awaits a.ArmOrEnd) ts ≡ run end k (awaits (a.Part [])) ts
  starts_arms (last_arm (in_case d e)) k = starts_pattern d k
  starts_arms (last_comma (in_case d e)) k = starts_pattern d k
  starts_arms (more_arms (in_case d e) ds) k = starts_pattern d k

  -- a statement has ended, and these words are left
  abbrev settle_statements : Frames → List Step → ℕ → Words → Outcome
  settle_statements k ss p [] = ended (statements_end k ss p (at_end end)) end
  settle_statements k ss p (v ∷ r) = go end (statements_end k ss p (next_word v)) r

  settle-does : (k : Frames) (ss : List Step) (p : ℕ) (x : Tree) (r : Words) → settle (f.statements ss p ∷ k) x r ≡ settle_statements k (ss ++ does x ∷ []) p r
  unfolding ends ends_in
  settle-does k ss p x [] = refl
  settle-does k ss p x (v ∷ r) = refl

  settle-binds : (k : Frames) (ss : List Step) (b : Binder) (y : Text) (t : Option _) (p : ℕ) (x : Tree) (r : Words) → settle (f.binding ss b y t p ∷ k) x r ≡ settle_statements k (ss ++ bound b y t x ∷ []) p r
  unfolding ends ends_in
  settle-binds k ss b y t p x [] = refl
  settle-binds k ss b y t p x (v ∷ r) = refl

  settle-arm : (k : Frames) (y : Tree) (cs : List Case) (pt : Pattern) (p : ℕ) (x : Tree) (v : _) (r : Words) → settle (f.armed y cs pt p ∷ k) x (v ∷ r) ≡ go end (arms_end k y (cs ++ arm pt x ∷ []) p (next_word v)) r
  unfolding ends ends_in
  settle-arm k y cs pt p x v r = refl

  -- the type that is written for a local, and the `=`
  reads_written : {n : ℕ} {ts r : Words} {t : Option _} {at : ℕ} → SpellsWritten n ts t (its m.Equals at ∷ r) → (k : Frames) (p : ℕ) (ss : List Step) (b : Binder) (x : Text) → (nest k + 1) + n ≤ 128
      → run end (f.statements ss p ∷ k) (awaits (a.LocalMore b x)) ts ≡ run end (f.binding ss b x t p ∷ k) (awaits a.Want) r
  unfolding run
  reads_written no_type k p ss b x deep = refl
  reads_written (a_type d) k p ss b x deep = reads_type end d (f.statements ss p ∷ k) (typing.Local b x) deep

  mutual
    unfolding run ends ends_in

    pub reads_expr : {n : ℕ} {o : Bool} {ts r : Words} {x : Tree} → Spells n o ts x r → (k : Frames) → nest k + n ≤ 128 → NotChain k → NotLoop k → IsEnd o r → run end k (awaits a.Want) ts ≡ settle k x r
    reads_expr (alone {c = c} {ts = ts} {r = r} {x = x} d) k deep free loop h =
        wants_operand d k ∙ reads_operand d k deep loop (after_end false r h) ∙ run-settles k x c (place ts) false r h
    reads_expr (in_chain {c = c} {q = q} {op = op} {ts = ts} {r = r} {r' = r'} {x = x} {xs = xs} d ds) k deep free loop h =
        wants_operand d k ∙ reads_operand d k deep loop (ends_name _ refl refl)
        ∙ ap (λ (t : Turn). go end t r) (new_chain k x (place ts) op q free)
        ∙ reads_rest ds k (place ts) (x ∷ []) deep h
    reads_expr (if_then {n = n} {p = p} {b = b} {ts = ts} {r' = r'} {t = t} {y = y} d e) k deep free loop h =
        goes_in end k (f.testing p) (awaits a.Want) p ts (omega arith) ∙ reads_expr d (f.testing p ∷ k) (omega arith) tt tt (ends_by _ _ refl refl refl refl refl)
        ∙ reads_expr e (f.choosing t p ∷ k) (omega arith) tt tt (shut_end b r' h) ∙ settle-when k t p y r' h
    reads_expr (if_else {n = n} {p = p} {ts = ts} {r'' = r''} {t = t} {y = y} {z = z} d e g) k deep free loop h =
        goes_in end k (f.testing p) (awaits a.Want) p ts (omega arith) ∙ reads_expr d (f.testing p ∷ k) (omega arith) tt tt (ends_by _ _ refl refl refl refl refl)
        ∙ reads_expr e (f.choosing t p ∷ k) (omega arith) tt tt (record { operand = record { name = ends_name _ refl refl; no_square = refl; no_operator = refl }; no_else = λ is. absurd cc })
        ∙ reads_expr g (f.otherwise t y p ∷ k) (omega arith) tt tt h ∙ settle-other k t y p z r''
    reads_expr (by_cases {n = n} {p = p} {q = q} {ts = ts} {r = r} {r' = r'} {x = x} {arms = cs} d ds) k deep free loop h =
        goes_in end k (f.subject p) (awaits a.Want) p ts (omega arith) ∙ reads_expr d (f.subject p ∷ k) (omega arith) tt tt (ends_by _ _ refl refl refl refl refl)
        ∙ goes_in end k (f.arms x [] p) (awaits (a.Part [])) q r (omega arith) ∙ reads_arms ds k x p [] (omega arith)
    reads_expr (for_each {n = n} {i = i} {j = j} {p = p} {q = q} {s = s} {t = t} {e = e} {e' = e'} {u = u} {v = v} {x = x} {ts = ts} {r = r} {body = body} hi hj d) k deep free loop h =
        goes_shallow end k (a.Name (naming.Each p)) q (named x s ∷ the kw.From t ∷ words.counted i e ∷ the kw.To e' ∷ words.counted j u ∷ its m.Close v ∷ ts) (omega arith)
        ∙ goes_if end _ (fixes k (fixed.EachTo x i p)) (unexpected e) (the kw.To e' ∷ words.counted j u ∷ its m.Close v ∷ ts) (le-leb i 127 hi)
        ∙ goes_if end _ (fixes k (fixed.EachClose x i j p)) (unexpected u) (its m.Close v ∷ ts) (le-leb j 127 hj)
        ∙ reads_loop d k x i j p (omega arith) ∙ run-whole k (node p (foreach x i j body)) r
    reads_expr (assigned {n = n} {p = p} {q = q} {x = x} {ts = ts} {r = r} {by = by} d) k deep free loop h =
        ap (λ (t : Turn). go end t ts) (assigns_ok k x p q free (omega arith)) ∙ reads_expr d (f.assigning x p ∷ k) (omega arith) tt tt h ∙ settle-assign k x p by r

    reads_operand : {n c : ℕ} {ts r : Words} {x : Tree} → SpellsOperand n c ts x r → (k : Frames) → nest k + n ≤ 128 → NotLoop k → IsAfter r → run end k (awaits a.Operand) ts ≡ run end k (have x c (place ts)) r
    reads_operand (unsliced d) k deep loop h = reads_atom d k deep loop h
    reads_operand (sliced {n = n} {c = c} {q = q} {s = s} {e = e} {ts = ts} {r = r} {r' = r'} {x = x} {hi = hi} d room i j) k deep loop h =
        reads_operand d k deep loop (ends_name _ refl refl)
        ∙ goes_in end k (f.slicing x c (place ts)) (awaits (a.Index index.High)) q r (omega arith)
        ∙ reads_index end index.High i (f.slicing x c (place ts) ∷ k) ∙ reads_index end (index.Low hi) j (f.slicing x c (place ts) ∷ k)

    reads_rest : {n : ℕ} {op : Infix} {ts r : Words} {xs : Trees} → SpellsRest n op ts xs r → (k : Frames) (p : ℕ) (ys : List Tree) → nest k + n ≤ 128 → IsEnd false r
        → run end (f.chained op ys p ∷ k) (awaits a.Operand) ts ≡ settle k (node p (chain op (before_trees ys xs))) r
    reads_rest (last_operand {n = n} {c = c} {op = op} {ts = ts} {r = r} {x = x} d) k p ys deep h =
        reads_operand d (f.chained op ys p ∷ k) (omega arith) tt (after_end false r h) ∙ run-settles (f.chained op ys p ∷ k) x c (place ts) false r h ∙ settle-chain k op ys p x r
        ∙ ap (λ (l : Trees). settle k (node p (chain op l)) r) (trees_last ys x)
    reads_rest {r = r'} (more_operands {n = n} {q = q} {op = op} {r = r} {x = x} {xs = xs} d rep ds) k p ys deep h =
        reads_operand d (f.chained op ys p ∷ k) (omega arith) tt (ends_name _ refl refl)
        ∙ ap (λ (t : Turn). go end t r) (chain_goes k op (ys ++ x ∷ []) p q rep)
        ∙ reads_rest ds k p (ys ++ x ∷ []) deep h
        ∙ ap (λ (l : Trees). settle k (node p (chain op l)) r') (trees_more ys x xs)

    reads_atom : {n : ℕ} {ts r : Words} {x : Tree} → SpellsAtom n ts x r → (k : Frames) → nest k + n ≤ 128 → NotLoop k → IsAfter r → run end k (awaits a.Operand) ts ≡ run end k (have x 0 (place ts)) r
    reads_atom a_literal k deep loop h = refl
    reads_atom is_true k deep loop h = refl
    reads_atom is_false k deep loop h = refl
    reads_atom (nothing {n = n} {p = p} {q = q} {r = r}) k deep loop h = goes_in end k (f.paren p) (awaits a.Inside) p (its m.Close q ∷ r) (omega arith)
    reads_atom (inside {n = n} {p = p} {ts = ts} d) k deep loop h =
        goes_in end k (f.paren p) (awaits a.Inside) p ts (omega arith) ∙ (starts_expr d (f.paren p ∷ k)).0 ∙ reads_expr d (f.paren p ∷ k) (omega arith) tt tt (ends_by _ _ refl refl refl refl refl)
    reads_atom (braces d) k deep loop h = reads_block d k deep loop
    reads_atom (flipped {n = n} {p = p} {q = q} {ts = ts} d) k deep loop h =
        goes_in end k (f.flipping p) (awaits a.Want) q ts (omega arith) ∙ reads_expr d (f.flipping p ∷ k) (omega arith) tt tt (ends_by _ _ refl refl refl refl refl)
    reads_atom (updated {n = n} {p = p} {ts = ts} {x = x} {hi = hi} {lo = lo} d i j e) k deep loop h =
        goes_in end k (f.updating p) (awaits a.Want) p ts (omega arith) ∙ reads_expr d (f.updating p ∷ k) (omega arith) tt tt (ends_by _ _ refl refl refl refl refl)
        ∙ reads_index end index.WithHigh i (f.indexing x p ∷ k) ∙ reads_index end (index.WithLow hi) j (f.indexing x p ∷ k)
        ∙ reads_expr e (f.replacing x hi lo p ∷ k) (omega arith) tt tt (ends_by _ _ refl refl refl refl refl)
    reads_atom (by_zeros {n = n} {w = v} {p = p} {q = q} {s = s} {t = t} {ts = ts} is d) k deep loop h =
        goes_in end k (f.widening false p) (awaits (a.Number (counting.Width sized.Widening))) q (words.counted v s ∷ its m.Comma t ∷ ts) (omega arith)
        ∙ goes_if end _ (fixes (f.widening false p ∷ k) (fixed.WidenComma v)) (unexpected s) (its m.Comma t ∷ ts) (width_ok v is)
        ∙ reads_expr d (f.widened false v p ∷ k) (omega arith) tt tt (ends_by _ _ refl refl refl refl refl)
    reads_atom (by_sign {n = n} {w = v} {p = p} {q = q} {s = s} {t = t} {ts = ts} is d) k deep loop h =
        goes_in end k (f.widening true p) (awaits (a.Number (counting.Width sized.Widening))) q (words.counted v s ∷ its m.Comma t ∷ ts) (omega arith)
        ∙ goes_if end _ (fixes (f.widening true p ∷ k) (fixed.WidenComma v)) (unexpected s) (its m.Comma t ∷ ts) (width_ok v is)
        ∙ reads_expr d (f.widened true v p ∷ k) (omega arith) tt tt (ends_by _ _ refl refl refl refl refl)
    reads_atom (asserted {n = n} {p = p} {q = q} {ts = ts} d) k deep loop h =
        goes_in end k (f.asserting p) (awaits a.Want) q ts (omega arith) ∙ reads_expr d (f.asserting p ∷ k) (omega arith) tt tt (ends_by _ _ refl refl refl refl refl)
    reads_atom (exits {n = n} {p = p} {q = q} {s = s} {r = r}) k deep loop h = goes_shallow end k (a.Fixed (fixed.ExitClose p)) q (its m.Close s ∷ r) (omega arith)
    reads_atom (called_alone {n = n} {p = p} {q = q} {s = s} {f = x} {r = r}) k deep loop h = goes_in end k (f.args x [] p) (awaits a.Inside) q (its m.Close s ∷ r) (omega arith)
    reads_atom (called {n = n} {p = p} {q = q} {f = x} {ts = ts} d) k deep loop h =
        goes_in end k (f.args x [] p) (awaits a.Inside) q ts (omega arith) ∙ (starts_arguments d (f.args x [] p ∷ k)).0 ∙ reads_arguments d k x p [] (omega arith)
    reads_atom (a_local {p = p} {x = x} {r = r}) k deep loop h = run-name k x p r h

    reads_arguments : {n : ℕ} {ts r : Words} {xs : Trees} → SpellsArguments n ts xs r → (k : Frames) (g : Text) (p : ℕ) (ys : List Tree) → (nest k + 1) + n ≤ 128
        → run end (f.args g ys p ∷ k) (awaits a.Want) ts ≡ run end k (have (node p (call g (before_trees ys xs))) 0 p) r
    reads_arguments (last_argument {r = r} {x = x} d) k g p ys deep =
        reads_expr d (f.args g ys p ∷ k) deep tt tt (ends_by _ _ refl refl refl refl refl) ∙ ap (λ (l : Trees). run end k (have (node p (call g l)) 0 p) r) (trees_last ys x)
    reads_arguments {r = r'} (more_arguments {x = x} {xs = xs} d ds) k g p ys deep =
        reads_expr d (f.args g ys p ∷ k) deep tt tt (ends_by _ _ refl refl refl refl refl) ∙ reads_arguments ds k g p (ys ++ x ∷ []) deep
        ∙ ap (λ (l : Trees). run end k (have (node p (call g l)) 0 p) r') (trees_more ys x xs)

    reads_block : {n : ℕ} {ts r : Words} {x : Tree} → SpellsBlock n ts x r → (k : Frames) → nest k + n ≤ 128 → NotLoop k → run end k (awaits a.Operand) ts ≡ run end k (have x 0 (place ts)) r
    reads_block (no_statement {n = n} {p = p} {q = q} {r = r}) k deep loop =
        goes_in end k (f.statements [] p) (awaits (a.Statement None)) p (its m.CloseBrace q ∷ r) (omega arith)
        ∙ ap (λ (t : Turn). go end t r) (closed_is k [] p ∙ no_loop k done p loop)
    reads_block (statements {n = n} {p = p} {ts = ts} {r = r} {steps = st} d) k deep loop =
        goes_in end k (f.statements [] p) (awaits (a.Statement None)) p ts (omega arith)
        ∙ reads_statements d k p [] None (omega arith) ∙ ap (λ (t : Turn). go end t r) (no_loop k st p loop)

    reads_loop : {n : ℕ} {ts r : Words} {body : Tree} → SpellsBlock n ts body r → (k : Frames) (x : Text) (i j p : ℕ) → nest k + n ≤ 128
        → run end k (awaits (a.Fixed (fixed.EachBlock x i j p))) ts ≡ run end k (whole (node p (foreach x i j body))) r
    reads_loop (no_statement {n = n} {p = b} {q = q} {r = r}) k x i j p deep =
        goes_in end (f.looping x i j p ∷ k) (f.statements [] b) (awaits (a.Statement None)) b (its m.CloseBrace q ∷ r) (omega arith)
    reads_loop (statements {n = n} {p = b} {ts = ts} d) k x i j p deep =
        goes_in end (f.looping x i j p ∷ k) (f.statements [] b) (awaits (a.Statement None)) b ts (omega arith)
        ∙ reads_statements d (f.looping x i j p ∷ k) b [] None (omega arith)

    -- statements, and the brace behind them
    reads_statements : {n : ℕ} {ts r : Words} {st : Steps} → SpellsStatements n ts st r → (k : Frames) (p : ℕ) (ss : List Step) (b : Option ℕ) → (nest k + 1) + n ≤ 128
        → run end (f.statements ss p ∷ k) (awaits (a.Statement b)) ts ≡ go end (closed_with k (before_steps ss st) p) r
    reads_statements (last_statement {q = q} {r = r} {s = s} d) k p ss b deep =
        reads_statement d k p ss b deep (λ o. ends_by _ _ refl refl refl refl refl) ∙ ap (λ (t : Turn). go end t r) (closed_is k (ss ++ s ∷ []) p)
        ∙ ap (λ (l : Steps). go end (closed_with k l p) r) (steps_last ss s)
    reads_statements (one_more {p = at} {q = q} {r = r} {s = s} d) k p ss b deep =
        reads_statement d k p ss b deep (λ o. ends_by _ _ refl refl refl refl refl)
        ∙ ap (λ (t : Turn). go end t r) (closed_is k ((ss ++ s ∷ []) ++ does (node at unit) ∷ []) p)
        ∙ ap (λ (l : Steps). go end (closed_with k l p) r) (steps_last (ss ++ s ∷ []) (does (node at unit)) ∙ steps_more ss s (next (does (node at unit)) done))
    reads_statements {r = r'} (more_statements {q = q} {r = r} {s = s} {steps = st} d ds) k p ss b deep =
        reads_statement d k p ss b deep (λ o. ends_by _ _ refl refl refl refl refl) ∙ reads_statements ds k p (ss ++ s ∷ []) (Some q) deep
        ∙ ap (λ (l : Steps). go end (closed_with k l p) r') (steps_more ss s st)

    reads_statement : {n : ℕ} {ts r : Words} {s : Step} → SpellsStatement n ts s r → (k : Frames) (p : ℕ) (ss : List Step) (b : Option ℕ) → (nest k + 1) + n ≤ 128 → ((o : Bool) → IsEnd o r)
        → run end (f.statements ss p ∷ k) (awaits (a.Statement b)) ts ≡ settle_statements k (ss ++ s ∷ []) p r
    reads_statement (let_it_be {o = o} {x = x} {t = t} {r' = r'} {by = by} d e) k p ss b deep h =
        reads_written d k p ss binder.Let x deep ∙ reads_expr e (f.binding ss binder.Let x t p ∷ k) deep tt tt (h o) ∙ settle-binds k ss binder.Let x t p by r'
    reads_statement (var_it_is {o = o} {x = x} {t = t} {r' = r'} {by = by} d e) k p ss b deep h =
        reads_written d k p ss binder.Var x deep ∙ reads_expr e (f.binding ss binder.Var x t p ∷ k) deep tt tt (h o) ∙ settle-binds k ss binder.Var x t p by r'
    reads_statement (done_alone {o = o} {r = r} {x = x} d) k p ss b deep h =
        (starts_expr d (f.statements ss p ∷ k)).1 b ∙ reads_expr d (f.statements ss p ∷ k) deep tt tt (h o) ∙ settle-does k ss p x r

    -- arms, and the brace behind them
    reads_arms : {n : ℕ} {ts r : Words} {cs : Cases} → SpellsArms n ts cs r → (k : Frames) (x : Tree) (p : ℕ) (ys : List Case) → (nest k + 2) + n ≤ 128
        → run end (f.arms x ys p ∷ k) (awaits (a.Part [])) ts ≡ settle k (node p (cases x (before_cases ys cs))) r
    reads_arms (last_arm {r = r} (in_case {p = pt} {x = y} d e)) k x p ys deep =
        reads_pattern end d k x ys p deep ∙ reads_expr e (f.armed x ys pt p ∷ k) deep tt tt (ends_by _ _ refl refl refl refl refl)
        ∙ run-whole k (node p (cases x (cases_of (ys ++ arm pt y ∷ [])))) r ∙ ap (λ (l : Cases). settle k (node p (cases x l)) r) (cases_last ys (arm pt y))
    reads_arms (last_comma {r = r} (in_case {p = pt} {x = y} d e)) k x p ys deep =
        reads_pattern end d k x ys p deep ∙ reads_expr e (f.armed x ys pt p ∷ k) deep tt tt (ends_by _ _ refl refl refl refl refl)
        ∙ run-whole k (node p (cases x (cases_of (ys ++ arm pt y ∷ [])))) r ∙ ap (λ (l : Cases). settle k (node p (cases x l)) r) (cases_last ys (arm pt y))
    reads_arms {r = r'} (more_arms {all = cs} (in_case {p = pt} {x = y} d e) ds) k x p ys deep =
        reads_pattern end d k x ys p deep ∙ reads_expr e (f.armed x ys pt p ∷ k) deep tt tt (ends_by _ _ refl refl refl refl refl)
        ∙ starts_arms ds (f.arms x (ys ++ arm pt y ∷ []) p ∷ k) ∙ reads_arms ds k x p (ys ++ arm pt y ∷ []) deep
        ∙ ap (λ (l : Cases). settle k (node p (cases x l)) r') (cases_more ys (arm pt y) cs)
