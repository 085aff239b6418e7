-- An expression, as its signs spell it: alone, as a part of a chain, and between `then` and `else`.
use Rattle.std.proofs.Common.{◌≡◌, ℕ, zero, suc, ◌+◌, ◌≤◌, Bool, true, false, List, [], ◌∷◌, refl, sym, subst, ◌∙◌, arith}
use Rattle.std.proofs.lemmas.Bool.{false≢true}
use Rattle.sail_syntax.specs.Tree.{Tree}
use Rattle.sail_grammar.specs.declared.mark.Mark.TheVariants as m
use Rattle.sail_grammar.specs.Words.{Words}
use Rattle.sail_grammar.specs.Expressions.{Spells, alone, SpellsOperand, unsliced, SpellsAtom, inside, braces, SpellsBlock, no_statement, statements}
use Rattle.sail_text.specs.Expressions.{is_operand, is_open}
use Rattle.sail_printed.specs.Places.{unplaced}
use Rattle.sail_printed.specs.Forms.{IsBlock}
use Rattle.sail_printed.specs.Levels.{slices, enclosed_levels, operand_levels, levels}
use Rattle.sail_printed.proofs.Shown.{Signs, mk, past, placed, operand_signs, closed_signs, signs}

-- of the signs from a place on those in front of the others spell something that differs in places alone
pub record Made (A : Type 0) (bare : A → A) (is : Words → A → Words → Type 0) (x : A) (at : ℕ) (ss r : Signs) : Type 0 where
  pub to : ℕ
  pub new : A
  pub same : bare new ≡ bare x
  pub holds : is (placed at ss) new (placed to r)

-- an operand with so many slices at most
pub record Sliced (n most : ℕ) (ts : Words) (x : Tree) (r : Words) : Type 0 where
  pub count : ℕ
  pub few : count ≤ most
  pub holds : SpellsOperand n count ts x r

-- an expression, as an operand where it is one, and as a block
pub record Full (n : ℕ) (t : Tree) (at : ℕ) (r : Signs) : Type 0 where
  pub to : ℕ
  pub new : Tree
  pub same : unplaced new ≡ unplaced t
  pub bare : Spells n (is_open t) (placed at (signs t r)) new (placed to r)
  pub inner : is_operand t ≡ true → Sliced n (slices t) (placed at (signs t r)) new (placed to r)
  pub braced : IsBlock t → SpellsBlock n (placed at (signs t r)) new (placed to r)

-- so within all levels that there are enough of
abbrev pub IsFull : Tree → Type 0
IsFull t = (n : ℕ) → levels t ≤ n → (at : ℕ) (r : Signs) → Full n t at r

-- ---- the ways to it

pub of_operand : (n : ℕ) (t : Tree) (at : ℕ) (r : Signs) (to : ℕ) (new : Tree) → unplaced new ≡ unplaced t → is_open t ≡ false → (IsBlock t → ⊥)
    → Sliced n (slices t) (placed at (signs t r)) new (placed to r) → Full n t at r
of_operand n t at r to new same closed no_block h = record {
  to = to;
  new = new;
  same = same;
  bare = subst (λ o. Spells n o (placed at (signs t r)) new (placed to r)) (sym closed) (alone h.holds);
  inner = λ q. h;
  braced = λ b. absurd (no_block b);
}

pub of_atom : (n : ℕ) (t : Tree) (at : ℕ) (r : Signs) (to : ℕ) (new : Tree) → unplaced new ≡ unplaced t → is_open t ≡ false → (IsBlock t → ⊥)
    → SpellsAtom n (placed at (signs t r)) new (placed to r) → Full n t at r
of_atom n t at r to new same closed no_block h = of_operand n t at r to new same closed no_block (record { count = 0; few = omega arith; holds = unsliced h })

pub of_block : (n : ℕ) (t : Tree) (at : ℕ) (r : Signs) (to : ℕ) (new : Tree) → unplaced new ≡ unplaced t → is_open t ≡ false
    → SpellsBlock n (placed at (signs t r)) new (placed to r) → Full n t at r
of_block n t at r to new same closed h = record {
  to = to;
  new = new;
  same = same;
  bare = subst (λ o. Spells n o (placed at (signs t r)) new (placed to r)) (sym closed) (alone (unsliced (braces h)));
  inner = λ q. record { count = 0; few = omega arith; holds = unsliced (braces h) };
  braced = λ b. h;
}

pub of_compound : (n : ℕ) (t : Tree) (at : ℕ) (r : Signs) (to : ℕ) (new : Tree) → unplaced new ≡ unplaced t → is_operand t ≡ false → (IsBlock t → ⊥)
    → Spells n (is_open t) (placed at (signs t r)) new (placed to r) → Full n t at r
of_compound n t at r to new same compound no_block h = record {
  to = to;
  new = new;
  same = same;
  bare = h;
  inner = λ q. absurd (false≢true (sym compound ∙ q));
  braced = λ b. absurd (no_block b);
}

-- ---- as a part

-- in parentheses
enclosed : (t : Tree) → IsFull t → (n : ℕ) → suc (levels t) ≤ n → (at : ℕ) (r : Signs) → Made Tree unplaced (SpellsAtom n) t at (mk m.Open ∷ signs t (mk m.Close ∷ r)) r
enclosed t full zero l at r = absurd (omega (arith, l))
enclosed t full (suc n) l at r =
    let a = full n (omega (arith, l)) (past at (mk m.Open)) (mk m.Close ∷ r) in
    record { to = past a.to (mk m.Close); new = a.new; same = a.same; holds = inside a.bare }

-- as a part of a chain, or before a slice
pub as_operand : (t : Tree) → IsFull t → (n : ℕ) → operand_levels (is_operand t) (levels t) ≤ n → (at : ℕ) (r : Signs)
    → Made Tree unplaced (Sliced n (slices t)) t at (operand_signs (is_operand t) (signs t) r) r
as_operand t full n l at r = either (is_operand t) refl l
  where
    either : (b : Bool) → is_operand t ≡ b → operand_levels b (levels t) ≤ n → Made Tree unplaced (Sliced n (slices t)) t at (operand_signs b (signs t) r) r
    either true e l = let a = full n l at r in record { to = a.to; new = a.new; same = a.same; holds = a.inner e }
    either false e l = let a = enclosed t full n l at r in record { to = a.to; new = a.new; same = a.same; holds = record { count = 0; few = omega arith; holds = unsliced a.holds } }

-- between `then` and `else`
pub as_closed : (t : Tree) → IsFull t → (n : ℕ) → enclosed_levels (is_open t) (levels t) ≤ n → (at : ℕ) (r : Signs)
    → Made Tree unplaced (Spells n false) t at (closed_signs (is_open t) (signs t) r) r
as_closed t full n l at r = either (is_open t) refl l
  where
    either : (b : Bool) → is_open t ≡ b → enclosed_levels b (levels t) ≤ n → Made Tree unplaced (Spells n false) t at (closed_signs b (signs t) r) r
    either true e l = let a = enclosed t full n l at r in record { to = a.to; new = a.new; same = a.same; holds = alone (unsliced a.holds) }
    either false e l = let a = full n l at r in record { to = a.to; new = a.new; same = a.same; holds = subst (λ o. Spells n o (placed at (signs t r)) a.new (placed a.to r)) e a.bare }

-- a block takes a level
pub block_level : {n : ℕ} {ts r : Words} {x : Tree} → SpellsBlock n ts x r → 1 ≤ n
block_level no_statement = omega arith
block_level (statements d) = omega arith
