-- What the axioms say of the facts and the goal.
use Rattle.std.specs.Prelude.{◌≡◌, ℕ, ◌≤◌, List, Some, IsTrue, All}
use Rattle.clause_core.specs.declared.Lit.{Lit}
use Rattle.clause_core.specs.declared.Hint.TheVariants.{Axiom}
use Rattle.clause_core.specs.Clauses.{clause_holds}
use Rattle.clause_core.specs.Meaning.{HaveNoModel}
use Rattle.axiom_rules.specs.Axioms.{Problem, width_at, clause_in}
use Rattle.axiom_rules.specs.Truth.{IsTyped, AreValues, assignment}

-- typed subterms, none more than 128 bits wide, and a goal of one bit
pub record IsProblem (p : Problem) : Type 0 where
  pub typed : IsTyped p.subs
  pub small : (i : ℕ) → width_at p.subs i ≤ 128
  pub lone : width_at p.subs p.goal ≡ 1

-- whatever numbers the subterms have, the bits that they give make the clause of each axiom true
abbrev pub AxiomsAreTrue : Problem → Type 0
AxiomsAreTrue p =
    (val : ℕ → ℕ) → AreValues p.subs val → (i part j row : ℕ) (c : List Lit) → clause_in p (Axiom i part j row) ≡ Some c → IsTrue (clause_holds (assignment p.subs val) c)

-- the goal is 1 wherever all facts are
abbrev pub GoalFollows : Problem → Type 0
GoalFollows p = (val : ℕ → ℕ) → AreValues p.subs val → All (λ i. val i ≡ 1) p.facts → val p.goal ≡ 1

-- where no bits make all named clauses true, the goal follows from the facts
abbrev pub NoModelTells : Problem → Type 0
NoModelTells p = HaveNoModel (clause_in p) → GoalFollows p
