-- Subterms that are typed one by one are a problem.
use Rattle.std.proofs.Common.{◌≡◌, ℕ, zero, suc, ◌≤◌, List, [], ◌∷◌, All, Option, Some, None, refl, subst, arith}
use Rattle.std.specs.Prelude.{slice_get}
use Rattle.std.proofs.lemmas.List.Elements.{All-head, All-tail}
use Rattle.axiom_rules.specs.declared.node.Sub.{Sub}
use Rattle.axiom_rules.specs.Axioms.{width_at}
use Rattle.axiom_rules.specs.Truth.{IsTypedNode}
use Rattle.axiom_rules.specs.Laws.{IsProblem}

each_at : (P : Sub → Type 0) (xs : List Sub) → All P xs → (i : ℕ) (x : Sub) → slice_get xs i ≡ Some x → P x
each_at P [] h i x e = cc
each_at P (y ∷ ys) h zero x e = let same : y ≡ x = cc in subst P same (All-head P y ys h)
each_at P (y ∷ ys) h (suc i) x e = each_at P ys (All-tail P y ys h) i x e

abbrev IsFine : List Sub → Sub → Type 0
IsFine subs s = (s.width ≤ 128) × IsTypedNode subs s.width s.node

narrow : (subs : List Sub) → All (IsFine subs) subs → (i : ℕ) → width_at subs i ≤ 128
narrow subs h i = by (slice_get subs i) refl
  where
    by : (o : Option Sub) → slice_get subs i ≡ o → elim o [ None ↦ 0 | Some s ↦ s.width ] ≤ 128
    by None e = omega arith
    by (Some s) e = (each_at (IsFine subs) subs h i s e).0

pub fine_problem : (subs : List Sub) (facts : List ℕ) (goal : ℕ) → All (λ s. (s.width ≤ 128) × IsTypedNode subs s.width s.node) subs → width_at subs goal ≡ 1 → IsProblem (record { subs = subs; facts = facts; goal = goal })
fine_problem subs facts goal h lone = record {
  typed = record { nodes = λ i s e. (each_at (IsFine subs) subs h i s e).1 };
  small = narrow subs h;
  lone = lone;
}
