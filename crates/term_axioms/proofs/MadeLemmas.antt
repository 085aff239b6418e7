-- The problem of facts and a goal, from what is made of them.
use Rattle.std.proofs.Common.{◌≡◌, ℕ, true, List, [], ◌∷◌, ◌++◌, map, All, ap, sym, ◌∙◌, subst}
use Rattle.std.proofs.lemmas.List.Elements.{All-nil, All-cons, All-head, All-tail, All-map}
use Rattle.term_tree.specs.Terms.{Tree, IsTyped, width_of}
use Rattle.term_arena.specs.declared.node.TermId.{TermId}
use Rattle.term_arena.specs.Nodes.{Node}
use Rattle.term_arena.specs.Answers.{id_term}
use Rattle.term_copy.specs.Parts.{is_among}
use Rattle.axiom_rules.specs.declared.node.Sub.{Sub}
use Rattle.axiom_rules.specs.Axioms.{Problem}
use Rattle.axiom_rules.specs.Laws.{IsProblem}
use Rattle.axiom_trees.specs.Numbered.{number_in, sub_in, parts_of, problem_over, problem_of}
use Rattle.axiom_trees.specs.Laws.{AreAsked}
use Rattle.axiom_trees.proofs.ValueLemmas.{all_listed, is_problem}

-- subterms with their parts, facts and a goal by their numbers are the problem
pub made_is : (ts : List Tree) (facts : List Tree) (goal : Tree) (subs : List Sub) (fs : List ℕ) (g : ℕ) → ts ≡ parts_of facts goal → subs ≡ map (sub_in ts) ts → fs ≡ map (number_in ts) facts → g ≡ number_in ts goal
    → record { subs = subs; facts = fs; goal = g } ≡ problem_of facts goal
made_is ts facts goal subs fs g is a b c =
    ap (λ (s : List Sub). record { subs = s; facts = fs; goal = g }) a
    ∙ ap (λ (l : List ℕ). record { subs = map (sub_in ts) ts; facts = l; goal = g }) b
    ∙ ap (λ (n : ℕ). record { subs = map (sub_in ts) ts; facts = map (number_in ts) facts; goal = n }) c
    ∙ ap (λ (l : List Tree). problem_over l facts goal) is

module _ (nodes : List Node) (ids : List TermId) (id : TermId) (facts_typed : All (λ i. IsTyped (id_term nodes i)) ids) (goal_typed : IsTyped (id_term nodes id)) where
  typed : All IsTyped (map (id_term nodes) ids)
  typed = All-map IsTyped (id_term nodes) ids facts_typed

  -- what is asked
  pub asked : width_of (id_term nodes id) ≡ 1 → AreAsked (map (id_term nodes) ids) (id_term nodes id)
  asked lone = record { facts_typed = typed; goal_typed = goal_typed; lone = lone }

  pub made_problem : (p : Problem) → width_of (id_term nodes id) ≡ 1 → p ≡ problem_of (map (id_term nodes) ids) (id_term nodes id) → IsProblem p
  made_problem p lone is = subst IsProblem (sym is) (is_problem (map (id_term nodes) ids) (id_term nodes id) (asked lone))

  -- the facts and the goal are among their subterms
  pub all_there : (ts : List Tree) → ts ≡ parts_of (map (id_term nodes) ids) (id_term nodes id) → All (λ t. is_among t ts ≡ true) (map (id_term nodes) ids ++ id_term nodes id ∷ [])
  all_there ts is = subst (λ (l : List Tree). All (λ t. is_among t l ≡ true) (map (id_term nodes) ids ++ id_term nodes id ∷ [])) (sym is) (all_listed (map (id_term nodes) ids) (id_term nodes id) typed goal_typed).there

pub facts_there : (ts : List Tree) (nodes : List Node) (ids : List TermId) (goal : Tree) → All (λ t. is_among t ts ≡ true) (map (id_term nodes) ids ++ goal ∷ []) → All (λ i. is_among (id_term nodes i) ts ≡ true) ids
facts_there ts nodes [] goal h = All-nil (λ i. is_among (id_term nodes i) ts ≡ true)
facts_there ts nodes (i ∷ ids) goal h =
    All-cons (λ i. is_among (id_term nodes i) ts ≡ true) i ids (All-head (λ t. is_among t ts ≡ true) (id_term nodes i) (map (id_term nodes) ids ++ goal ∷ []) h)
    (facts_there ts nodes ids goal (All-tail (λ t. is_among t ts ≡ true) (id_term nodes i) (map (id_term nodes) ids ++ goal ∷ []) h))

pub goal_there : (ts facts : List Tree) (goal : Tree) → All (λ t. is_among t ts ≡ true) (facts ++ goal ∷ []) → is_among goal ts ≡ true
goal_there ts [] goal h = All-head (λ t. is_among t ts ≡ true) goal [] h
goal_there ts (t ∷ facts) goal h = goal_there ts facts goal (All-tail (λ t. is_among t ts ≡ true) t (facts ++ goal ∷ []) h)
