use Rattle.std.specs.Prelude.{All}
use Rattle.term_tree.specs.Terms.{IsTyped}
use Rattle.term_arena.specs.Answers.{id_term}
use Rattle.goal_cases.proofs.goals.checked.Given as goal

-- the terms so far are typed
abbrev pub invariant-loop-text : goal.invariant-loop-text
invariant-loop-text l =
    (goal.iterator-loop-text).can_next l.text-iterator
    × (goal.iterator-loop-text).is_finite l.text-iterator
    × All (λ id. IsTyped (id_term l.terms id)) l.ids.items
