use Rattle.std.proofs.Common.{List, All, sym, ◌∙◌, subst}
use Rattle.term_tree.specs.Terms.{IsTyped}
use Rattle.term_arena.specs.declared.node.TermId.{TermId}
use Rattle.term_arena.specs.Answers.{id_term}
use Rattle.goal_cases.proofs.GrowLemmas.{all_front, all_last}
use Rattle.goal_cases.proofs.goals.checked.Goals as goal

pub judged-requires-clause-facts : goal.judged-requires-clause-facts
judged-requires-clause-facts c =
    all_front (λ (id : TermId). IsTyped (id_term c.loop-text.terms id)) c.in_ok-goal.facts.now c.in_ok-goal.goal.now
    (subst (λ (l : List TermId). All (λ (id : TermId). IsTyped (id_term c.loop-text.terms id)) l) (sym c.as_slice.ensures.value ∙ c.in_ok-goal.ensures.cases.0) c.loop-text.invariant.2)

pub judged-requires-clause-goal : goal.judged-requires-clause-goal
judged-requires-clause-goal c =
    all_last (λ (id : TermId). IsTyped (id_term c.loop-text.terms id)) c.in_ok-goal.facts.now c.in_ok-goal.goal.now
    (subst (λ (l : List TermId). All (λ (id : TermId). IsTyped (id_term c.loop-text.terms id)) l) (sym c.as_slice.ensures.value ∙ c.in_ok-goal.ensures.cases.0) c.loop-text.invariant.2)
