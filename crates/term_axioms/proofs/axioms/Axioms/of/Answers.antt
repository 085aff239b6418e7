use Rattle.std.proofs.Common.{map}
use Rattle.axiom_rules.specs.Axioms.{Problem}
use Rattle.term_arena.specs.Answers.{id_term}
use Rattle.term_axioms.specs.Listing.{trees}
use Rattle.term_axioms.proofs.MadeLemmas.{made_is, made_problem, all_there, facts_there, goal_there}
use Rattle.term_axioms.proofs.axioms.Axioms.of.Goals as goal

pub numbers-requires-clause-there : goal.numbers-requires-clause-there
numbers-requires-clause-there c =
    let nodes = c.args.terms.now in
    let ts = trees nodes c.in_ok-places.places in
    facts_there ts nodes c.args.facts.now (id_term nodes c.args.goal) (all_there nodes c.args.facts.now c.args.goal c.requires.facts c.requires.goal ts c.in_ok-places.ensures.parts)

pub number-goal-requires-clause-there : goal.number-goal-requires-clause-there
number-goal-requires-clause-there c =
    let nodes = c.args.terms.now in
    let ts = trees nodes c.in_ok-places.places in
    goal_there ts (map (id_term nodes) c.args.facts.now) (id_term nodes c.args.goal) (all_there nodes c.args.facts.now c.args.goal c.requires.facts c.requires.goal ts c.in_ok-places.ensures.parts)

pub of-requires : goal.of-requires
of-requires c =
    let nodes = c.args.terms.now in
    let ids = c.args.facts.now in
    let p : Problem = record { subs = c.in_ok-subs.subs.items; facts = c.in_ok-facts.facts.items; goal = c.number-goal.result } in
    made_problem nodes ids c.args.goal c.requires.facts c.requires.goal p c.requires.lone
    (made_is (trees nodes c.in_ok-places.places) (map (id_term nodes) ids) (id_term nodes c.args.goal) c.in_ok-subs.subs.items c.in_ok-facts.facts.items c.number-goal.result c.in_ok-places.ensures.parts c.in_ok-subs.ensures c.in_ok-facts.ensures
    c.number-goal.ensures)
