use Rattle.std.proofs.Common.{ℕ, List, map, ap, ◌∙◌}
use Rattle.term_copy.specs.Parts.{all_parts, first_ones}
use Rattle.term_arena.specs.Answers.{id_term}
use Rattle.term_axioms.specs.Listing.{trees}
use Rattle.term_axioms.proofs.PartLemmas.{then_goal}
use Rattle.term_axioms.proofs.subterms.subterms.Goals as goal

pub returns-clause-parts : goal.returns-clause-parts
returns-clause-parts c =
    let nodes = c.args.terms.now in
    let facts = map (id_term nodes) c.args.facts.now in
    let first = c.in_ok-add_all.ensures.added ∙ ap (λ (l : List ℕ). first_ones (trees nodes l) (all_parts facts)) c.new-done.ensures in
    then_goal facts (id_term nodes c.args.goal) (trees nodes c.add_all.new.done) (trees nodes c.add_parts.new.done) first c.in_ok-add_parts.ensures.added
