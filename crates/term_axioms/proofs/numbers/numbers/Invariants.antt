use Rattle.std.proofs.Common.{◌≡◌, map, take}
use Rattle.term_arena.specs.Answers.{id_term}
use Rattle.axiom_trees.specs.Numbered.{number_in}
use Rattle.term_axioms.specs.Listing.{trees}
use Rattle.term_axioms.proofs.numbers.numbers.Given as goal

-- the numbers of the terms up to here
abbrev pub invariant-loop-id : goal.invariant-loop-id
invariant-loop-id l = l.numbers.items ≡ map (number_in (trees l.terms l.places)) (map (id_term l.terms) (take l.id-index l.ids))
