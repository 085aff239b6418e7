use Rattle.std.proofs.Common.{◌≡◌, [], ◌∷◌, ◌++◌, map, drop}
use Rattle.term_arena.specs.Answers.{id_term}
use Rattle.term_copy.specs.Parts.{postorder, all_parts, first_ones}
use Rattle.axiom_trees.specs.Listed.{IsListed}
use Rattle.term_axioms.specs.Listing.{trees}
use Rattle.term_axioms.proofs.subterms.+add_parts.Given as goal

abbrev pub decreases-add_parts : goal.decreases-add_parts
decreases-add_parts l = l.id.number

-- the arguments that are left, and then the term
abbrev pub invariant-loop-arg : goal.invariant-loop-arg
invariant-loop-arg l = record {
  left : first_ones (trees l.terms l.done) (all_parts (map (id_term l.terms) (drop l.arg-index l.args)) ++ id_term l.terms l.id ∷ []) ≡ first_ones (trees l.terms l.initial.done) (postorder (id_term l.terms l.id));
  listed : IsListed (trees l.terms l.done);
}
