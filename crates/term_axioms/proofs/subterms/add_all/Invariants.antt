use Rattle.std.proofs.Common.{◌≡◌, map, drop}
use Rattle.term_arena.specs.Answers.{id_term}
use Rattle.term_copy.specs.Parts.{all_parts, first_ones}
use Rattle.axiom_trees.specs.Listed.{IsListed}
use Rattle.term_axioms.specs.Listing.{trees}
use Rattle.term_axioms.proofs.subterms.add_all.Given as goal

-- the terms that are left
abbrev pub invariant-loop-id : goal.invariant-loop-id
invariant-loop-id l = record {
  left : first_ones (trees l.terms l.done) (all_parts (map (id_term l.terms) (drop l.id-index l.ids))) ≡ first_ones (trees l.terms l.initial.done) (all_parts (map (id_term l.terms) l.ids));
  listed : IsListed (trees l.terms l.done);
}
