use Rattle.std.proofs.Common.{◌≡◌, map, take}
use Rattle.term_tree.specs.Terms.{Text}
use Rattle.axiom_trees.specs.Numbered.{sub_in}
use Rattle.term_axioms.specs.Listing.{trees}
use Rattle.term_axioms.specs.Arrays.{number_for, first_byte}
use Rattle.term_axioms.proofs.numbers.subs.Given as goal

-- the subterms up to here, and the first bytes of arrays among them
abbrev pub invariant-loop-here : goal.invariant-loop-here
invariant-loop-here l = record {
  items : l.number-items ≡ l.places;
  subs : l.subs.items ≡ map (sub_in (trees l.terms l.places)) (take l.here (trees l.terms l.places));
  arrays : (f : Text) → number_for l.arrays f ≡ first_byte (take l.here (trees l.terms l.places)) f;
}
