use Rattle.std.proofs.Common.{◌≡◌, map, drop}
use Rattle.std.specs.Prelude.{All}
use Rattle.term_tree.specs.Terms.{IsTerm}
use Rattle.term_copy.specs.Parts.{all_parts, first_ones, subterms_of}
use Rattle.term_tree.specs.View.{tree}
use Rattle.term_copy.proofs.parts.subterms.Given as goal

abbrev pub invariant-loop-term : goal.invariant-loop-term
invariant-loop-term l = record {
  listed : first_ones (map tree l.done.items) (all_parts (map tree (drop l.term-index l.terms))) ≡ subterms_of (map tree l.terms);
  terms : All (λ t. IsTerm (tree t)) l.done.items;
}
