use Rattle.term_arena.specs.Answers.{id_term}
use Rattle.term_axioms.specs.Listing.{trees}
use Rattle.term_axioms.proofs.PartLemmas.{next_one}
use Rattle.term_axioms.proofs.subterms.add_all.Goals as goal

pub loop-id-preserved : goal.loop-id-preserved
loop-id-preserved c = record {
  left =
      let nodes = c.args.terms.now in
      next_one (id_term nodes) c.args.ids.now c.loop-id.id-index (trees nodes c.loop-id.done) (trees nodes c.add_parts.new.done) _ c.loop-id-test.true c.in_ok-add_parts.ensures.added
      c.loop-id.invariant.left;
  listed = c.in_ok-add_parts.ensures.still_listed;
}
