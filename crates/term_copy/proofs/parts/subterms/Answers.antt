use Rattle.std.proofs.Common.{map}
use Rattle.term_copy.specs.Parts.{subterms_of}
use Rattle.term_tree.specs.View.{tree}
use Rattle.term_copy.proofs.PartLemmas.{one_more}
use Rattle.term_copy.proofs.parts.subterms.Goals as goal

pub loop-term-preserved : goal.loop-term-preserved
loop-term-preserved c = record {
  listed = one_more c.args.terms.now c.loop-term.term-index c.term-item.result (map tree c.loop-term.done.items) (map tree c.add_parts.new.done.items) (subterms_of (map tree c.args.terms.now)) c.term-item.is c.loop-term-test.true c.in_ok-add_parts.ensures.added c.loop-term.invariant.listed;
  terms = c.in_ok-add_parts.ensures.still_terms;
}
