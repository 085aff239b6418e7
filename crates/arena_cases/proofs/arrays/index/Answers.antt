use Rattle.term_tree.specs.Terms.{IsIndex}
use Rattle.term_tree.specs.View.{tree}
use Rattle.arena_trees.proofs.InternLemmas.{interned_has}
use Rattle.arena_cases.proofs.arrays.index.Goals as goal

pub returns : goal.returns
returns c = record { index = interned_has IsIndex c.args.terms.now c.intern.new.terms c.intern.result (tree c.index_term-term.result) c.intern.ensures.makes c.index_term-term.ensures.index }
