use Rattle.std.proofs.Common.{arith}
use Rattle.term_tree.specs.Terms.{array_height}
use Rattle.term_tree.specs.View.{array_tree}
use Rattle.term_arena.specs.Answers.{id_array}
use Rattle.term_arena.specs.Said.{whole_array}
use Rattle.arena_trees.proofs.InternLemmas.{array_parts_low, not_too_high}
use Rattle.arena_trees.proofs.interning.intern_array.Goals as goal

pub returns-clause-low : goal.returns-clause-low
returns-clause-low c =
    let t = array_tree c.args.term.now in
    not_too_high c.args.terms.now c.interned_array.new.terms id_array c.interned_array.result (λ last. whole_array t) c.interned_array.ensures.makes (array_parts_low t (array_height t) (omega arith) c.requires.array.low)
