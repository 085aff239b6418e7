use Rattle.std.proofs.Common.{arith}
use Rattle.term_tree.specs.Terms.{height}
use Rattle.term_tree.specs.View.{tree}
use Rattle.term_arena.specs.Answers.{id_term}
use Rattle.term_arena.specs.Said.{whole_term}
use Rattle.arena_trees.proofs.InternLemmas.{parts_low, not_too_high}
use Rattle.arena_trees.proofs.interning.intern.Goals as goal

pub returns-clause-low : goal.returns-clause-low
returns-clause-low c =
    let t = tree c.args.term.now in
    not_too_high c.args.terms.now c.interned.new.terms id_term c.interned.result (λ last. whole_term t) c.interned.ensures.makes (parts_low t (height t) (omega arith) c.requires.term.low)
