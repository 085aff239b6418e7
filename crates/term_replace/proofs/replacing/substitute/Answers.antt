use Rattle.term_tree.specs.View.{tree}
use Rattle.term_replace.specs.Replaced.{replacements}
use Rattle.term_replace.proofs.ReplacedLemmas.{replaced_value}
use Rattle.term_replace.proofs.replacing.substitute.Goals as goal

pub returns-clause-value : goal.returns-clause-value
returns-clause-value c =
    replaced_value (replacements c.args.bits.now c.args.arrays.now) (tree c.args.term.now) c.replaced.result c.requires.by c.requires.fits c.requires.term.typed c.replaced.ensures.answer
