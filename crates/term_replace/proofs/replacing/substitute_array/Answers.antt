use Rattle.term_tree.specs.View.{array_tree}
use Rattle.term_replace.specs.Replaced.{replacements}
use Rattle.term_replace.proofs.ReplacedLemmas.{replaced_bytes}
use Rattle.term_replace.proofs.replacing.substitute_array.Goals as goal

pub returns-clause-bytes : goal.returns-clause-bytes
returns-clause-bytes c =
    replaced_bytes (replacements c.args.bits.now c.args.arrays.now) (array_tree c.args.array.now) c.replaced_in_array.result c.requires.by c.requires.fits c.requires.array.typed c.replaced_in_array.ensures.answer
