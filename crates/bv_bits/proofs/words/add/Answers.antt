use Rattle.std.proofs.Common.{◌+◌, ◌∙◌}
use Rattle.bv_bits.proofs.WordLemmas.{cut_twice}
use Rattle.bv_bits.proofs.words.add.Goals as goal

pub returns : goal.returns
returns c = c.low.ensures ∙ cut_twice c.args.w (c.args.x + c.args.y) c.requires
