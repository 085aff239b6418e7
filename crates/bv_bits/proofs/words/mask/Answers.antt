use Rattle.bv_bits.proofs.WordLemmas.{ones_of}
use Rattle.bv_bits.proofs.words.mask.Goals as goal

pub returns-else-w-eq0 : goal.returns-else-w-eq0
returns-else-w-eq0 c = ones_of c.args.w c.requires
