use Rattle.bv_bits.proofs.CornerLemmas.{extract_of_all, zext_to_own, sext_to_own}
use Rattle.bv_bits.proofs.laws.own_width.Goals as goal

pub returns : goal.returns
returns c = record { extract = extract_of_all; zext = zext_to_own; sext = sext_to_own }
