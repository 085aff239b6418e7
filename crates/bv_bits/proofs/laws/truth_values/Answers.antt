use Rattle.bv_bits.proofs.CornerLemmas.{eq_tells, ne_tells, ult_tells, ule_tells, ugt_tells, uge_tells, slt_tells, sle_tells, sgt_tells, sge_tells, imp_tells}
use Rattle.bv_bits.proofs.laws.truth_values.Goals as goal

pub returns : goal.returns
returns c = record { equal = eq_tells; unequal = ne_tells; ult = ult_tells; ule = ule_tells; ugt = ugt_tells; uge = uge_tells; slt = slt_tells; sle = sle_tells; sgt = sgt_tells; sge = sge_tells; imp = imp_tells }
