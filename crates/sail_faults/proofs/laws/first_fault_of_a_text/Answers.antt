use Rattle.sail_faults.proofs.Texts.{text_fault}
use Rattle.sail_faults.proofs.laws.first_fault_of_a_text.Goals as goal

pub returns : goal.returns
returns c = record { first = text_fault c.first_fault.ensures.first }
