use Rattle.proof_form.proofs.ProofFormRead.{text_read}
use Rattle.proof_form.proofs.laws.spelled_is_read.Goals as goal

pub returns : goal.returns
returns c = λ p ts. text_read c.args.text.now ts p
