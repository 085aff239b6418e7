use Rattle.proof_form.proofs.ProofFormSpelled.{text_spelled}
use Rattle.proof_form.proofs.laws.read_is_spelled.Goals as goal

pub returns : goal.returns
returns c = text_spelled c.args.text.now
