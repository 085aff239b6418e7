use Rattle.lex_core.specs.Forms.{IsTokenOf}
use Rattle.proof_words.proofs.ProofFormLemmas.{behind_first}
use Rattle.proof_words.proofs.rest.Rest.first.Goals as goal

pub invariant_of-result : goal.invariant_of-result
invariant_of-result c =
    record { whole = behind_first (IsTokenOf c.args.self.text.now) _ c.args.self.tokens.now c.args.self.whole }
