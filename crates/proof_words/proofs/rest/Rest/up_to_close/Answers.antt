use Rattle.std.proofs.Common.{sym, ◌∙◌}
use Rattle.proof_words.proofs.ProofFormLemmas.{closes}
use Rattle.proof_words.proofs.rest.Rest.up_to_close.Goals as goal

pub returns-in-Some : goal.returns-in-Some
returns-in-Some c =
    closes c.args.self.text.now c.args.self.tokens.now _ _ c.in-Some.place (sym c.close_place.ensures.value ∙ c.in-Some.is) c.split_at.ensures.front c.split_at-in-Some.ensures.back
