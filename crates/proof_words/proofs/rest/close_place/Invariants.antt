use Rattle.std.proofs.Common.{◌≡◌, drop}
use Rattle.std.specs.List.{position_from}
use Rattle.proof_words.specs.ProofFormWords.{lexemes, is_close}
use Rattle.proof_words.proofs.rest.close_place.Given as goal

-- none of those before it is `}`
abbrev pub invariant-loop-place : goal.invariant-loop-place
invariant-loop-place l =
    position_from is_close l.place (lexemes l.text (drop l.place l.tokens)) ≡ position_from is_close 0 (lexemes l.text l.tokens)
