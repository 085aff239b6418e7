use Rattle.std.proofs.Common.{◌≡◌, ◌++◌, map, drop}
use Rattle.std.specs.String.{string_bytes}
use Rattle.command_words.specs.Words.{marked}
use Rattle.command_words.proofs.words.spelled.Given as goal

abbrev pub invariant-loop-word : goal.invariant-loop-word
invariant-loop-word l = map (λ s. s.now) l.all.items ++ map string_bytes (drop l.word-index l.rest) ≡ marked (map string_bytes l.words)
