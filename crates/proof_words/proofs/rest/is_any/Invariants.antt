use Rattle.std.proofs.Common.{◌≡◌, drop, bytes_eq}
use Rattle.std.specs.List.{list_any}
use Rattle.proof_words.proofs.rest.is_any.Given as goal

-- none of those before it is the name
abbrev pub invariant-loop-word : goal.invariant-loop-word
invariant-loop-word l =
    list_any (λ word. bytes_eq l.name word.now) (drop l.word-index l.words) ≡ list_any (λ word. bytes_eq l.name word.now) l.words
