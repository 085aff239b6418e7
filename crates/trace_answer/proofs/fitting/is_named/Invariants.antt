use Rattle.std.proofs.Common.{◌≡◌, bytes_eq, map, drop}
use Rattle.std.specs.List.{list_any}
use Rattle.trace_words.specs.Given.{given_said}
use Rattle.trace_answer.proofs.fitting.is_named.Given as goal

-- none of those before names it
abbrev pub invariant-loop-other : goal.invariant-loop-other
invariant-loop-other l =
    list_any (λ h. bytes_eq h.name l.name) (map given_said (drop l.other-index l.rest)) ≡ list_any (λ h. bytes_eq h.name l.name) (map given_said l.rest)
