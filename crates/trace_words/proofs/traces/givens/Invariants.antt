use Rattle.std.proofs.Common.{◌≡◌, ◌++◌, List, map, drop, All, option_map}
use Rattle.bv_bits.specs.Bits.{IsBits}
use Rattle.trace_words.specs.Given.{GivenSaid, given_said}
use Rattle.trace_words.specs.Trace.{givens_of}
use Rattle.trace_words.proofs.traces.givens.Given as goal

-- what is said so far, and then of the rest
abbrev pub invariant-loop-word : goal.invariant-loop-word
invariant-loop-word l = record {
  value : option_map (λ (gs : List GivenSaid). map given_said l.all.items ++ gs) (givens_of (map (λ s. s.now) (drop l.word-index l.words))) ≡ givens_of (map (λ s. s.now) l.words);
  fits : All (λ g. IsBits g.bits) l.all.items;
}
