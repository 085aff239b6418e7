use Rattle.std.proofs.Common.{◌≡◌, [], length, drop}
use Rattle.term_print.specs.Words.{lexemes}
use Rattle.term_read.specs.Reading.{array_wanted, array_run}
use Rattle.term_read.specs.ReadingView.{array_frames_of, array_mode_view, HoldArrays, IsFineArrayMode}
use Rattle.term_read.proofs.reading.array_among.Given as goal

-- what is left leads to the whole answer
abbrev pub invariant-loop-number : goal.invariant-loop-number
invariant-loop-number l =
    HoldArrays (array_frames_of l.arrays) × IsFineArrayMode (array_mode_view l.mode)
    × (array_run l.scope (length l.text) (array_frames_of l.arrays) (array_mode_view l.mode) (drop l.number (lexemes l.text l.tokens)) ≡ array_run l.scope (length l.text) [] array_wanted (drop l.fn.from (lexemes l.text l.tokens)))
