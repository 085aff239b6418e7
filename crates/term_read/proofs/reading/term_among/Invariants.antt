use Rattle.std.proofs.Common.{◌≡◌, [], length, drop}
use Rattle.term_print.specs.Words.{lexemes}
use Rattle.term_read.specs.Reading.{wanted, run}
use Rattle.term_read.specs.ReadingView.{frames_of, mode_view, HoldTerms, IsFine}
use Rattle.term_read.proofs.reading.term_among.Given as goal

-- what is left leads to the whole answer
abbrev pub invariant-loop-number : goal.invariant-loop-number
invariant-loop-number l =
    HoldTerms (frames_of l.stack) × IsFine (mode_view l.mode)
    × (run l.scope (length l.text) (frames_of l.stack) (mode_view l.mode) (drop l.number (lexemes l.text l.tokens)) ≡ run l.scope (length l.text) [] wanted (drop l.fn.from (lexemes l.text l.tokens)))
