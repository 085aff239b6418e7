use Rattle.std.proofs.Common.{◌≡◌, length, drop}
use Rattle.sail_grammar.specs.Words.{words_of}
use Rattle.sail_machine.specs.Run as run
use Rattle.sail_frames.specs.View.{frames_of, mode_of}
use Rattle.sail_reader.proofs.reader.run.Given as goal

-- the words so far, and then those of the tokens that are left
abbrev pub invariant-loop-token : goal.invariant-loop-token
invariant-loop-token l = run.run (length l.text) (frames_of l.stack) (mode_of l.mode) (words_of l.text (drop l.token-index l.tokens)) ≡ run.read (length l.text) (words_of l.text l.tokens)
