use Rattle.std.proofs.Common.{◌≡◌, ◌-◌}
use Rattle.constants_walk.specs.Conditions.{bytes_in, code_in}
use Rattle.constants_walk.proofs.CodeLemmas.{with_rest}
use Rattle.constants_walk.proofs.code.code_of.Given as goal

-- the bytes so far, and those that are left, are all of them
abbrev pub invariant-loop-at : goal.invariant-loop-at
invariant-loop-at l = with_rest l.code (bytes_in l.image.memory l.at (l.hi - l.at)) ≡ code_in l.image.memory l.lo l.hi
