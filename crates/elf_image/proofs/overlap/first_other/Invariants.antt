use Rattle.std.proofs.Common.{◌≡◌, drop}
use Rattle.elf_image.specs.Sweep.{first_other}
use Rattle.elf_image.proofs.overlap.first_other.Given as goal

-- what is left gives the answer
abbrev pub invariant-loop-other : goal.invariant-loop-other
invariant-loop-other l = first_other l.segment (drop l.other-index l.segments) ≡ first_other l.segment l.segments
