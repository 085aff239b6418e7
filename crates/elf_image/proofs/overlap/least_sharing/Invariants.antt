use Rattle.elf_image.specs.Sweep.{IsGreatestEnd, IsLeastSharing}
use Rattle.elf_image.proofs.overlap.least_sharing.Given as goal

-- the greatest end and the least one that takes part, of those so far
abbrev pub invariant-loop-place : goal.invariant-loop-place
invariant-loop-place l = IsGreatestEnd l.sorted l.place l.greatest × IsLeastSharing l.sorted l.place l.least
