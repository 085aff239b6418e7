use Rattle.std.proofs.Common.{◌≡◌, ◌≤◌, take}
use Rattle.elf_image.specs.declared.TheConstants.{IMAGE_LIMIT}
use Rattle.elf_image.specs.Image.{memory_size}
use Rattle.elf_image.proofs.segment.exceed_limit.Given as goal

-- the sum so far is within the limit
abbrev pub invariant-loop-segment : goal.invariant-loop-segment
invariant-loop-segment l = (l.total ≡ memory_size (take l.segment-index l.segments)) × (l.total ≤ IMAGE_LIMIT)
