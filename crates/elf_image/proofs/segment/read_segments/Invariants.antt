use Rattle.std.proofs.Common.{◌≡◌, ◌+◌, ◌-◌, ◌*◌}
use Rattle.elf_image.specs.Fields.{e_phoff, e_phnum}
use Rattle.elf_image.specs.Segments.{headers_from, segments_of}
use Rattle.elf_image.proofs.HeaderLemmas.{in_front}
use Rattle.elf_image.proofs.segment.read_segments.Given as goal

-- the segments so far, and those of the headers that are left
abbrev pub invariant-loop-number : goal.invariant-loop-number
invariant-loop-number l = (l.at ≡ e_phoff l.file + 56 * l.number) × (in_front l.segments.items (headers_from l.file l.number (e_phnum l.file - l.number)) ≡ segments_of l.file)
