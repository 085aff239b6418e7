use Rattle.elf_image.proofs.bytes.+number_at.Given as goal

abbrev pub decreases-number_at : goal.decreases-number_at
decreases-number_at l = l.count
