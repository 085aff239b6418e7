use Rattle.elf_image.proofs.LawLemmas.{elf_bytes, raw_bytes}
use Rattle.elf_image.proofs.laws.bytes_of_images.Goals as goal

pub returns-clause-elf : goal.returns-clause-elf
returns-clause-elf c i e magic = elf_bytes c.args.file.now i e magic

pub returns-clause-raw : goal.returns-clause-raw
returns-clause-raw c i e magic = raw_bytes c.args.file.now i e magic
