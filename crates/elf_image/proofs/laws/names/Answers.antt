use Rattle.elf_image.proofs.LawLemmas.{name_is, no_name}
use Rattle.elf_image.proofs.laws.names.Goals as goal

pub returns-clause-name : goal.returns-clause-name
returns-clause-name c = name_is c.args.bytes.now

pub returns-clause-no_name : goal.returns-clause-no_name
returns-clause-no_name c = no_name c.args.bytes.now
