use Rattle.elf_image.proofs.LawLemmas.{first_value, no_value}
use Rattle.elf_image.proofs.laws.first_values.Goals as goal

pub returns-clause-value : goal.returns-clause-value
returns-clause-value c = first_value c.args.name.now

pub returns-clause-no_value : goal.returns-clause-no_value
returns-clause-no_value c = no_value c.args.name.now
