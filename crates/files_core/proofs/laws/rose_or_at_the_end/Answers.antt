use Rattle.files_core.proofs.CountLemmas.{rose_says, rose_if}
use Rattle.files_core.proofs.laws.rose_or_at_the_end.Goals as goal

pub returns-clause-says : goal.returns-clause-says
returns-clause-says c = rose_says

pub returns-clause-no_more : goal.returns-clause-no_more
returns-clause-no_more c = rose_if
