use Rattle.elf_image.proofs.LawLemmas.{share_common, touch_apart, least_pair, no_pair}
use Rattle.elf_image.proofs.laws.least_overlaps.Goals as goal

pub returns-clause-share : goal.returns-clause-share
returns-clause-share c = share_common

pub returns-clause-touch : goal.returns-clause-touch
returns-clause-touch c = touch_apart

pub returns-clause-pair : goal.returns-clause-pair
returns-clause-pair c = least_pair

pub returns-clause-no_pair : goal.returns-clause-no_pair
returns-clause-no_pair c = no_pair
