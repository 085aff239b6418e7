use Rattle.term_select.proofs.SelectedNormalLemmas.{selected_normal}
use Rattle.term_select.proofs.laws.normal_selected_bytes.Goals as goal

pub returns : goal.returns
returns c = record { selected = selected_normal }
