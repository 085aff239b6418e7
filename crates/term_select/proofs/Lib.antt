pub mod SelectLemmas
pub mod SelectedNormalLemmas
pub mod SelectedPartLemmas
pub mod SelectingLemmas
