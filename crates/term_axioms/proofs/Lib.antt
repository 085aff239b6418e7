pub mod PlaceLemmas
pub mod PartLemmas
pub mod ArrayLemmas
pub mod MadeLemmas
