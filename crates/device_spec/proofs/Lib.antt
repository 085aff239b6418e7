pub mod CheckLemmas
pub mod NextLemmas
