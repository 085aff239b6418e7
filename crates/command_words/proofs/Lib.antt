pub mod CheckLemmas
pub mod OtherLemmas
pub mod ParseLemmas
pub mod TraceLemmas
pub mod WalkLemmas
pub mod WordLemmas
