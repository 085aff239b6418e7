pub mod NewestLemmas
pub mod PlaceLemmas
