pub mod GrowLemmas
pub mod ListedLemmas
pub mod PlaceLemmas
pub mod ValueLemmas
