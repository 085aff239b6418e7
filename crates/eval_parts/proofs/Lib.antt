pub mod NewestLemmas
pub mod Passing
pub mod Written
