pub mod Counts
pub mod Grow
pub mod Values
