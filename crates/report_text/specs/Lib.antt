pub mod Names
pub mod Outcome
