pub mod Types
pub mod Keeps
