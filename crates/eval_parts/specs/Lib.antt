pub mod Newest
pub mod Worlds
