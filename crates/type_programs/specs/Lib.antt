pub mod Entries
pub mod Functions
pub mod Vals
