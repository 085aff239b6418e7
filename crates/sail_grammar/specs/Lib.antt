pub mod Words
pub mod Expressions
pub mod Definitions
pub mod Spelling
