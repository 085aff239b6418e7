pub mod Operators
pub mod Scopes
pub mod WordView
