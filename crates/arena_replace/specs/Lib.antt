pub mod Renumbering
pub mod Substituting
