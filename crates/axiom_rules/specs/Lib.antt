pub mod Axioms
pub mod Laws
pub mod Parts
pub mod Truth
