pub mod Values
pub mod Trees
pub mod Operators
pub mod Parts
pub mod Names
pub mod Prelude
pub mod Sym
pub mod Laws
