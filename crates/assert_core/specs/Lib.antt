pub mod Assertions
pub mod Denoting
pub mod Laws
pub mod Sorts
pub mod View
