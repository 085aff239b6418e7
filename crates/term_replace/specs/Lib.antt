pub mod Fitting
pub mod Laws
pub mod NormalLaws
pub mod Replaced
pub mod Replacing
