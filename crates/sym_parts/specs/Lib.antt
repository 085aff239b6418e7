pub mod Causes
pub mod Compares
pub mod Fits
pub mod Views
