pub mod Listing
pub mod Arrays
pub mod Goals
