pub mod Laws
pub mod Selecting
