pub mod Declared
pub mod Given
