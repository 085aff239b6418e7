pub mod Shapes
pub mod Keeps
