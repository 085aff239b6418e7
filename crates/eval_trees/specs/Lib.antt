pub mod Inside
pub mod Kinds
