pub mod Types
pub mod Tree
pub mod Program
pub mod View
