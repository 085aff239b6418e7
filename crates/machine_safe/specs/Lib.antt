pub mod Routine
pub mod Safe
pub mod First
