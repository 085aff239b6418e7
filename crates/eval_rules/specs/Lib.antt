pub mod Flow
pub mod Parts
pub mod Prelude
pub mod Names
pub mod Eval
pub mod Moments
