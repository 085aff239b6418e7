pub mod Bits
pub mod Corners
pub mod BitLaws
