pub mod Fields
pub mod Segments
pub mod Overlaps
pub mod Symbols
pub mod Image
pub mod Sweep
pub mod Laws
