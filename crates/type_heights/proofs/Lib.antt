pub mod Greatest
pub mod HeightLemmas
pub mod Parts
