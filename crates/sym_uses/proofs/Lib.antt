pub mod Covers
pub mod CoverSteps
pub mod CoverParts
pub mod CoverTrees
pub mod CoverCalls
