pub mod Over
pub mod OverParts
pub mod OverTrees
pub mod Handled
pub mod OverEval
pub mod Traced
pub mod KeepStates
