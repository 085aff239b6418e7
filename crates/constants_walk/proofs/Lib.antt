pub mod CodeLemmas
pub mod Covering
pub mod EntryPc
pub mod EntryState
pub mod Placing
pub mod RunEnds
pub mod SetValues
pub mod Walking
