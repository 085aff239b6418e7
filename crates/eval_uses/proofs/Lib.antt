pub mod Joins
pub mod Told
pub mod Registers
pub mod Accesses
pub mod Trees
pub mod QuietEnds
pub mod EachLemmas
