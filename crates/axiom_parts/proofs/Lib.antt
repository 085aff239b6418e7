pub mod CongruenceLemmas
pub mod RowLemmas
pub mod SubtermLemmas
