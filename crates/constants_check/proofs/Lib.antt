pub mod Accepting
pub mod Failures
pub mod FirstPath
pub mod Fitting
pub mod JudgeLemmas
pub mod Statuses
pub mod Touching
