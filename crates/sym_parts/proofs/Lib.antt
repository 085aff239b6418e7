pub mod CompareLemmas
pub mod ConditionLemmas
pub mod LiftLemmas
pub mod OperateLemmas
pub mod PartLemmas
pub mod StayLemmas
