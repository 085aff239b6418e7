pub mod WordLemmas
pub mod ValueLemmas
pub mod CornerLemmas
pub mod BitLemmas
pub mod CarryLemmas
pub mod EqualityLemmas
