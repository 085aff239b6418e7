pub mod WorkLemmas
pub mod RightLemmas
pub mod MakingLemmas
pub mod SelectLemmas
