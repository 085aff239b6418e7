pub mod CommandLemmas
pub mod TopLemmas
