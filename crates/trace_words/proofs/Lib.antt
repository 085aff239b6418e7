pub mod OpcodeLemmas
pub mod GivenLemmas
