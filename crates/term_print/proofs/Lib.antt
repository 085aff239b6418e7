pub mod AsciiLemmas
pub mod CutLemmas
pub mod PrintedLemmas
pub mod TokenTextLemmas
