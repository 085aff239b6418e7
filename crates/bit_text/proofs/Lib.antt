pub mod AsciiLemmas
pub mod DigitLemmas
pub mod LiteralLemmas
pub mod TokenLemmas
