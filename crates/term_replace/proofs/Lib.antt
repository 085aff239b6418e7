pub mod FittingLemmas
pub mod NormalChangeLemmas
pub mod PartChangeLemmas
pub mod ReplaceLemmas
pub mod ReplaceStepLemmas
pub mod ReplacedLemmas
