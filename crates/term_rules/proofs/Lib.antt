pub mod CodeLemmas
pub mod NumberLemmas
pub mod RewriteLemmas
pub mod Rewrites
pub mod RuleLemmas
pub mod TypedLemmas
