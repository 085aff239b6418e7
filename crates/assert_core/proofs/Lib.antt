pub mod ClaimLemmas
pub mod ScopeLemmas
pub mod SortLemmas
