pub mod ArrayWordLemmas
pub mod DeclaredLemmas
pub mod FormedLemmas
pub mod PrintedReadLemmas
pub mod ReadBackLemmas
pub mod ReadTermLemmas
pub mod WordLemmas
