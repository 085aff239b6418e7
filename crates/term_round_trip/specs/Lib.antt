pub mod DeclaredTerms
pub mod ReadBackLaws
pub mod WordLaws
