pub mod RenumberLemmas
pub mod SubstituteLemmas
pub mod KnownLemmas
pub mod StartLemmas
