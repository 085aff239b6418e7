pub mod FitsLemmas
