pub mod IfLemmas
