pub mod InternLemmas
