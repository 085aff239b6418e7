pub mod WidthLemmas
