pub mod TraceLaws
pub mod TraceWords
