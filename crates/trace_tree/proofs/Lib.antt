mod CopyLemmas
pub mod CountLemmas
mod KeptLemmas
mod PathLemmas
mod PlainLemmas
pub mod ViewLemmas
