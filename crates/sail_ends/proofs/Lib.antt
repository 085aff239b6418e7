pub mod EndLemmas
pub mod Tops
