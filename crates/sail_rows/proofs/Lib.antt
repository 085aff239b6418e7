pub mod RowLemmas
pub mod Tops
