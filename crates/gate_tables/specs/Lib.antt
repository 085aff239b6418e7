pub mod Gates
pub mod Tables
