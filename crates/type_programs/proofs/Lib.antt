pub mod Announced
pub mod Compared
pub mod Told
