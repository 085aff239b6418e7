pub mod Reprint
