pub mod Borrowed
pub mod Newest
pub mod Places
