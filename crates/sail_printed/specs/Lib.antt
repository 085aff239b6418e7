pub mod Places
pub mod Forms
pub mod Levels
pub mod PrintedLaws
