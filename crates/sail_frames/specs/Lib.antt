pub mod Turning
pub mod View
