pub mod Answers
pub mod Laws
pub mod Making
pub mod Normal
pub mod Steps
