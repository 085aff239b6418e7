pub mod Words
pub mod Machine
pub mod Program
pub mod Answers
pub mod Passed
