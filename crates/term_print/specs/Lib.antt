pub mod Cutting
pub mod PrintedLaws
pub mod Printing
pub mod TermWords
pub mod Words
