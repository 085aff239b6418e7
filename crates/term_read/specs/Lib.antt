pub mod Reading
pub mod ReadingView
pub mod Spelling
pub mod TextLaws
