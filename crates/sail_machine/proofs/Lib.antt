mod Steps
mod Words
mod Complete
pub mod Programs
mod Stops
mod Rests
mod Awaiting
mod SignLemmas
mod Found
mod FoundDefinitions
mod FoundEnds
mod FoundOperands
mod FoundForms
mod FoundLists
mod FoundWords
pub mod FoundTexts
mod Closing
mod Reached
mod Kept
mod Leading
mod GoesOn
