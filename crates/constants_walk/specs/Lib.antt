pub mod Conditions
pub mod Entry
pub mod Failing
pub mod RegisterPlaces
pub mod RunForm
pub mod Walk
