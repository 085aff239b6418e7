pub mod Frames
pub mod Signs
pub mod Turns
pub mod Headers
pub mod Machine
pub mod Run
