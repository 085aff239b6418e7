pub mod State
pub mod Word
pub mod World
pub mod Memory
pub mod Agrees
pub mod Claims
pub mod Devices
pub mod Laws
