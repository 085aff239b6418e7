pub mod Checked
pub mod Devices
pub mod Laws
pub mod View
