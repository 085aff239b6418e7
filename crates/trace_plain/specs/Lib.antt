pub mod Following
pub mod Laws
pub mod Printable
pub mod Rules
pub mod Terms
pub mod Trace
pub mod View
