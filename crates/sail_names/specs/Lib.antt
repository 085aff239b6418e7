pub mod Things
pub mod Map
