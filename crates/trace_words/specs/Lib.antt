pub mod Opcode
pub mod Given
pub mod Trace
