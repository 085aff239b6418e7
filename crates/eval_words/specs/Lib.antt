pub mod Instr
pub mod Agrees
