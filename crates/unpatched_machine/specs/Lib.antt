-- The definitions of a machine without breakpoints.
pub mod Unpatched
pub mod Instruction
