-- The definitions of a stack's frames.
pub mod Memory
pub mod Caller
pub mod Frames
