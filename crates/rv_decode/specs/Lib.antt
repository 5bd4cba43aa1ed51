-- The definitions of instruction words.
pub mod Word
pub mod Decode
pub mod Registers
