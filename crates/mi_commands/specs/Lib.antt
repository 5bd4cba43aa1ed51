-- The definitions of commands: the table of them, their options and parameters, the values of words, faults, and what a line gives.
pub mod Operations
pub mod Prints
pub mod Words
pub mod Steps
pub mod Bytes
pub mod Registers
pub mod Numbers
pub mod Locations
pub mod Settings
pub mod Faults
pub mod Commands
pub mod Gives
