-- The definitions of a world in memory, and of the script that it plays.
pub mod Script
pub mod MemWorld
