-- The definitions of memory: maps of bytes, the start, and how pages keep them.
pub mod Maps
pub mod Blocks
pub mod Paged
pub mod Start
pub mod Ranges
