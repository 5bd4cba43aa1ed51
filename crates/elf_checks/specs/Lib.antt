-- The definitions of what an accepted file is.
pub mod Checks
pub mod Reading
pub mod Overlaps
