-- The definitions of runs over registers alone.
pub mod Slices
