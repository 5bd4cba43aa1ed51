-- The definitions of input lines: where each ends, its parts by the grammar and as a function, and what splitting gives.
pub mod Faults
pub mod Lines
pub mod Parts
pub mod Split
pub mod Reading
