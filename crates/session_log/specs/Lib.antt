-- The definitions of a log: its lines, its text, what is read of it, and its faults.
pub mod Words
pub mod Rows
pub mod LogText
pub mod Guess
pub mod Judged
pub mod Found
pub mod Faults
