-- The definitions of symbols: entries, names and look-ups.
pub mod Entries
pub mod Names
pub mod Views
pub mod Lookups
pub mod Inside
