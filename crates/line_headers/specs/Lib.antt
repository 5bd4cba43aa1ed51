-- The definitions of a unit's header: its fields, its tables of names, and what reading them gives.
pub mod Texts
pub mod Names
pub mod Entries
pub mod Parameters
pub mod Gives
pub mod Header
