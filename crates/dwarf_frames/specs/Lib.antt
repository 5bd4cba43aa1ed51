-- The definitions of call frame information: its entries and rules, and how marks find them.
pub mod Reading
pub mod Operations
pub mod Table
pub mod Within
pub mod Entries
pub mod Rules
pub mod Gives
pub mod States
pub mod Starts
pub mod Marks
pub mod Index
pub mod Tabled
pub mod Kept
