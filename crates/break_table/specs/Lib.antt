-- The definitions of breakpoints: an entry, an arrival at it, the table and its changes.
pub mod Codes
pub mod Entry
pub mod Arrival
pub mod Text
pub mod Table
pub mod Places
pub mod Inside
pub mod Changes
