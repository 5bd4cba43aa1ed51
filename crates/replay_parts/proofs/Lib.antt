-- Where a session begins.
pub mod Beginning
-- What one instruction does.
pub mod Running
-- What lines change.
pub mod Changing
-- How many entries may still come.
pub mod Exiting
-- A hart that goes on by itself: so many instructions are as many entries lengthened.
pub mod Alone
pub mod Fetching
pub mod Gone
