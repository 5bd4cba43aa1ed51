-- What is said of a session in its lines, and what is found of a log by it.
pub mod Spoken
pub mod Found
-- The input, polled piece by piece.
pub mod Polling
-- How a check ends, and how a run ends, whatever is asked for.
pub mod Ending
-- Of an input one thing is found, and what a session wrote whole is its record.
pub mod One
pub mod Written
pub mod Ends
