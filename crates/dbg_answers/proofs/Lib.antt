-- Refusals: of all that stands against a command the least number is answered.
pub mod Tests
pub mod Naming
pub mod Judging
pub mod Shows
pub mod Standing
-- What is read: expressions, bytes of a range, and lines.
pub mod Reading
pub mod Ranges
pub mod Lines
-- What is listed: live threads, and rows in the order of their numbers.
pub mod Showing
pub mod Rows
