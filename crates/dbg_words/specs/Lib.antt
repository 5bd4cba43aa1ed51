-- The definitions of the command line.
pub mod Command
pub mod Uses
pub mod Number
pub mod Words
pub mod Given
pub mod Request
