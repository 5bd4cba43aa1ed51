-- Small laws of options.
pub mod Options
-- Where a line ends, however the input goes on.
pub mod Fronts
pub mod LineSplits
-- The words of a line, its operation, and the parts as a function.
pub mod Words
pub mod Commands
pub mod Reading
