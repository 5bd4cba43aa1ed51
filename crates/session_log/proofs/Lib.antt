-- One line: its words as they are written, and the row that is read of them.
pub mod Lines
pub mod Adding
pub mod Cuts
pub mod Numbers
pub mod Guesses
pub mod Alike
-- A text in lines, and the lines of a whole log.
pub mod Pieces
pub mod Whole
-- Reading: a log is read again, what is read is a log behind the lines of records, and the fault is the first.
pub mod Again
pub mod Found
pub mod Records
pub mod Faults
