-- Small laws of options and guards.
pub mod Options
-- A journal that grows: it stays lawful, its numbers are the state's, its coding keeps it, and exits are told one by one.
pub mod Adding
pub mod Counting
pub mod Lengths
pub mod Keeping
pub mod Leaving
-- A lawful journal, erased, is a run of the program.
pub mod Plainly
-- Its numbers: instructions stay within the budget, and no more numbers are given than entries noted.
pub mod Bounding
pub mod Numbering
-- Lines: what is answered, what each may change, and the threads that are named; none ended a session that goes on.
pub mod Replying
pub mod Founding
pub mod Inserting
pub mod Ending
pub mod Naming
-- Where a hart has arrived: what is judged, and where nothing is due.
pub mod Judged
pub mod Undue
