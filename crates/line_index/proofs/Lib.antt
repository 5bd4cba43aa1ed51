-- The row of an address: which counts of several, and the sequence that it is searched in.
pub mod LaterRows
pub mod Latest
pub mod Numbers
-- Loops: what is found with one element more.
pub mod Indexes
pub mod Folds
pub mod Sooner
-- What is asked for by name: the last part of a file's, the least address, and a function's body.
pub mod LastPart
pub mod Least
pub mod Marked
pub mod FunctionBody
-- Around an address no other line begins.
pub mod Nearby
