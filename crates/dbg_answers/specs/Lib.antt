-- The definitions of answers: what the code's values are in the model, what is read and picked, and how commands are sorted.
pub mod Debuggee
pub mod Live
pub mod Answer
pub mod Reading
pub mod Each
pub mod Steps
pub mod Rows
pub mod Subjects
pub mod LineRefusals
