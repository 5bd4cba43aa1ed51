-- The definitions of output lines: values, their one text, which of them are proper, whole lines, and what reading gives.
pub mod Spelled
pub mod Name
pub mod Tree
pub mod Spelling
pub mod Proper
pub mod Reads
pub mod Record
pub mod Line
pub mod LineParts
pub mod Testing
pub mod Records
pub mod FieldLists
