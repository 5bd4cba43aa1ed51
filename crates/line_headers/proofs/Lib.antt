-- Where texts stand in a section, and the loops that read lists.
pub mod Ends
pub mod Loops
