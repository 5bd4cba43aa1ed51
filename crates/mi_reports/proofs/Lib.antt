-- The lines are of the grammar: names, fixed texts, numbers, and the fields of each kind of line.
pub mod Bytes
pub mod Names
pub mod Proper
pub mod Replying
pub mod Messages
pub mod Grammar
-- What the fields of a line are, field by field.
pub mod Led
pub mod Pieces
-- What a session says: one entry more, the lines that show the output, and harts that leave.
pub mod Saying
pub mod Telling
pub mod Leaving
