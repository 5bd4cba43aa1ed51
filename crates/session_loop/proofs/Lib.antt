-- What a command sees of an engine is what it may see of the state that the engine shows.
pub mod Answering
-- A session goes to another thread, with its engine.
pub mod Sending
-- A hart's job is worked at once while jobs of other harts are out.
pub mod Asking
-- What became of a line is what the line did.
pub mod Carrying
