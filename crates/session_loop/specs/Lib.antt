-- The definitions of the session's type, and of where a slice is worked.
pub mod SessionInside
pub mod Asking
-- What became of a line.
pub mod Carrying
