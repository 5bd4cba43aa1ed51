-- The definitions of the machine that runs unpatched text.
pub mod Environment
pub mod Plain
pub mod PlainRun
pub mod Answers
