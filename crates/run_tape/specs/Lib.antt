-- The definitions of a tape: what its bytes mean, the marks that they tell, and what contracts see.
pub mod Turning
pub mod Tokens
pub mod Telling
pub mod Reading
pub mod MarksInside
pub mod Coded
pub mod CoderInside
pub mod Taped
pub mod TapeInside
