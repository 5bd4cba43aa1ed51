-- A change that a line makes can be made.
pub mod Applying
-- An instruction that doesn't trap.
pub mod Executed
pub mod OwnLines
-- Numbers of an engine that have room, and a hart that is there.
pub mod Within
