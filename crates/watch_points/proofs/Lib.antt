pub mod Inside
pub mod Worth
pub mod Single
pub mod Exact
pub mod Telling
-- Which instructions make no watch fire, and that watches keep their sizes.
pub mod Firing
pub mod Sizing
-- Marks that are put one after another.
pub mod Marking
