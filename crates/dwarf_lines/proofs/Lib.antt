-- The units of a section, and the parameters of their programs.
pub mod Places
pub mod Programs
-- Rows and names, added unit by unit, are those of all units at once.
pub mod Placed
pub mod Kept
-- The steps from unit to unit, between which no sequence is open.
pub mod Sections
