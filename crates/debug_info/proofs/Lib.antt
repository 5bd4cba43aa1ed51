mod Words
-- Loops over readings: of specifications, entries, units and abbreviations, and where they end.
pub mod Specified
pub mod Spanned
pub mod Behind
-- What is kept of the specifications, place by place.
pub mod Runs
-- One step more: of entries that cover pc, texts, functions, types and levels.
pub mod Opened
pub mod Texts
pub mod Listed
pub mod Links
pub mod Levels
-- Orders: entries by their offsets, the table of abbreviations as it moves, and the units' turns.
pub mod Rising
pub mod Marking
pub mod Walked
pub mod Outer
pub mod Tabled
pub mod Orderly
