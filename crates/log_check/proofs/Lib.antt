-- A text and what is said, compared: how far they are the same.
pub mod Comparing
-- Entries that are taken and said, one behind another.
pub mod Going
-- A journal and a text have one verdict.
pub mod One
-- Further instructions that are taken at once.
pub mod Further
