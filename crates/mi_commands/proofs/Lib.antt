-- Texts of different lengths are different.
pub mod Texts
-- The last `:` of a word.
pub mod Colons
