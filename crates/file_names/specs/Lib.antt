-- The definitions of file names' numbers, and of the homes of texts by which they are found.
pub mod Numbers
pub mod Homes
