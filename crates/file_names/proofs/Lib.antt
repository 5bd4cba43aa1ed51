-- Texts from place to place, and the numbers of names when one is added.
pub mod Texts
pub mod Known
-- Homes of texts, byte by byte, and the numbers of names by them.
pub mod Settled
pub mod Steps
pub mod Numbered
