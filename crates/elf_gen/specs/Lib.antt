-- The definitions of the files and lines that are made here.
pub mod Layout
pub mod Plain
pub mod Generated
pub mod Script
