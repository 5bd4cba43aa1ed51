-- The definitions of tables of numbers that are sorted or merged.
pub mod Tables
