-- The definitions of variables in expressions: where one is, the text that stands for it, and what a text then spells.
pub mod Holder
pub mod Stands
pub mod Places
pub mod Expanded
pub mod Parsed
