-- The definitions of readings, and of numbers, texts and forms in bytes.
pub mod Reading
pub mod Leb
pub mod Forms
