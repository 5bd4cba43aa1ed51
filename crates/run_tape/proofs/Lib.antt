-- Bytes that are added tell one mark more.
pub mod Codes
