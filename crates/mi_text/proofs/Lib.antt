-- C strings as they are written: what was there stays, and most bytes are spelled as they are.
pub mod Kept
pub mod Spelled
-- C strings as they are read: one byte, and a whole text.
pub mod Symbols
pub mod Texts
-- Bytes in hexadecimal.
pub mod Decoding
