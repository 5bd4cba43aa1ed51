-- The definitions of texts: digits, tokens, C strings as they are written and read, numbers, and bytes in hexadecimal.
pub mod Digits
pub mod Token
pub mod Keeps
pub mod CString
pub mod Escape
pub mod Text
pub mod Number
pub mod Numeral
pub mod Hexadecimal
