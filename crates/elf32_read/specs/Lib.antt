-- The definitions of a linked file: its headers, its program, and what is kept of it.
pub mod Abi
pub mod Fields
pub mod Program
pub mod Headers
pub mod Views
pub mod Ranges
pub mod Spans
pub mod TextSpans
pub mod Tables
pub mod Inside
