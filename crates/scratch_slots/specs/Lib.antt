-- The definitions of scratch slots.
pub mod Index
pub mod Table
