-- Changes at the entry of one number, and of harts one after another.
pub mod Tables
pub mod Changing
