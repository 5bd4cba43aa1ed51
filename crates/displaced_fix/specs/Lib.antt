-- The definition of an instruction that is executed elsewhere.
pub mod Fix
