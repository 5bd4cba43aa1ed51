-- The definitions of a program of a unit: its operations, and the machine that runs them.
pub mod Operations
pub mod Machine
