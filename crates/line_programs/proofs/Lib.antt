-- A program, step by step: numbers that are passed over, and operations.
pub mod Numbers
pub mod Runs
pub mod Files
