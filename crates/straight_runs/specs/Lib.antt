-- The definitions of runs: this project's own.
pub mod Runs
