-- The run of a check, what it finds, and how a run ends, whatever is asked for: this project's own rules.
pub mod Speaking
pub mod Findings
pub mod VerdictLine
pub mod Polling
pub mod Checks
pub mod Stages
pub mod RunEnds
