-- The definitions of stepping over a breakpoint.
pub mod Phases
pub mod Shown
