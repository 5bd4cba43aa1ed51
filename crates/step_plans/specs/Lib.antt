-- The definitions of a step's end: arrivals, the verdicts on a plan, and their laws.
pub mod Arrivals
pub mod Verdicts
pub mod Laws
