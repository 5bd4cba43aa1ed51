-- The definitions of a section's rows: its units, its names, their numbers, and how the code adds them.
pub mod Units
pub mod Names
pub mod Numbers
pub mod Rows
pub mod Met
pub mod Adding
