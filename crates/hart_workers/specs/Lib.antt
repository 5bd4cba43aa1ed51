-- The definitions of what a worker does next, and of the workers' numbers.
pub mod Next
pub mod Numbers
