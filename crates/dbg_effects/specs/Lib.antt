-- The definitions of effects: what each changes in the model, in the table and of the threads.
pub mod Effect
pub mod Table
pub mod Threads
