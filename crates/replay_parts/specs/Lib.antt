-- The definitions of the parts of a replay: what is kept, the state that it shows, and what each move of the parts answers.
pub mod Keeping
pub mod Parts
pub mod Going
pub mod Further
