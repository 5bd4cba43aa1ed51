-- The definitions of a replay: where it stands, and what each of its steps takes.
pub mod Standing
