-- What a speaker says of a session, and what is said of a journal and a text: this project's own rules.
pub mod Speech
pub mod Verdict
pub mod Agreeing
