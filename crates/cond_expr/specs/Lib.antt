-- The definitions of conditions: their tokens, grammar, faults and values.
pub mod Token
pub mod Term
pub mod Grammar
pub mod Fault
pub mod Stops
pub mod Gives
pub mod Lex
pub mod Bare
pub mod Value
pub mod Condition
pub mod Reader
