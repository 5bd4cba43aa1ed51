-- What every lawful journal says of its stops by watchpoints.
pub mod Triggered
