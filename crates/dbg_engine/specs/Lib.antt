-- The definitions of the engine's type: what can be changed, and what its fields keep.
pub mod Changing
pub mod EngineInside
