-- The definitions of look-ups in line tables, and of what the code keeps for them.
pub mod Lines
pub mod Order
pub mod Marks
pub mod Ranges
pub mod Inside
