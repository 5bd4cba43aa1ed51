-- The definitions of line tables as lists, how the code keeps them, and how numbers are read.
pub mod Sections
pub mod RowList
pub mod KeptNames
pub mod KeptSequences
pub mod Reading
