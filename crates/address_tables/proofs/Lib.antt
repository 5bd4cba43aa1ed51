pub mod Orders
pub mod TwoTables
pub mod Lookups
pub mod Halves
