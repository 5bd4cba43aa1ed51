-- Lists kept in one list: their parts, and ranges one behind another.
pub mod Flat
pub mod Chains
-- Rows: each changed alike, and with addresses that don't fall.
pub mod Mapped
pub mod Orders
