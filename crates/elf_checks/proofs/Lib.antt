pub mod Ends
pub mod Stages
pub mod Earlier
pub mod Accepted
pub mod Middles
pub mod Fronts
pub mod Holders
pub mod Linked
