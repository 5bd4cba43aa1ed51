pub mod Joined
pub mod Accepted
pub mod Laid
pub mod Checked
pub mod Shown
