pub mod Sections
pub mod Lists
pub mod Placing
pub mod Rising
pub mod Here
pub mod Keeping
