-- The definitions of watches.
pub mod Failure
pub mod Constant
pub mod Watching
pub mod Reading
pub mod Watches
pub mod WatchKept
