-- What a stop by a watchpoint tells: its hart's last instruction changed the bytes, and the hart executed nothing since.
pub mod Triggering
pub mod Firing
pub mod Holding
pub mod Lasting
-- Each entry of a lawful journal has a line in a log.
pub mod Filling
pub mod Asked
-- What a journal counts up to.
pub mod Summing
