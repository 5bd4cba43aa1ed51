-- What comes of one instruction and of several.
pub mod Coming
-- What lines are answered and change.
pub mod Answering
-- A whole journal: its entries one behind another.
pub mod Passing
