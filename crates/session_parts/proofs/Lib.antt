-- Texts that are put, and a file that is read, piece by piece.
pub mod Putting
pub mod Reading
pub mod Writing
-- How much the harts can still do.
pub mod Working
-- What was done and said when input was asked for.
pub mod Timing
pub mod Telling
-- What a turn and a line say, by the entries that they noted.
pub mod Noting
pub mod Exits
pub mod Saying
pub mod Doing
-- The steps of a session keep what ties it to its world.
pub mod Picking
pub mod Tying
pub mod Beginning
-- A session that may begin, and a run that ends before.
pub mod Opening
-- Rounds get on: the steps of each, turns of one call, and harts that are picked in vain.
pub mod Ahead
pub mod Getting
pub mod Firsts
pub mod Several
pub mod Going
pub mod Passing
-- A generated run: its records, and what its script keeps.
pub mod Showing
pub mod Playing
-- Jobs: the hart that is picked, and the marks of those whose job is out.
pub mod Picked
pub mod Outs
-- A job that is served at once.
pub mod Serving
-- A piece of input in which no line ends.
pub mod Piecing
-- Workers: when a slice is committed, and what goes to another thread.
pub mod Bringing
pub mod Sending
-- The end: what is left of an engine, the headline, the log behind a session's lines, and the summary of a generated run.
pub mod Leaving
pub mod Heading
pub mod Logs
pub mod Finishing
