-- Engines as the moves make them.
pub mod Built
-- The parts of a move: counts, one hart and one word of text; and what each kind of move keeps.
pub mod Counting
pub mod Updating
pub mod Planting
pub mod Keeping
-- The step over a breakpoint: in place, with a patch lifted, by a copy in a slot, and the way home.
pub mod Stepping
pub mod Holding
pub mod Copying
pub mod Homecoming
pub mod CopyCounts
-- The limits of an engine that isn't over.
pub mod Bounding
-- Exits, arrivals and stops, and changes of the breakpoints.
pub mod Exiting
pub mod Arriving
pub mod Stopping
pub mod Breaking
-- An engine before its first move.
pub mod Beginning
-- Who can be moved, where harts wait for returns, and what a line asks to be written.
pub mod Movers
pub mod Awaiting
pub mod Asking
-- What an engine shows, and whether it is over.
pub mod Showing
pub mod Seeing
-- The facts of an engine, kept by each move of a hart and by each line of the user.
pub mod Executing
pub mod Departing
pub mod Holds
pub mod Halting
pub mod Sighted
pub mod Homes
pub mod Commanding
-- Words that are planted anew: for a change of the table, and where a hart waits.
pub mod Words
pub mod Tabling
pub mod Waitings
-- The table of moves, and a hart that arrives.
pub mod Rows
pub mod Arrivals
-- What the machine did in one call is turns, one after the other, and made no watch fire.
pub mod Nearing
pub mod Storing
pub mod Gone
pub mod Passing
pub mod Aheads
-- How the moves of a hart mark its phase.
pub mod Marks
-- What a line makes of the harts, and what a command may see of them.
pub mod GoingOn
pub mod Viewing
-- Plans that stay, waits that follow the plans, the hart that is picked, and quiet turns.
pub mod Kept
pub mod Rewaits
pub mod Picks
pub mod Quiet
-- What a move's entry shows is what it shows in the state before.
pub mod Shown
-- Slices: what is taken back is turns, and to whom a job is given.
pub mod Taking
pub mod Jobs
pub mod Serving
pub mod Stretching
-- What an entry shows, by the state in which it comes.
pub mod Coming
-- Which words are jumps.
pub mod Jumps
-- Several instructions within a line are turns.
pub mod LineVerdicts
pub mod OnLines
pub mod Resting
pub mod Strides
