-- Writing: C strings, values and lines.
pub mod Spelled
pub mod Written
-- Texts: no value's text begins another's, and names end where no name goes on.
pub mod One
pub mod Names
-- Reading: values, and lines.
pub mod Reading
pub mod Lines
-- Proper fields: the test that computes, what slices hold, tests of parts, and fields that are joined.
pub mod Testing
pub mod Fitting
pub mod Tested
pub mod Joined
