-- The laws of the walk over a table, and of what judging it tells.
pub mod Walk
pub mod Judged
pub mod Counting
pub mod Counts
