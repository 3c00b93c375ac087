-- The laws of the records after a step, and of what an accepted one reports.
pub mod Counts
pub mod Acceptances
