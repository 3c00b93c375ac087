-- The laws of the step beside a tally.
pub mod Steps
pub mod Accepted
