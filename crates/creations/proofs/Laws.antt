-- The laws of counts with a creation.
pub mod Counts
