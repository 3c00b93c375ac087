-- The queries in code ask what the definitions ask.
pub mod Queries
