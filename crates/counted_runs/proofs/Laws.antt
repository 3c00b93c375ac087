-- Demand 3 beside a tally, proved: laws of counts less some records, of one step, and of whole runs.
pub mod Less
pub mod Steps
pub mod Demand3
pub mod Apart
