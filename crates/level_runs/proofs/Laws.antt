-- Demand 3 of two levels, proved: one step, whole lists of events, and lookups in a second run.
pub mod Steps
pub mod Demand3
pub mod Lookups
pub mod Apart
