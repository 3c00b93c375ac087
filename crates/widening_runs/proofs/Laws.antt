-- The laws that prove the simulation, layer by layer: the reason of a mapping, the grounds of an event, the records of a
-- table and their counts, the step, whole runs.
pub mod Reasons
pub mod Grounds
pub mod Tables
pub mod Steps
pub mod Runs
