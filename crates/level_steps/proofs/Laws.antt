-- The step of two tables, by its answer.
pub mod Levels
