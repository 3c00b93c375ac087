-- The laws of one event on the table in force.
pub mod States
