pub mod States
pub mod Outcomes
