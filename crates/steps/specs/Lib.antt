pub mod Counts
pub mod Acceptances
