pub mod Walk
pub mod Counts
