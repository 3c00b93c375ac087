-- Laws of counts.
pub mod Lists
pub mod Counts
pub mod Tallied
pub mod Struck
