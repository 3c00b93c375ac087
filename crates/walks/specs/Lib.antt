pub mod Walks
pub mod Theorem
