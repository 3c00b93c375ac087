pub mod Widening
pub mod Theorem
