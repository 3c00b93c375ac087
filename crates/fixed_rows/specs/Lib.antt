pub mod FixedRows
pub mod Theorem
