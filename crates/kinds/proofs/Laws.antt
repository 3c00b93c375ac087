-- The laws about the numbers in code.
pub mod Places
