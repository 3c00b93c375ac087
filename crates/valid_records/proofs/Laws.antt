-- The laws of valid records: which bits say that the fields are in their ranges, and the length at a linear width.
pub mod Ranges
pub mod Masks
pub mod Lengths
