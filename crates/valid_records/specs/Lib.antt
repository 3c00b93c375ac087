pub mod Masks
pub mod Lengths
