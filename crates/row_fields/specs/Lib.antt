pub mod Fields
pub mod Rows
pub mod Masks
pub mod Pieces
