-- Laws of rows.
pub mod Compared
pub mod Rows
pub mod Left
