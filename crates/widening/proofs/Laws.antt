-- The laws of the converter: its loops, what it does to a record, and that the new table is as good as the old.
pub mod Loops
pub mod Answers
pub mod Records
pub mod Pages
pub mod Tables
