-- The laws of walks: one level, how far a walk goes and what it gives, the record, and what it is worth.
pub mod Steps
pub mod Bounds
pub mod Records
pub mod Translations
