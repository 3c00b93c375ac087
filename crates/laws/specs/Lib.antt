-- The laws about the definitions of the crate `model`, one file for each subject.
pub mod Lists
pub mod Buffers
pub mod Layouts
pub mod Mappings
pub mod Tables
pub mod Writing
pub mod Events
pub mod Context
pub mod Scopes
pub mod Answers
pub mod Steps
pub mod Refusals
pub mod Reasons
pub mod Entries
pub mod Rules
pub mod Lookups
