-- Laws of a log in fragments: one call.
pub mod Calls
