-- The laws of what a lookup asks, of the search, and of what it finds.
pub mod Seeking
pub mod Searching
pub mod Finding
