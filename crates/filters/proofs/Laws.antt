-- Laws of a filtered table: record by record, at its two ends, and in the loop that writes it.
pub mod Filters
pub mod Filtering
pub mod Dropping
