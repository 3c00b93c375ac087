-- What filtering a table writes and tells. The laws about these definitions stand in proofs/.
pub mod Filters
