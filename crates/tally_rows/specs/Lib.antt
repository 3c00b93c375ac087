-- The rows of a tally. The laws about these definitions stand in proofs/.
pub mod Rows
