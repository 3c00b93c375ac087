-- Document 02, Ask 8: the judge. The laws about these definitions stand in proofs/.
pub mod Claims
pub mod Matching
pub mod Theorem
pub mod Tally
