-- The tally of a table. The laws about these definitions stand in proofs/.
pub mod Tallies
