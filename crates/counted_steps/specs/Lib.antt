-- The step beside a tally. The laws about these definitions, and rows, stand in proofs/.
pub mod Steps
