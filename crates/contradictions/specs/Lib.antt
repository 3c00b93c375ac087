-- Issue 30: contradictions between a log and the model; and what is proved of them. The laws that prove it stand in proofs/.
pub mod Contradictions
pub mod Statements
