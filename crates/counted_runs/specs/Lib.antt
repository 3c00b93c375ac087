-- Document 02, Ask 7: whole runs beside a tally, and demand 3 of them as one claim. The laws that prove it stand
-- in proofs/.
pub mod Runs
pub mod Theorem
pub mod Apart
