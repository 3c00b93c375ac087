-- Document 02, Ask 10: whole runs of two levels, and demand 3 of each as one claim. The laws that prove it stand
-- in proofs/.
pub mod Runs
pub mod Theorem
pub mod Apart
