-- Document 01, "Whole runs": the book, the runs and demand 3 as one claim; document 02, Ask 14.
-- The laws that prove them stand in proofs/.
pub mod Book
pub mod Runs
pub mod InPlace
pub mod Apart
pub mod Theorem
