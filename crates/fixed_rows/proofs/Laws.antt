-- The laws of fixed rows: rows cut out of bytes, the three loops, what is reported and left, by the answer, and the
-- theorem.
pub mod Rows
pub mod Loops
pub mod Answers
pub mod RoundTrips
