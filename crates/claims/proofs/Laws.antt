-- Bytes compared, in-order parts and earliest matches, a claim matched, judgements by ground, and what they are worth.
pub mod Bytes
pub mod Parts
pub mod Matching
pub mod Judgements
pub mod Theorem
pub mod Tally
