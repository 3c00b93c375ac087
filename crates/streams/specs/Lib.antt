-- Document 02, Ask 3: whole logs in fragments, and the claims about them. The laws that prove the claims stand
-- in proofs/.
pub mod Streams
pub mod Theorem
pub mod AnyStart
pub mod Apart
