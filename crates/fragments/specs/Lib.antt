-- Document 02, Ask 3: the calls that take a log in fragments, whole logs in fragments, and the claims about them. The laws
-- that prove the claims stand in proofs/.
pub mod Fragments
