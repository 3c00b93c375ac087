-- Issue 30: who is in the guest, who owns a mapping, and who can use another's; what is proved of it. The laws that
-- prove it stand in proofs/.
pub mod Moments
pub mod Leaks
pub mod Processors
pub mod Mending
pub mod Statements
