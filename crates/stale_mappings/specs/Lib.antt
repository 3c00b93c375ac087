-- Issue 30: the third sort, stale mappings; what is proved of them. The laws that prove it stand in proofs/.
pub mod StaleMappings
pub mod Statements
