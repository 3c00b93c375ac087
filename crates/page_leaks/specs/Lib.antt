-- Issue 30: the second sort of leak, another's page; what is proved of it. The laws that prove it stand in proofs/.
pub mod PageLeaks
pub mod Statements
