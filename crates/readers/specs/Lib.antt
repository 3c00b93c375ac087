-- Document 02, Ask 3: what is kept of a log between two fragments. The laws about these definitions stand in proofs/.
pub mod Readers
