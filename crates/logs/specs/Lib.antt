-- Document 01, "Replay program": the events of a log, what a replay reports of each, and how far it is.
-- The laws about these definitions stand in proofs/.
pub mod Logs
pub mod Replays
pub mod Progress
pub mod Theorem
