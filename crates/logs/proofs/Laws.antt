-- Laws of a replay: the events of a log, rows in a buffer, the lines of a run and of the book, the
-- events one after the other, the rows that are written, and answers that no step gives.
pub mod Logs
pub mod Rows
pub mod Lines
pub mod Progress
pub mod Replaying
pub mod Stops
pub mod Ends
