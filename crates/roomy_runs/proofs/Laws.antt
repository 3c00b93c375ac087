-- The book with room and document 01's, document 01's run with removals, and the run with lent room.
pub mod Books
pub mod Within
pub mod Lent
