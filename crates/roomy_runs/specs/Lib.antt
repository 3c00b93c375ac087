-- Issue 39, part 2: the book with room for everything and the run with lent room, what is proved of them. The laws that
-- prove it stand in proofs/.
pub mod Books
pub mod Lent
pub mod Statements
pub mod Samples
