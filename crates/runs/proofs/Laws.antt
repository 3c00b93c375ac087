-- Demand 3, proved: laws of the book, of a run's step, of in-order parts, of the first run and of the
-- second. Ask 14, proved.
pub mod Book
pub mod Steps
pub mod Parts
pub mod First
pub mod Second
pub mod InPlace
pub mod Demand3
pub mod Apart
