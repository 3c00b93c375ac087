-- What the search of two tables finds is the lookup's part.
pub mod Levels
