-- The laws of layouts as data, of the record that a mapping has, of good rows, their masks and lengths, of bytes written piece by
-- piece, and of rows there and back.
pub mod Fields
pub mod Records
pub mod Rows
pub mod Masks
pub mod Lengths
pub mod Writing
pub mod Overlaps
pub mod RoundTrips
