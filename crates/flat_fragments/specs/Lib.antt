-- Readers and the calls on fragments as flat structs; and, apart from these definitions, the law of numbers that stand for nothing.
pub mod Flat
