-- Laws of readers: the first event of some bytes, and the bytes held.
pub mod Readers
