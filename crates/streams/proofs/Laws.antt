-- Laws of a log in fragments: one call, that the cuts do not matter, what is ignored, that the bytes of the
-- buffers do not matter, and that all is as of the whole log.
pub mod Calls
pub mod Cuts
pub mod Ignored
pub mod AsLong
pub mod Whole
pub mod AnyStart
pub mod Apart
