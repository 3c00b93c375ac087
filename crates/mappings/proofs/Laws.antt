-- The laws of held records: where span, page, frame and EP4TA stand, and the global mark.
pub mod Places
