-- Issue 39, part 3: where each mapping came from; what is proved of it. The laws that prove it stand in proofs/.
pub mod Standing
pub mod Origins
pub mod Statements
