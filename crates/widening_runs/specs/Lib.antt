-- Widening is a simulation: the claim. The laws that prove it, and rows, stand in proofs/.
pub mod Simulation
pub mod Runs
