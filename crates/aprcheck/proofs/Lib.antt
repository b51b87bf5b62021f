-- Laws for the proofs of this crate, and that its answer is one.
pub mod Inputs
pub mod Unique
