-- Laws for the proofs of this crate and of those above it.
pub mod Rests
pub mod Again
pub mod Unique
