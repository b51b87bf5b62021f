-- Laws for the proofs of this crate and of those above it.
pub mod Evaluated
pub mod Numbers
pub mod Formed
pub mod Unique
