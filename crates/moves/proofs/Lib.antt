-- Laws for the proofs of this crate and of those above it.
pub mod Moves
pub mod Causes
pub mod Unique
