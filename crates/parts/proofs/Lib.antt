-- Laws for the proofs of this crate and of those above it.
pub mod Parts
pub mod Picks
pub mod Words
pub mod Unique
