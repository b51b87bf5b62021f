-- Laws for the proofs of this crate and of those above it.
pub mod Marks
pub mod WordBits
pub mod Calls
pub mod Unique
