-- Laws for the proofs of this crate, and that its answers are one.
pub mod Decimals
pub mod Turns
pub mod Unique
