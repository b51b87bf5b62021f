-- Laws for the proofs of this crate, and that what it writes is one.
pub mod Inputs
pub mod Unique
