-- Laws for the proofs of this crate.
pub mod Form
pub mod Steps
pub mod Unique
