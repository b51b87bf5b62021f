-- Laws for the proofs of this crate and of those above it.
pub mod Turns
pub mod Causes
pub mod StepFacts
pub mod Unique
