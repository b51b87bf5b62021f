-- Laws for the proofs of this crate, that what was said is known as said, and that its answer is one.
pub mod Splitting
pub mod Turns
pub mod Said
pub mod Unique
