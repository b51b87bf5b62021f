-- Laws for the proofs of this crate.
pub mod Uses
pub mod Owners
pub mod Standing
pub mod Unique
