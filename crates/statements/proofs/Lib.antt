-- Laws for the proofs of this crate and of `aptime`, and that its answers are one.
pub mod Numerals
pub mod Scanning
pub mod Unique
