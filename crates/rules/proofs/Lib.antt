-- Laws of the definitions, for the proofs of this crate and of those above it.
pub mod Bodies
pub mod Codes
pub mod Digits
pub mod Known
pub mod Least
pub mod Below
pub mod Ranges
pub mod Derived
pub mod Outcomes
pub mod Tree
pub mod Same
pub mod Verdicts
pub mod Broken
pub mod Unique
