-- Laws for the proofs of this crate and of those above it.
pub mod ChildWords
pub mod TwoChildren
pub mod OrdersAt
pub mod Unique
