-- Laws of binary words and of children, for the proofs of this crate and of those above it.
pub mod Bits
pub mod Kin
pub mod Changes
pub mod Sets
pub mod Unique
