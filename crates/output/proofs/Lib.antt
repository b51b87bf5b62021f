-- Laws for the proofs of this crate and of those that put bytes together.
pub mod Pieces
pub mod Unique
