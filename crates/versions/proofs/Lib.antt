-- Laws on the length of a moved table and on what a move answers, laws for the proofs of this crate, and that its answers are one.
pub mod Laid
pub mod Moves
pub mod Turns
pub mod Unique
