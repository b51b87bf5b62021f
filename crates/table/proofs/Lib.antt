-- Laws for the proofs of this crate and of those above it.
pub mod Climb
pub mod Shape
pub mod Rules
pub mod Reading
pub mod Descendants
pub mod SubTrees
pub mod Unique
