-- Laws of this crate: that its answers are one.
pub mod Unique
