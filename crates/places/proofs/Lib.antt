-- That the answer is one.
pub mod Unique
