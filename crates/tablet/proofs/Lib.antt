-- Theorems over what a host program is answered.
pub mod Unique
pub mod Made
pub mod Figure
