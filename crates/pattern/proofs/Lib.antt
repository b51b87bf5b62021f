-- What holds of the answers of this crate's public functions, and a law of lists that was theirs.
pub mod Written
pub mod Unique
