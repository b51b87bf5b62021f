-- What the contracts of this crate speak of beside the definitions of crate rules.
pub mod Checking
