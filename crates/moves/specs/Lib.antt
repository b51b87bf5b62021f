-- What the contracts of this crate speak of beside document 01's definitions and those of crate family.
pub mod Parents
pub mod Causes
pub mod MoveFacts
