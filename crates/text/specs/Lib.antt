-- What the contracts of this crate speak of beside document 01's definitions.
pub mod Came
