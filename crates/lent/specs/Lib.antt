-- What the contracts of this crate speak of beside document 01's definitions.
pub mod BodyRule
pub mod WordBits
pub mod Calls
