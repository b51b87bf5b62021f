-- What the contracts of this crate and of those above it speak of beside document 01's definitions.
pub mod ChildWords
pub mod Tells
pub mod OrdersAt
pub mod StepFacts
