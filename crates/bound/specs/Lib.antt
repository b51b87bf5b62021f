-- What the contracts of this crate speak of beside the definitions of document 02 (viii) in crate demands.
pub mod Asked
