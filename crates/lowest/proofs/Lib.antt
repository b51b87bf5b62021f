-- Laws of such a search.
pub mod Lowest
pub mod Ranges
