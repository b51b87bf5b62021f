-- What contracts say of a search for the lowest number that passes a test.
pub mod Lowest
