-- What one line of a text for `aptime` says: what a reader must believe of its words (Words) and of the statement that they make
-- (Statements), and examples of both (Cases).
pub mod Words
pub mod Statements
pub mod Cases
