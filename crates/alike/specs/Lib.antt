-- What the theorems on tables that are alike come to: what a reader must believe of document 02 (vi), beside crates/versions/specs. How to
-- read it is told in crates/rules/specs/Lib.antt.
pub mod SameCalls
