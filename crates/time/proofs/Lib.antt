-- Laws of the definitions, for the proofs of crate `pattern`, and theorems over them. The theorems: Theorems (satisfied implies
-- satisfiable, a normal form admits the same intervals, normalising again changes nothing), Unique (one answer), Cases (small questions).
-- The rest leads to them, or shows that the code's way decides the definitions.
pub mod Tests
pub mod Ranges
pub mod Windows
pub mod Runs
pub mod Passes
pub mod Continued
pub mod Histories
pub mod Normals
pub mod Possibles
pub mod Theorems
pub mod Unique
pub mod Cases
