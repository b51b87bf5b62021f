-- What the theorems of this crate speak of beside the definitions of crate rules: what a reader must believe of document 02 (vii), Before,
-- and of (viii), Bound, with its rows, Cases; and what leads to the theorems.
pub mod Witness
pub mod PassesStates
pub mod BranchesAgree
pub mod Before
pub mod Bound
pub mod Cases
pub mod MovesLeft
