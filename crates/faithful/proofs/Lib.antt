-- Theorems over the definitions of crate versions: what a moved table keeps. The theorems: Theorems (there and back, plan order, the
-- checks, the same calls and verdicts); the rest leads to them. That tables of which they speak exist is shown by rows of
-- crates/versions/specs.
pub mod InARow
pub mod Shape
pub mod MovedBytes
pub mod Passing
pub mod OneKind
pub mod PlanOrder
pub mod ThereAndBack
pub mod Numbers
pub mod Checked
pub mod Nodes
pub mod Passed
pub mod Theorems
