-- Tables that are alike give the same steps, answers and verdicts. The theorems: Theorems (the same calls and verdicts); the rest leads to
-- them.
pub mod Agree
pub mod SamePlans
pub mod Alike
pub mod Steps
pub mod Calls
pub mod Records
pub mod SubTrees
pub mod Theorems
