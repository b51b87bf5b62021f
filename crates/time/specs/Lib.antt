-- Request (iii) of document 02 as definitions: what a reader must believe, beside 003 section 13.2 and 001's six formulas. How to read
-- them is told in crates/rules/specs/Lib.antt. Read Annotations, Patterns, Normal; Search is how the code goes about it. What the sources
-- leave open and is chosen here: the coding of numbers and samples, and that of the intervals that satisfy the earliest is told.
pub mod Annotations
pub mod Patterns
pub mod Normal
pub mod Search
