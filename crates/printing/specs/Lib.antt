-- What `aptime` prints: what a reader must believe of it (Printing), and examples (Cases).
pub mod Printing
pub mod Cases
